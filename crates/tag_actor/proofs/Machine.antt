-- The moves of an actor are moves of the machine.
use Rattle.std.proofs.Common.{◌≡◌, ℕ, ◌<◌, Bool, true, false, ◌&&◌, not, slice_get, slice_index, slice_index_or, slice_set, Option, Some, None, option_to_list, List, [], ◌∷◌, ◌++◌, map, length, drop, refl, sym, ◌∙◌, ap, ap₂, subst, eq-eqb, get_or-set_same}
use Rattle.std.specs.Option.{option_map_or}
use Rattle.record_lane.specs.declared.record.Record.{Record}
use Rattle.record_lane.specs.declared.record.Record.TheVariants.{Quiet, Blank, Touch, Meet, Back, End}
use Rattle.record_lane.specs.declared.reply.Reply.{Reply}
use Rattle.record_lane.specs.declared.ring.Ring.{Ring}
use Rattle.record_lane.specs.declared.lane.Lane.{Lane}
use Rattle.order_core.specs.declared.shape.Move.TheVariants.{Serve, Reply as Replies}
use Rattle.order_core.specs.declared.shape.Queued.{Queued}
use Rattle.order_core.specs.declared.shape.CoreQueue.{CoreQueue}
use Rattle.order_core.specs.Protocol.{Protocol, core_at, act, no_core, shape_is_next, is_meet, without_first, replied}
use Rattle.tag_actor.specs.Seen.{TagActorSeen}
use Rattle.tag_actor.specs.Moves.{HasTaken, TagMove, Takes, Consumes, Leads}
use Rattle.tag_actor.specs.Turns.{StopsFor, IsTurn}
use Rattle.tag_actor.specs.declared.answer.TagTurn.{TagTurn}
use Rattle.tag_actor.specs.declared.answer.TagTurn.TheVariants.{Went, Empty, NotYet, ReplyFull, Ended}
use Rattle.actor_lists.specs.Queued.{queued_of}
use Rattle.tag_actor.specs.Machine.{machine_move, HasLane, IsItsTurn, HasFollowed, MovesOfTheMachine, LeadsInMachine, IsTurnOfTheMachine}

-- a record that comes into the hand
takes_nothing : (a b : TagActorSeen) (item : Record) (s : Protocol) (core : ℕ) (queue left : List Queued)
    → HasTaken a item b → HasLane s core a.hand queue → queue ≡ queued_of item ∷ left → HasFollowed s core None b.hand left
takes_nothing a b item s core queue left h lane shown = record {
  after = s;
  steps = refl;
  lane =
      lane ∙ ap (λ (hand : Option Record). map queued_of (option_to_list hand) ++ queue) h.free ∙ shown
      ∙ sym (ap (λ (t : TagActorSeen). map queued_of (option_to_list t.hand) ++ left) h.after);
}

-- the lane of a record in the hand
held_lane : (a : TagActorSeen) (item : Record) (s : Protocol) (core : ℕ) (queue : List Queued) → a.hand ≡ Some item → HasLane s core a.hand queue
    → ((core_at s core).lane).items ≡ queued_of item ∷ queue
held_lane a item s core queue held lane = lane ∙ ap (λ (hand : Option Record). map queued_of (option_to_list hand) ++ queue) held

-- a core that is put back is found
put_back : (s : Protocol) (core : ℕ) (after : CoreQueue) → core < length s.cores → slice_index_or (slice_set s.cores core after) core no_core ≡ after
put_back s core after below = get_or-set_same s.cores core after no_core below

serves : (s : Protocol) (core : ℕ) (item : Record) (queue : List Queued) → core < length s.cores → ((core_at s core).lane).items ≡ queued_of item ∷ queue
    → shape_is_next s.served (queued_of item).number (queued_of item).shape ≡ true
    → HasFollowed s core (Some (Serve core)) None queue
serves s core item queue below lane next = record {
  after = act s (Serve core);
  steps = (ap (λ (xs : List Queued). option_map_or (λ (q : Queued). shape_is_next s.served q.number q.shape) (slice_get xs 0) false) lane ∙ next, refl);
  lane = ap (λ (c : CoreQueue). (c.lane).items) (put_back s core (without_first (core_at s core)) below) ∙ ap (drop 1) lane;
}

replies : (s : Protocol) (core : ℕ) (item : Record) (queue : List Queued) → core < length s.cores → ((core_at s core).lane).items ≡ queued_of item ∷ queue
    → is_meet (queued_of item).shape ≡ true → (core_at s core).reply ≡ false
    → HasFollowed s core (Some (Replies core)) None queue
replies s core item queue below lane meet room = record {
  after = act s (Replies core);
  steps = (
    ap (λ (xs : List Queued). option_map_or (λ (q : Queued). is_meet q.shape) (slice_get xs 0) false && not (core_at s core).reply) lane
        ∙ ap₂ (λ (first full : Bool). first && not full) meet room,
    refl,
  );
  lane = ap (λ (c : CoreQueue). (c.lane).items) (put_back s core (replied (core_at s core)) below) ∙ ap (drop 1) lane;
}

pub machine_moves : MovesOfTheMachine
machine_moves core a b (Takes item) h s queue left below lane shown = takes_nothing a b item s core queue left h lane shown
machine_moves core a b (Consumes item found) h s queue left below lane shown =
    subst (λ (hand : Option Record). HasFollowed s core (machine_move core (Consumes item found)) hand left) (sym h.hand)
    (consumes item shown.1 (held_lane a item s core left h.held (lane ∙ ap (λ (q : List Queued). map queued_of (option_to_list a.hand) ++ q) shown.0)))
  where
    consumes : (r : Record) → IsItsTurn s core r → ((core_at s core).lane).items ≡ queued_of r ∷ left → HasFollowed s core (machine_move core (Consumes r found)) None left
    consumes (Quiet step pc insn faulted) turn is = serves s core (Quiet step pc insn faulted) left below is refl
    consumes (Blank step pc) turn is = serves s core (Blank step pc) left below is refl
    consumes (Touch step pc word number why) turn is = serves s core (Touch step pc word number why) left below is (eq-eqb number (slice_index s.served word) turn)
    consumes (Meet step pc call kind) turn is = replies s core (Meet step pc call kind) left below is refl turn
    consumes (Back step pc) turn is = serves s core (Back step pc) left below is refl
    consumes End turn is = serves s core End left below is refl

-- ---- a turn

leads_in : (core : ℕ) (a b : TagActorSeen) (moves : List TagMove) → Leads a moves b → LeadsInMachine core a moves b
unfolding Leads LeadsInMachine
leads_in core a b [] h = h
leads_in core a b (move ∷ moves) h = (h.0, h.1, machine_moves core a h.0 move h.1, leads_in core h.0 b moves h.2)

stop_hand : (items : Ring Record) (replies : Lane Reply) (stop : Option TagTurn) (a b : TagActorSeen) → StopsFor items replies stop a b → b.hand ≡ a.hand
stop_hand items replies None a b is = ap (λ (t : TagActorSeen). t.hand) is
stop_hand items replies (Some Went) a b w = absurd w
stop_hand items replies (Some Empty) a b w = ap (λ (t : TagActorSeen). t.hand) w.after
stop_hand items replies (Some (NotYet word number seen)) a b w = ap (λ (t : TagActorSeen). t.hand) w.after
stop_hand items replies (Some ReplyFull) a b w = ap (λ (t : TagActorSeen). t.hand) w.after
stop_hand items replies (Some Ended) a b w = absurd w

pub turn_in : (items : Ring Record) (replies : Lane Reply) (quantum : ℕ) (a b : TagActorSeen) (answer : TagTurn) → IsTurn items replies quantum a b answer
    → (core : ℕ) → IsTurnOfTheMachine core a b
turn_in items replies quantum a b answer t core = record {
  moves = t.moves;
  last = t.last;
  leads = leads_in core a t.last t.moves t.leads;
  hand = stop_hand items replies t.stop t.last b t.stops;
}
