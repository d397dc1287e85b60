-- A turn answers that it went exactly where a list became longer, and that it has ended exactly where it has.
use Rattle.std.proofs.Common.{◌≡◌, ◌↔◌, inl, inr, ℕ, ◌<◌, ◌≤◌, Bool, true, false, Option, Some, None, List, [], ◌∷◌, map, length, length-append, refl, sym, ◌∙◌, ap, subst, arith}
use Rattle.record_lane.specs.declared.record.Record.{Record}
use Rattle.record_lane.specs.declared.record.Record.TheVariants.{Quiet, Blank, Touch, Meet, Back, End}
use Rattle.record_lane.specs.declared.reply.Reply.{Reply}
use Rattle.record_lane.specs.declared.ring.Ring.{Ring}
use Rattle.record_lane.specs.declared.ring_token.RingTaker.{RingTaker}
use Rattle.record_lane.specs.declared.lane.Lane.{Lane}
use Rattle.record_lane.specs.Rings.{taken_by}
use Rattle.record_lane.specs.Lanes.{sent_by}
use Rattle.tag_registers.specs.Folds.{access_of, reply_to}
use Rattle.ticket_table.specs.Passes.{PassSeen}
use Rattle.actor_lists.specs.Folded.{change_by}
use Rattle.tag_actor.specs.declared.answer.TagTurn.{TagTurn}
use Rattle.tag_actor.specs.declared.answer.TagTurn.TheVariants.{Went, Empty, NotYet, ReplyFull, Ended}
use Rattle.tag_actor.specs.Seen.{TagActorSeen, must_wait}
use Rattle.tag_actor.specs.Standing.{IsTagActor}
use Rattle.tag_actor.specs.Moves.{HasTaken, HasConsumed, TagMove, Takes, Consumes, IsMove, Leads, consumed_in, IsWaiting}
use Rattle.tag_actor.specs.Turns.{StopsFor, turn_answer, IsTurn, HasGrown}

-- no list has become shorter
record IsLonger (a b : TagActorSeen) : Type 0 where
  taken : length (taken_by a.taker) ≤ length (taken_by b.taker)
  sent : length (sent_by a.sender) ≤ length (sent_by b.sender)
  changes : length (a.pass).changes ≤ length (b.pass).changes

longer_on : (a b c : TagActorSeen) → IsLonger a b → IsLonger b c → IsLonger a c
longer_on a b c one two = record { taken = omega arith; sent = omega arith; changes = omega arith }

same_longer : (a b : TagActorSeen) → b ≡ a → IsLonger a b
same_longer a b is = record {
  taken = omega (arith, ap (λ (t : TagActorSeen). length (taken_by t.taker)) is);
  sent = omega (arith, ap (λ (t : TagActorSeen). length (sent_by t.sender)) is);
  changes = omega (arith, ap (λ (t : TagActorSeen). length (t.pass).changes) is);
}

taking_longer : (a b : TagActorSeen) (item : Record) → HasTaken a item b → IsLonger a b
taking_longer a b item h = record {
  taken = omega (arith, ap length h.taken, length-append (taken_by a.taker) (item ∷ []));
  sent = omega (arith, ap (λ (t : TagActorSeen). length (sent_by t.sender)) h.after);
  changes = omega (arith, ap (λ (t : TagActorSeen). length (t.pass).changes) h.after);
}

consuming_longer : (a b : TagActorSeen) (item : Record) (found : ℕ) → HasConsumed a item found b → IsLonger a b
consuming_longer a b item found h = record {
  taken = omega (arith, ap (λ (taker : RingTaker Record). length (taken_by taker)) h.taker);
  sent = omega (arith, ap length h.replies, length-append (sent_by a.sender) (reply_to a.policy a.tags item found));
  changes = omega (arith, ap length h.changes, length-append (a.pass).changes (map (change_by (a.pass).terms (a.pass).caller) (access_of a.policy a.tags item found)));
}

move_longer : (a b : TagActorSeen) (move : TagMove) → IsMove a move b → IsLonger a b
move_longer a b (Takes item) h = taking_longer a b item h
move_longer a b (Consumes item found) h = consuming_longer a b item found h

leads_longer : (a b : TagActorSeen) (moves : List TagMove) → Leads a moves b → IsLonger a b
unfolding Leads
leads_longer a b [] h = same_longer a b h
leads_longer a b (move ∷ moves) h = longer_on a h.0 b (move_longer a h.0 move h.1) (leads_longer h.0 b moves h.2)

-- what has to wait keeps its lists
record HasSameLists (a b : TagActorSeen) : Type 0 where
  taken : taken_by b.taker ≡ taken_by a.taker
  sent : sent_by b.sender ≡ sent_by a.sender
  changes : (b.pass).changes ≡ (a.pass).changes

waiting_same : (items : Ring Record) (replies : Lane Reply) (cause : TagTurn) (a b : TagActorSeen) → IsWaiting items replies cause a b → HasSameLists a b
waiting_same items replies Went a b w = absurd w
waiting_same items replies Empty a b w = record { taken = w.taken; sent = ap (λ (t : TagActorSeen). sent_by t.sender) w.after; changes = ap (λ (t : TagActorSeen). (t.pass).changes) w.after }
waiting_same items replies (NotYet word number seen) a b w = record {
  taken = ap (λ (t : TagActorSeen). taken_by t.taker) w.after;
  sent = ap (λ (t : TagActorSeen). sent_by t.sender) w.after;
  changes = ap (λ (p : PassSeen). p.changes) (w.cause).3;
}
waiting_same items replies ReplyFull a b w = record { taken = ap (λ (t : TagActorSeen). taken_by t.taker) w.after; sent = w.sent; changes = ap (λ (t : TagActorSeen). (t.pass).changes) w.after }
waiting_same items replies Ended a b w = absurd w

stop_same : (items : Ring Record) (replies : Lane Reply) (stop : Option TagTurn) (a b : TagActorSeen) → StopsFor items replies stop a b → HasSameLists a b
stop_same items replies None a b is = record {
  taken = ap (λ (t : TagActorSeen). taken_by t.taker) is;
  sent = ap (λ (t : TagActorSeen). sent_by t.sender) is;
  changes = ap (λ (t : TagActorSeen). (t.pass).changes) is;
}
stop_same items replies (Some cause) a b w = waiting_same items replies cause a b w

lists_longer : (a b : TagActorSeen) → HasSameLists a b → IsLonger a b
lists_longer a b h = record { taken = omega (arith, ap length h.taken); sent = omega (arith, ap length h.sent); changes = omega (arith, ap length h.changes) }

-- ---- growth

grown_on : (a b c : TagActorSeen) → HasGrown a b → IsLonger b c → HasGrown a c
grown_on a b c (inl taken) l = inl (omega (arith, l.taken))
grown_on a b c (inr (inl sent)) l = inr (inl (omega (arith, l.sent)))
grown_on a b c (inr (inr changes)) l = inr (inr (omega (arith, l.changes)))

not_grown : (a b : TagActorSeen) → HasSameLists a b → HasGrown a b → ⊥
not_grown a b h (inl taken) = omega (arith, ap length h.taken)
not_grown a b h (inr (inl sent)) = omega (arith, ap length h.sent)
not_grown a b h (inr (inr changes)) = omega (arith, ap length h.changes)

-- a record that has to wait changes its word or is answered
consuming_grows : (a b : TagActorSeen) (item : Record) (found : ℕ) → must_wait item ≡ true → HasConsumed a item found b → HasGrown a b
consuming_grows a b (Touch step pc word number why) found waits h =
    inr (inr (omega (
      arith,
      ap length h.changes,
      length-append (a.pass).changes (map (change_by (a.pass).terms (a.pass).caller) (access_of a.policy a.tags (Touch step pc word number why) found)),
    )))
consuming_grows a b (Meet step pc call kind) found waits h =
    inr (inl (omega (arith, ap length h.replies, length-append (sent_by a.sender) (reply_to a.policy a.tags (Meet step pc call kind) found))))
consuming_grows a b (Quiet step pc insn faulted) found waits h = absurd (cc)
consuming_grows a b (Blank step pc) found waits h = absurd (cc)
consuming_grows a b (Back step pc) found waits h = absurd (cc)
consuming_grows a b End found waits h = absurd (cc)

first_grows : (a b : TagActorSeen) (move : TagMove) → IsTagActor a → IsMove a move b → HasGrown a b
first_grows a b (Takes item) t h = inl (omega (arith, ap length h.taken, length-append (taken_by a.taker) (item ∷ [])))
first_grows a b (Consumes item found) t h = consuming_grows a b item found (t.waits item h.held) h

moves_grow : (a b : TagActorSeen) (move : TagMove) (moves : List TagMove) → IsTagActor a → Leads a (move ∷ moves) b → HasGrown a b
unfolding Leads
moves_grow a b move moves t h = grown_on a h.0 b (first_grows a h.0 move t h.1) (leads_longer h.0 b moves h.2)

no_moves : (a b : TagActorSeen) → Leads a [] b → b ≡ a
unfolding Leads
no_moves a b h = h

-- ---- the answer

none_consumed : consumed_in [] ≡ 0
unfolding consumed_in
none_consumed = refl

went_or_stopped : (items : Ring Record) (replies : Lane Reply) (quantum : ℕ) (a last b : TagActorSeen) (moves : List TagMove) (stop : Option TagTurn)
    → IsTagActor a → 0 < quantum → Leads a moves last → StopsFor items replies stop last b → (stop ≡ None → b.ended ≡ false → consumed_in moves ≡ quantum) → b.ended ≡ false
    → (turn_answer false moves stop ≡ Went) ↔ HasGrown a b
went_or_stopped items replies quantum a last b (move ∷ moves) stop t some leads stops whole going =
    (λ e. grown_on a last b (moves_grow a last move moves t leads) (lists_longer last b (stop_same items replies stop last b stops)), λ h. refl)
went_or_stopped items replies quantum a last b [] None t some leads stops whole going =
    (λ e. absurd (omega (arith, whole refl going, none_consumed)), λ h. refl)
went_or_stopped items replies quantum a last b [] (Some cause) t some leads stops whole going = (
  λ e. absurd (subst (λ (c : TagTurn). IsWaiting items replies c last b) e stops),
  λ h. absurd (not_grown a b (subst (λ (u : TagActorSeen). HasSameLists u b) (no_moves a last leads) (waiting_same items replies cause last b stops)) h),
)

answer_ended : (items : Ring Record) (replies : Lane Reply) (last b : TagActorSeen) (moves : List TagMove) (stop : Option TagTurn)
    → StopsFor items replies stop last b → turn_answer false moves stop ≡ Ended → ⊥
answer_ended items replies last b (move ∷ moves) stop stops e = absurd (cc)
answer_ended items replies last b [] None stops e = absurd (cc)
answer_ended items replies last b [] (Some Went) stops e = absurd (cc)
answer_ended items replies last b [] (Some Empty) stops e = absurd (cc)
answer_ended items replies last b [] (Some (NotYet word number seen)) stops e = absurd (cc)
answer_ended items replies last b [] (Some ReplyFull) stops e = absurd (cc)
answer_ended items replies last b [] (Some Ended) stops e = absurd stops

pub ended_is : (items : Ring Record) (replies : Lane Reply) (quantum : ℕ) (a b : TagActorSeen) (answer : TagTurn) → IsTurn items replies quantum a b answer → (answer ≡ Ended) ↔ (b.ended ≡ true)
ended_is items replies quantum a b answer t = by_end b.ended refl
  where
    is_answer : (e : Bool) → b.ended ≡ e → answer ≡ turn_answer e t.moves t.stop
    is_answer e is = t.answer_is ∙ ap (λ ended. turn_answer ended t.moves t.stop) is

    by_end : (e : Bool) → b.ended ≡ e → (answer ≡ Ended) ↔ (b.ended ≡ true)
    by_end true is = (λ e. is, λ e. is_answer true is)
    by_end false is = (λ e. absurd (answer_ended items replies t.last b t.moves t.stop t.stops (sym (is_answer false is) ∙ e)), λ over. absurd (cc (is, over)))

pub went_is : (items : Ring Record) (replies : Lane Reply) (quantum : ℕ) (a v b : TagActorSeen) (answer : TagTurn) → v ≡ a → IsTagActor v → 0 < quantum → IsTurn items replies quantum a b answer
    → (answer ≡ Went) ↔ ((b.ended ≡ false) × HasGrown a b)
went_is items replies quantum a v b answer is h some t = by_end b.ended refl
  where
    is_answer : (e : Bool) → b.ended ≡ e → answer ≡ turn_answer e t.moves t.stop
    is_answer e same = t.answer_is ∙ ap (λ ended. turn_answer ended t.moves t.stop) same

    by_end : (e : Bool) → b.ended ≡ e → (answer ≡ Went) ↔ ((b.ended ≡ false) × HasGrown a b)
    by_end true over = (λ e. absurd (cc (is_answer true over, e)), λ both. absurd (cc (over, both.0)))
    by_end false going =
        let went : (turn_answer false t.moves t.stop ≡ Went) ↔ HasGrown a b =
        went_or_stopped items replies quantum a t.last b t.moves t.stop (subst IsTagActor is h) some t.leads t.stops t.whole going in
        (λ e. (going, went.0 (sym (is_answer false going) ∙ e)), λ both. is_answer false going ∙ went.1 both.1)
