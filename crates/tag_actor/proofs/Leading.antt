-- Moves one after another make a turn.
use Rattle.std.proofs.Common.{◌≡◌, ℕ, ◌+◌, ◌<◌, true, false, ◌||◌, if◌then◌else◌, nat_lt, Option, Some, None, List, [], ◌∷◌, ◌++◌, refl, sym, ◌∙◌, ap, subst, arith}
use Rattle.std.proofs.lemmas.Bool.Decides.{nat_tests}
use Rattle.record_lane.specs.declared.record.Record.{Record}
use Rattle.record_lane.specs.declared.reply.Reply.{Reply}
use Rattle.record_lane.specs.declared.ring.Ring.{Ring}
use Rattle.record_lane.specs.declared.lane.Lane.{Lane}
use Rattle.tag_actor.specs.declared.answer.TagTurn.{TagTurn}
use Rattle.tag_actor.specs.declared.answer.TagTurn.TheVariants.{Went, Empty, NotYet, ReplyFull, Ended}
use Rattle.tag_actor.specs.declared.answer.Stop.{Stop}
use Rattle.tag_actor.specs.Seen.{TagActorSeen}
use Rattle.tag_actor.specs.Moves.{TagMove, Takes, Consumes, Leads, consumed_in, IsWaiting, IsWithoutRecord, HasPassed, HasInHand, HasSettled, SettledAs}
use Rattle.tag_actor.specs.Turns.{IsSameActor, has_moved, HasAdvanced, HasStopped, turn_answer, IsTurn, IsGoing}

leads_on : (a b c : TagActorSeen) (moves more : List TagMove) → Leads a moves b → Leads b more c → Leads a (moves ++ more) c
unfolding Leads
leads_on a b c [] more one two = subst (λ (t : TagActorSeen). Leads t more c) one two
leads_on a b c (move ∷ moves) more one two = (one.0, one.1, leads_on one.0 b c moves more one.2 two)

count_on : (moves more : List TagMove) → consumed_in (moves ++ more) ≡ consumed_in moves + consumed_in more
unfolding consumed_in
count_on [] more = omega arith
count_on (Takes item ∷ moves) more = count_on moves more
count_on (Consumes item found ∷ moves) more = omega (arith, count_on moves more)

-- ---- one record

pub passed_advances : (a b : TagActorSeen) → HasPassed a b → HasAdvanced a b
unfolding Leads consumed_in
passed_advances a b h = record {
  moves = Takes h.item ∷ Consumes h.item 0 ∷ [];
  leads = (h.between, h.takes, (b, h.consumes, refl));
  one = refl;
}

pub settled_advances : (a b : TagActorSeen) → HasSettled a b → HasAdvanced a b
unfolding Leads consumed_in
settled_advances a b h = record {
  moves = Consumes h.item h.found ∷ [];
  leads = (b, h.consumes, refl);
  one = refl;
}

pub taken_advances : (a m b : TagActorSeen) → HasInHand a m → HasSettled m b → HasAdvanced a b
unfolding Leads consumed_in
taken_advances a m b t h = record {
  moves = Takes t.item ∷ Consumes h.item h.found ∷ [];
  leads = (m, t.takes, (b, h.consumes, refl));
  one = refl;
}

pub empty_stops : (items : Ring Record) (replies : Lane Reply) (a b : TagActorSeen) → a.ended ≡ false → IsWithoutRecord items a b
    → HasStopped items replies a b (record { took = false; cause = Empty })
unfolding Leads consumed_in
empty_stops items replies a b going w = record {
  moves = [];
  last = a;
  leads = refl;
  none = refl;
  took = refl;
  waits = w;
  going = ap (λ (t : TagActorSeen). t.ended) w.after ∙ going;
}

-- what has to wait has not ended
settled_going : (items : Ring Record) (replies : Lane Reply) (a b : TagActorSeen) (cause : TagTurn) → a.ended ≡ false → SettledAs replies a b (Some cause) → (b.ended ≡ false) × IsWaiting items replies cause a b
settled_going items replies a b (NotYet word number seen) going w = (ap (λ (t : TagActorSeen). t.ended) w.after ∙ going, w)
settled_going items replies a b ReplyFull going w = (ap (λ (t : TagActorSeen). t.ended) w.after ∙ going, w)
settled_going items replies a b Went going w = absurd w
settled_going items replies a b Empty going w = absurd w
settled_going items replies a b Ended going w = absurd w

pub held_stops : (items : Ring Record) (replies : Lane Reply) (a b : TagActorSeen) (cause : TagTurn) → a.ended ≡ false → SettledAs replies a b (Some cause)
    → HasStopped items replies a b (record { took = false; cause = cause })
unfolding Leads consumed_in
held_stops items replies a b cause going w =
    let both = settled_going items replies a b cause going w in
    record { moves = []; last = a; leads = refl; none = refl; took = refl; waits = both.1; going = both.0 }

pub taken_stops : (items : Ring Record) (replies : Lane Reply) (a m b : TagActorSeen) (cause : TagTurn) → a.ended ≡ false → HasInHand a m → SettledAs replies m b (Some cause)
    → HasStopped items replies a b (record { took = true; cause = cause })
unfolding Leads consumed_in
taken_stops items replies a m b cause going t w =
    let both = settled_going items replies m b cause (ap (λ (u : TagActorSeen). u.ended) (t.takes).after ∙ going) w in
    record { moves = Takes t.item ∷ []; last = m; leads = (m, t.takes, refl); none = refl; took = refl; waits = both.1; going = both.0 }

-- ---- a turn

pub begins_going : (a : TagActorSeen) → a.ended ≡ false → IsGoing a a 0
unfolding Leads consumed_in
begins_going a going = record { moves = []; leads = refl; count = refl; fresh = λ e. refl; going = going }

pub goes_on : (a b c : TagActorSeen) (consumed : ℕ) → IsGoing a b consumed → HasAdvanced b c → c.ended ≡ false → IsGoing a c (consumed + 1)
goes_on a b c consumed g h going = record {
  moves = g.moves ++ h.moves;
  leads = leads_on a b c g.moves h.moves g.leads h.leads;
  count = omega (arith, count_on g.moves h.moves, g.count, h.one);
  fresh = λ e. absurd (omega arith);
  going = going;
}

pub rests : (items : Ring Record) (replies : Lane Reply) (quantum : ℕ) (a : TagActorSeen) → a.ended ≡ true → IsTurn items replies quantum a a Ended
unfolding Leads consumed_in
rests items replies quantum a over = record {
  moves = [];
  last = a;
  stop = None;
  leads = refl;
  stops = refl;
  most = omega arith;
  whole = λ e going. absurd (cc (over, going));
  answer_is = sym (ap (λ ended. turn_answer ended [] None) over);
}

pub ends_turn : (items : Ring Record) (replies : Lane Reply) (quantum consumed : ℕ) (a b c : TagActorSeen) → IsGoing a b consumed → HasAdvanced b c → consumed < quantum → c.ended ≡ true
    → IsTurn items replies quantum a c Ended
ends_turn items replies quantum consumed a b c g h less over = record {
  moves = g.moves ++ h.moves;
  last = c;
  stop = None;
  leads = leads_on a b c g.moves h.moves g.leads h.leads;
  stops = refl;
  most = omega (arith, count_on g.moves h.moves, g.count, h.one);
  whole = λ e going. absurd (cc (over, going));
  answer_is = sym (ap (λ ended. turn_answer ended (g.moves ++ h.moves) None) over);
}

moved : (moves : List TagMove) → 0 < consumed_in moves → has_moved moves ≡ true
unfolding consumed_in
moved [] h = absurd (omega arith)
moved (move ∷ moves) h = refl

went_on : (moves : List TagMove) (stop : Option TagTurn) → has_moved moves ≡ true → turn_answer false moves stop ≡ Went
went_on [] stop h = absurd (cc)
went_on (move ∷ moves) stop h = refl

pub whole_turn : (items : Ring Record) (replies : Lane Reply) (quantum consumed : ℕ) (a b : TagActorSeen) → IsGoing a b consumed → 0 < quantum → consumed ≡ quantum
    → IsTurn items replies quantum a b Went
whole_turn items replies quantum consumed a b g some full = record {
  moves = g.moves;
  last = b;
  stop = None;
  leads = g.leads;
  stops = refl;
  most = omega (arith, g.count);
  whole = λ e going. g.count ∙ full;
  answer_is = sym (ap (λ ended. turn_answer ended g.moves None) g.going ∙ went_on g.moves None (moved g.moves (omega (arith, g.count))));
}

-- the answer of a turn that has to wait
stop_answer : (before more : List TagMove) (cause : TagTurn) → (if has_moved before || has_moved more then Went else cause) ≡ turn_answer false (before ++ more) (Some cause)
stop_answer [] [] cause = refl
stop_answer [] (move ∷ more) cause = refl
stop_answer (first ∷ before) more cause = refl

moved_is : (moves : List TagMove) (consumed : ℕ) → consumed_in moves ≡ consumed → (consumed ≡ 0 → moves ≡ []) → has_moved moves ≡ nat_lt 0 consumed
unfolding consumed_in
moved_is [] consumed count fresh = ap (nat_lt 0) count
moved_is (move ∷ moves) consumed count fresh =
    let some : 0 < consumed = above consumed (λ none. absurd (cc (fresh none))) in
    sym (grind (arith, nat_tests))
  where
    above : (n : ℕ) → (n ≡ 0 → ⊥) → 0 < n
    above n h = omega arith

pub stops_turn : (items : Ring Record) (replies : Lane Reply) (quantum consumed : ℕ) (a b c : TagActorSeen) (stop : Stop) (answer : TagTurn) → IsGoing a b consumed
    → HasStopped items replies b c stop → consumed < quantum → answer ≡ (if nat_lt 0 consumed || stop.took then Went else stop.cause)
    → IsTurn items replies quantum a c answer
stops_turn items replies quantum consumed a b c stop answer g h less answered = record {
  moves = g.moves ++ h.moves;
  last = h.last;
  stop = Some stop.cause;
  leads = leads_on a b h.last g.moves h.moves g.leads h.leads;
  stops = h.waits;
  most = omega (arith, count_on g.moves h.moves, g.count, h.none);
  whole = λ e. absurd (cc);
  answer_is =
      answered
      ∙ ap (λ went. if went || stop.took then Went else stop.cause) (sym (moved_is g.moves consumed g.count g.fresh))
      ∙ ap (λ took. if has_moved g.moves || took then Went else stop.cause) h.took
      ∙ stop_answer g.moves h.moves stop.cause
      ∙ sym (ap (λ ended. turn_answer ended (g.moves ++ h.moves) (Some stop.cause)) h.going);
}

-- ---- the same actor

pub same_self : (a : TagActorSeen) → IsSameActor a a
same_self a = record { policy = refl; pass = record { table = refl; terms = refl; caller = refl }; taker = λ ring h. h; sender = λ lane h. h }

pub same_on : (a b c : TagActorSeen) → IsSameActor a b → IsSameActor b c → IsSameActor a c
same_on a b c one two = record {
  policy = two.policy ∙ one.policy;
  pass = record {
    table = (two.pass).table ∙ (one.pass).table;
    terms = (two.pass).terms ∙ (one.pass).terms;
    caller = (two.pass).caller ∙ (one.pass).caller;
  };
  taker = λ ring h. two.taker ring (one.taker ring h);
  sender = λ lane h. two.sender lane (one.sender lane h);
}
