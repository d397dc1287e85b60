-- A turn, as far as its steps have come.
use Rattle.std.proofs.Common.{◌≡◌, ℕ, ◌+◌, ◌-◌, ◌<◌, ◌≤◌, Bool, true, false, ◌||◌, if◌then◌else◌, List, [], ◌∷◌, ◌++◌, Option, Some, None, length, refl, sym, ap, ◌∙◌, subst, inl, inr, arith}
use Rattle.std.specs.Prelude.{IsSome}
use Rattle.record_lane.specs.declared.record.Record.{Record}
use Rattle.record_lane.specs.declared.reply.Reply.{Reply}
use Rattle.record_lane.specs.declared.ring.Ring.{Ring}
use Rattle.record_lane.specs.declared.ring_token.RingSender.{RingSender}
use Rattle.record_lane.specs.declared.lane.Lane.{Lane}
use Rattle.record_lane.specs.declared.lane_token.Taker.{Taker}
use Rattle.record_lane.specs.Histories.{IsPrefix}
use Rattle.record_lane.specs.Lanes.{taken_by, seen_by}
use Rattle.ticket_table.specs.Passes.{TableSeen}
use Rattle.bounded_list.specs.Bounded.{Bounded}
use Rattle.order_core.specs.declared.shape.Queued.{Queued}
use Rattle.order_core.specs.Protocol.{is_free}
use Rattle.syscall_drain.specs.Programs.{Program}
use Rattle.syscall_drain.specs.Locals.{Local}
use Rattle.hart_actor.specs.declared.stage.Stage.TheVariants.{Going, Closed}
use Rattle.hart_actor.specs.declared.turn.HartTurn.{HartTurn}
use Rattle.hart_actor.specs.declared.turn.HartTurn.TheVariants.{Went, Full, Waits, Ended}
use Rattle.hart_actor.specs.Harts.{Hart, HasEnded}
use Rattle.hart_actor.specs.Objects.{AreOf, IsSameHart}
use Rattle.hart_actor.specs.Moves.{HartMove, Commit, Send, Resume, IsMove, Leads, Side, side_of, core_with, is_meeting}
use Rattle.hart_actor.specs.Turns.{size, HasSent, HasSentSince, HasTakenSince, IsFull, IsHeld, Grows, HasMoved, HasStepped, HasTurned}
use Rattle.hart_actor.specs.declared.turn.Step.TheVariants.{Full as IsBlocked, Waits as IsWaiting, Ended as IsOver}

-- ---- the same actor

pub same_self : (h : Hart) → IsSameHart h h
same_self h = record { program = refl; budget = refl; core = refl; table = refl; terms = refl; sender = λ items s. s; taker = λ replies t. t }

pub same_more : (a b c : Hart) → IsSameHart a b → IsSameHart b c → IsSameHart a c
same_more a b c first second = record {
  program = second.program ∙ first.program;
  budget = second.budget ∙ first.budget;
  core = second.core ∙ first.core;
  table = second.table ∙ first.table;
  terms = second.terms ∙ first.terms;
  sender = λ items s. second.sender items (first.sender items s);
  taker = λ replies t. second.taker replies (first.taker replies t);
}

pub same_are_of : (a b : Hart) (program : Program) (memory : TableSeen) (items : Ring Record) (replies : Lane Reply) → AreOf a program memory items replies → IsSameHart a b → AreOf b program memory items replies
same_are_of a b program memory items replies are same = record {
  guest = same.program ∙ are.guest;
  words = are.words;
  pass = (same.table ∙ are.pass.0, same.terms ∙ are.pass.1);
  sender = same.sender items are.sender;
  taker = same.taker replies are.taker;
  item_words = are.item_words;
  item_top = are.item_top;
}

-- ---- what grew

grows_more : (went grown : Bool) (a b c : Hart) → Grows went a b → Grows grown b c → Grows (went || grown) a c
grows_more true true a b c first second = omega (arith, first, second)
grows_more true false a b c first second = omega (arith, first, second)
grows_more false true a b c first second = omega (arith, first, second)
grows_more false false a b c first second = second ∙ first

sent_more : (a b c : RingSender Record) → HasSentSince a b → HasSentSince b c → HasSentSince a c
sent_more a b c (inl first) (inl second) = inl (second ∙ first)
sent_more a b c (inl first) (inr second) = inr (subst (λ (s : RingSender Record). HasSent s c) first second)
sent_more a b c (inr first) (inl second) = inr (subst (λ (s : RingSender Record). HasSent a s) (sym second) first)
sent_more a b c (inr first) (inr second) = inr (omega (arith, first.0, second.0), omega (arith, first.1, second.1))

taken_more : (a b c : Taker Reply) → HasTakenSince a b → HasTakenSince b c → HasTakenSince a c
taken_more a b c (inl first) (inl second) = inl (second ∙ first)
taken_more a b c (inl first) (inr second) = inr (omega (arith, second.0, ap (λ t. length (taken_by t)) first), second.1)
taken_more a b c (inr first) (inl second) = inr (subst (λ (t : Taker Reply). (length (taken_by a) < length (taken_by t)) × IsPrefix (taken_by t) (seen_by t)) (sym second) first)
taken_more a b c (inr first) (inr second) = inr (omega (arith, first.0, second.0), second.1)

-- ---- the moves

leads_more : (moves : List HartMove) (move : HartMove) (a b c : Side) → Leads moves a b → IsMove move b c → Leads (moves ++ move ∷ []) a c
unfolding Leads
leads_more [] move a b c path is = (c, subst (λ (s : Side). IsMove move s c) (sym path) is, refl)
leads_more (first ∷ rest) move a b c path is = (path.0, path.1, leads_more rest move path.0 b c path.2 is)

no_moves : (s : Side) → Leads [] s s
unfolding Leads
no_moves s = refl

-- an actor that has ended makes no move
closed_core : (s : Side) (lane : Bounded Queued) (reply : Bool) → s.stage ≡ Closed → s.unsent ≡ None → is_free (core_with lane reply s) ≡ false
closed_core s lane reply closed sent = rw (sent, closed) refl

none_unsent : (unsent : Option Record) → unsent ≡ None → IsSome unsent → ⊥
none_unsent None none some = cc
none_unsent (Some item) none some = cc

ended_stays : (move : HartMove) (old new : Side) → old.stage ≡ Closed → old.unsent ≡ None → IsMove move old new → ⊥
ended_stays (Commit queued) old new closed sent is =
    let free = is.free (record { items = []; room = 0 }) false in
    let none = closed_core old (record { items = []; room = 0 }) false closed sent in cc
ended_stays Send old new closed sent is = none_unsent old.unsent sent is.unsent
ended_stays Resume old new closed sent is =
    let waiting = is.waiting.1 in
    let none = ap is_meeting closed in cc

-- ---- a turn

pub record Along (went : Bool) (left quantum : ℕ) (old new : Hart) : Type 0 where
  pub same : IsSameHart old new
  pub moves : List HartMove
  pub path : Leads moves (side_of old) (side_of new)
  pub sender : HasSentSince old.sender new.sender
  pub taker : HasTakenSince old.taker new.taker
  pub count : new.local.units + left ≡ old.local.units + quantum
  pub grows : Grows went old new
  pub over : HasEnded old → new ≡ old

pub along_begins : (quantum : ℕ) (h : Hart) → Along false quantum quantum h h
along_begins quantum h = record {
  same = same_self h;
  moves = [];
  path = no_moves (side_of h);
  sender = inl refl;
  taker = inl refl;
  count = refl;
  grows = refl;
  over = λ ended. refl;
}

pub along_more : (went grown : Bool) (left units quantum : ℕ) (a b c : Hart) → Along went left quantum a b → 1 ≤ left → IsSameHart b c → HasMoved units grown b c → Along (went || grown) (left - units) quantum a c
along_more went grown left units quantum a b c along some same moved =
    let step = moved.0 in
    let few = moved.2 in record {
      same = same_more a b c along.same same;
      moves = along.moves ++ step.move ∷ [];
      path = leads_more along.moves step.move (side_of a) (side_of b) (side_of c) along.path step.is;
      sender = sent_more a.sender b.sender c.sender along.sender step.sender;
      taker = taken_more a.taker b.taker c.taker along.taker step.taker;
      count = omega (arith, along.count, step.units_are, few, some);
      grows = grows_more went grown a b c along.grows moved.1;
      over = λ ended. absurd (ended_stays step.move (side_of b) (side_of c) (ap (λ (h : Hart). h.stage) (along.over ended) ∙ ended.closed) (ap (λ (h : Hart). h.unsent) (along.over ended) ∙ ended.sent) step.is);
    }

-- ---- the end of a turn

pub record TurnEnds (items : Ring Record) (replies : Lane Reply) (quantum : ℕ) (old new : Hart) (result : HartTurn) : Type 0 where
  pub same : IsSameHart old new
  pub answer : HasTurned items replies quantum old new result
  pub units : new.local.units ≤ old.local.units + quantum
  pub over : HasEnded old → new ≡ old
  pub moves : (moves : List HartMove) × Leads moves (side_of old) (side_of new)

going_on : (h : Hart) → h.stage ≡ Going → HasEnded h → ⊥
going_on h going ended = let closed = ended.closed in cc

full_goes_on : (items : Ring Record) (old new : Hart) → IsFull items old new → HasEnded new → ⊥
full_goes_on items old new full ended = none_unsent new.unsent ended.sent full.0

held_goes_on : (replies : Lane Reply) (old new : Hart) → IsHeld replies old new → HasEnded new → ⊥
held_goes_on replies old new held ended =
    let waiting = held.1 in
    let none = ap is_meeting ended.closed in cc

-- all its units are done
pub turn_done : (items : Ring Record) (replies : Lane Reply) (went grown : Bool) (left units quantum : ℕ) (a b c : Hart) → Along went left quantum a b → 1 ≤ left → IsSameHart b c → HasMoved units grown b c → left - units ≡ 0
    → TurnEnds items replies quantum a c Went
turn_done items replies went grown left units quantum a b c along some same moved none =
    let now = along_more went grown left units quantum a b c along some same moved in
    let one : units ≡ 1 = omega (arith, some, none, moved.2) in
    let unit = moved.3 one in record {
      same = now.same;
      answer = (going_on c unit.1, grown_all went grown unit.0 now.grows, inl (omega (arith, now.count, none)));
      units = omega (arith, now.count, none);
      over = now.over;
      moves = (now.moves, now.path);
    }
  where
    grown_all : (w g : Bool) → g ≡ true → Grows (w || g) a c → size a < size c
    grown_all true g is grows = grows
    grown_all false true is grows = grows
    grown_all false false is grows = cc

-- a step that moved nothing
record Rests (b c : Hart) : Type 0 where
  side : side_of c ≡ side_of b
  local : c.local ≡ b.local
  sizes : size c ≡ size b

grows_rests : (went : Bool) (a b c : Hart) → Rests b c → Grows went a b → Grows went a c
grows_rests true a b c rests grows = omega (arith, rests.sizes, grows)
grows_rests false a b c rests grows = rests.sizes ∙ grows

path_rests : (moves : List HartMove) (a b c : Hart) → Rests b c → Leads moves (side_of a) (side_of b) → Leads moves (side_of a) (side_of c)
path_rests moves a b c rests path = subst (λ (s : Side). Leads moves (side_of a) s) (sym rests.side) path

units_rest : (went : Bool) (left quantum : ℕ) (a b c : Hart) → Along went left quantum a b → Rests b c → c.local.units ≤ a.local.units + quantum
units_rest went left quantum a b c along rests = omega (arith, along.count, ap (λ (l : Local). l.units) rests.local)

-- an actor that had ended does not come to this
over_rests : (went : Bool) (left quantum : ℕ) (a b c : Hart) → Along went left quantum a b → Rests b c → (HasEnded c → ⊥) → HasEnded a → c ≡ a
over_rests went left quantum a b c along rests goes ended =
    let at_b : HasEnded b = subst HasEnded (sym (along.over ended)) ended in
    absurd (goes (record { closed = ap (λ (s : Side). s.stage) rests.side ∙ at_b.closed; sent = ap (λ (s : Side). s.unsent) rests.side ∙ at_b.sent }))

full_since : (items : Ring Record) (a b c : Hart) → HasSentSince a.sender b.sender → IsFull items b c → IsFull items a c
full_since items a b c since full = (full.0, (full.1.0, sent_more a.sender b.sender full.1.0 since full.1.1, full.1.2, full.1.3))

held_since : (replies : Lane Reply) (a b c : Hart) → HasTakenSince a.taker b.taker → IsHeld replies b c → IsHeld replies a c
held_since replies a b c since held = (held.0, held.1, (held.2.0, taken_more a.taker b.taker held.2.0 since held.2.1, held.2.2, held.2.3))

answer_full : (items : Ring Record) (replies : Lane Reply) (quantum : ℕ) (a c : Hart) (went : Bool) → Grows went a c → IsFull items a c → HasTurned items replies quantum a c (if went then Went else Full)
answer_full items replies quantum a c true grows full = (full_goes_on items a c full, grows, inr (inl full))
answer_full items replies quantum a c false grows full = (full_goes_on items a c full, grows, full)

answer_held : (items : Ring Record) (replies : Lane Reply) (quantum : ℕ) (a c : Hart) (went : Bool) → Grows went a c → IsHeld replies a c → HasTurned items replies quantum a c (if went then Went else Waits)
answer_held items replies quantum a c true grows held = (held_goes_on replies a c held, grows, inr (inr held))
answer_held items replies quantum a c false grows held = (held_goes_on replies a c held, grows, held)

pub turn_full : (items : Ring Record) (replies : Lane Reply) (went : Bool) (left quantum : ℕ) (a b c : Hart) (result : HartTurn) → Along went left quantum a b → IsSameHart b c → HasStepped items replies b c IsBlocked
    → result ≡ (if went then Went else Full) → TurnEnds items replies quantum a c result
turn_full items replies went left quantum a b c result along same stepped is =
    let rests : Rests b c = record { side = stepped.0; local = stepped.1; sizes = stepped.2 } in
    let full = full_since items a b c along.sender stepped.3 in record {
      same = same_more a b c along.same same;
      answer = subst (λ (r : HartTurn). HasTurned items replies quantum a c r) (sym is) (answer_full items replies quantum a c went (grows_rests went a b c rests along.grows) full);
      units = units_rest went left quantum a b c along rests;
      over = over_rests went left quantum a b c along rests (full_goes_on items a c full);
      moves = (along.moves, path_rests along.moves a b c rests along.path);
    }

pub turn_waits : (items : Ring Record) (replies : Lane Reply) (went : Bool) (left quantum : ℕ) (a b c : Hart) (result : HartTurn) → Along went left quantum a b → IsSameHart b c → HasStepped items replies b c IsWaiting
    → result ≡ (if went then Went else Waits) → TurnEnds items replies quantum a c result
turn_waits items replies went left quantum a b c result along same stepped is =
    let rests : Rests b c = record { side = stepped.0; local = stepped.1; sizes = stepped.2 } in
    let held = held_since replies a b c along.taker stepped.3 in record {
      same = same_more a b c along.same same;
      answer = subst (λ (r : HartTurn). HasTurned items replies quantum a c r) (sym is) (answer_held items replies quantum a c went (grows_rests went a b c rests along.grows) held);
      units = units_rest went left quantum a b c along rests;
      over = over_rests went left quantum a b c along rests (held_goes_on replies a c held);
      moves = (along.moves, path_rests along.moves a b c rests along.path);
    }

pub turn_ended : (items : Ring Record) (replies : Lane Reply) (went : Bool) (left quantum : ℕ) (a b c : Hart) → Along went left quantum a b → IsSameHart b c → HasStepped items replies b c IsOver → TurnEnds items replies quantum a c Ended
turn_ended items replies went left quantum a b c along same stepped =
    let rests : Rests b c = record { side = ap side_of stepped.0; local = ap (λ (h : Hart). h.local) stepped.0; sizes = ap size stepped.0 } in record {
      same = same_more a b c along.same same;
      answer = stepped.1;
      units = units_rest went left quantum a b c along rests;
      over = λ ended. stepped.0 ∙ along.over ended;
      moves = (along.moves, path_rests along.moves a b c rests along.path);
    }
