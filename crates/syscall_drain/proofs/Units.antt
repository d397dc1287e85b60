-- A unit raises the count of units by one, leaves a sound core, and what it leaves of the output; a core that goes on has units left.
use Rattle.std.proofs.Common.{◌≡◌, ◌≢◌, ℕ, ◌+◌, ◌<◌, ◌≤◌, List, Option, Some, None, Bool, true, false, ◌&&◌, ◌==◌, not, if◌then◌else◌, refl, ap, ◌∙◌, arith, eqb, length}
use Rattle.std.specs.Prelude.{OnSome}
use Rattle.std.proofs.lemmas.Bool.Decides.{nat_tests}
use Rattle.rv_execute.specs.declared.op.Op.{Op}
use Rattle.rv_execute.specs.declared.op.Op.TheVariants.{Place}
use Rattle.rv_execute.specs.declared.op.Taken.{Taken}
use Rattle.rv_execute.specs.Harts.{HartState}
use Rattle.syscall_drain.specs.Programs.{Program}
use Rattle.syscall_drain.specs.Locals.{Local}
use Rattle.syscall_drain.specs.Tasks.{task_of}
use Rattle.syscall_drain.specs.Units.{FitsAsk, next_ask, task_ask, place_asked, taken_of, after_task, budget_end, answered, placed}
use Rattle.syscall_drain.specs.Pieces.{PlacesBytes}
use Rattle.syscall_drain.specs.Sound.{IsSoundPhase, IsSound, due}
use Rattle.syscall_drain.specs.declared.end.End.{End}
use Rattle.syscall_drain.specs.declared.end.End.TheVariants.{Budget}
use Rattle.syscall_drain.specs.declared.phase.Phase.{Phase}
use Rattle.syscall_drain.specs.declared.ask.CoreAsk.{CoreAsk}
use Rattle.syscall_drain.specs.declared.ask.CoreAsk.TheVariants.{Quiet as AsksNothing, Touch as Touches, Meet as Meets, Ended}
use Rattle.syscall_drain.specs.declared.ask.Answer.{Answer}
use Rattle.syscall_drain.specs.declared.ask.Answer.TheVariants.{Nothing, Taken as Took, Reply as Replied}
use Rattle.syscall_drain.proofs.UnitLemmas.{IsAfter, IsDone, phase_done}

-- ---- a core that has not ended

done_by : (program : Program) (h : HartState) (phase : Phase) (g : List ℕ) (u : ℕ) (ending : Option End) (answer : Answer) → ending ≡ None → IsSoundPhase h g phase → IsDone program (record { hart = h; phase = phase; gathered = g; units = u; ending = ending }) (task_of program (record { hart = h; phase = phase; gathered = g; units = u; ending = ending })) answer
unfolding task_of
done_by program h phase g u (Some end) answer running sound = absurd (cc)
done_by program h phase g u None answer running sound = phase_done program h phase g u answer sound

pub unit_done : (program : Program) (l : Local) (answer : Answer) → l.ending ≡ None → IsSound l → IsDone program l (task_of program l) answer
unit_done program l answer running sound = done_by program l.hart l.phase l.gathered l.units l.ending answer running sound.phase

-- one that has ended stays as it is
over_by : (program : Program) (h : HartState) (phase : Phase) (g : List ℕ) (u : ℕ) (end : End) (answer : Answer) → after_task program (record { hart = h; phase = phase; gathered = g; units = u; ending = Some end }) (task_of program (record { hart = h; phase = phase; gathered = g; units = u; ending = Some end })) answer ≡ record { hart = h; phase = phase; gathered = g; units = u; ending = Some end }
unfolding task_of
over_by program h phase g u end answer = refl

after_by : (program : Program) (h : HartState) (phase : Phase) (g : List ℕ) (u : ℕ) (ending : Option End) (answer : Answer) → IsSoundPhase h g phase → IsAfter (record { hart = h; phase = phase; gathered = g; units = u; ending = ending }) (after_task program (record { hart = h; phase = phase; gathered = g; units = u; ending = ending }) (task_of program (record { hart = h; phase = phase; gathered = g; units = u; ending = ending })) answer)
after_by program h phase g u (Some end) answer sound = rw (over_by program h phase g u end answer) (record { sound = record { phase = sound }; units = refl; few = omega arith })
after_by program h phase g u None answer sound = (done_by program h phase g u None answer refl sound).after

unit_after : (program : Program) (l : Local) (answer : Answer) → IsSound l → IsAfter l (after_task program l (task_of program l) answer)
unit_after program l answer sound = after_by program l.hart l.phase l.gathered l.units l.ending answer sound.phase

-- ---- every unit

pub answered_units : (program : Program) (budget : ℕ) (l : Local) (answer : Answer) → IsSound l → (answered program budget l answer).units ≡ l.units + 1
unfolding answered
answered_units program budget l answer sound = ap (λ n. n + 1) (unit_after program l answer sound).units

pub answered_sound : (program : Program) (budget : ℕ) (l : Local) (answer : Answer) → IsSound l → IsSound (answered program budget l answer)
unfolding answered
answered_sound program budget l answer sound = record { phase = (unit_after program l answer sound).sound.phase }

pub answered_due : (program : Program) (budget : ℕ) (l : Local) (answer : Answer) → IsSound l → due (answered program budget l answer) ≤ due l + 4
unfolding answered
answered_due program budget l answer sound = (unit_after program l answer sound).few

-- ---- the budget

units_apart : (budget units : ℕ) (end : Option End) → budget_end budget units end ≡ None → units ≢ budget
units_apart budget units (Some end) none = absurd (cc)
units_apart budget units None none = λ same. absurd (spent_all (eqb units budget) (grind (arith, nat_tests)) none)
  where
    spent_all : (b : Bool) → b ≡ true → (if b then Some Budget else None) ≡ None → ⊥
    spent_all true e n = cc
    spent_all false e n = cc

-- a core that goes on has units left
pub answered_below : (program : Program) (budget : ℕ) (l : Local) (answer : Answer) → IsSound l → (answered program budget l answer).ending ≡ None → l.units < budget → l.units + 1 < budget
unfolding answered
answered_below program budget l answer sound none less =
    let after : Local = after_task program l (task_of program l) answer in
    let apart : after.units + 1 ≢ budget = units_apart budget (after.units + 1) after.ending none in
    let same : after.units ≡ l.units = (unit_after program l answer sound).units in
    omega (arith, rw same at apart)

-- ---- asking

-- an ended core asks for nothing that an answer fits
over_fits : (answer : Answer) → FitsAsk Ended answer → ⊥
over_fits Nothing fits = fits
over_fits (Took t) fits = fits
over_fits (Replied reply) fits = fits

running_by : (program : Program) (h : HartState) (phase : Phase) (g : List ℕ) (u : ℕ) (ending : Option End) (answer : Answer) → FitsAsk (next_ask program (record { hart = h; phase = phase; gathered = g; units = u; ending = ending })) answer → ending ≡ None
unfolding next_ask task_of
running_by program h phase g u (Some end) answer fits = absurd (over_fits answer fits)
running_by program h phase g u None answer fits = refl

-- a core whose ask an answer fits has not ended
pub fits_running : (program : Program) (l : Local) (answer : Answer) → FitsAsk (next_ask program l) answer → l.ending ≡ None
fits_running program l answer fits = running_by program l.hart l.phase l.gathered l.units l.ending answer fits

-- and one that has not ended asks for a unit
pub running_asks : (program : Program) (l : Local) → l.ending ≡ None → IsSound l → next_ask program l ≡ Ended → ⊥
unfolding next_ask
running_asks program l running sound e = (unit_done program l Nothing running sound).going e

-- an access to the word of the output claims a place for all bytes that are gathered
pub output_asked : (program : Program) (l : Local) (op : Op) → l.ending ≡ None → IsSound l → next_ask program l ≡ Touches 1 op → op ≡ Place (length l.gathered)
unfolding next_ask
output_asked program l op running sound e = (unit_done program l Nothing running sound).output op e

pub output_short : (program : Program) (l : Local) (op : Op) → l.ending ≡ None → IsSound l → next_ask program l ≡ Touches 1 op → length l.gathered ≤ 4096
unfolding next_ask
output_short program l op running sound e = (unit_done program l Nothing running sound).short op e

-- ---- the output

place_unless : (spent : Bool) (old : ℕ) (P : Type 0) → P → OnSome (if not spent then Some old else None) P
place_unless true old P holds = tt
place_unless false old P holds = holds

place_at : (word : ℕ) (op : Op) (t : Taken) (P : Type 0) (b : Bool) → (word == 1) ≡ b → (word ≡ 1 → P) → OnSome (place_asked (Touches word op) t) P
place_at word op t P true e holds = rw e (place_unless t.spent t.old P (holds (grind (arith, nat_tests))))
place_at word op t P false e holds = rw e tt

place_asks : (ask : CoreAsk) (t : Taken) (P : Type 0) → ((op : Op) → ask ≡ Touches 1 op → P) → OnSome (place_asked ask t) P
place_asks AsksNothing t P holds = tt
place_asks (Touches word op) t P holds = place_at word op t P (word == 1) refl (λ one. holds op (ap (λ (n : ℕ). Touches n op) one))
place_asks (Meets item) t P holds = tt
place_asks Ended t P holds = tt

pub places_bytes : (program : Program) (budget : ℕ) (l : Local) (answer : Answer) → l.ending ≡ None → IsSound l → PlacesBytes program l (answered program budget l answer) (placed program l answer)
unfolding answered placed next_ask
places_bytes program budget l answer running sound =
    let done = unit_done program l answer running sound in
    record {
      few = done.placed;
      asked = place_asks (task_ask l (task_of program l)) (taken_of answer) _ (λ op e. e ∙ ap (λ (o : Op). Touches 1 o) (done.output op e));
      whole = done.whole;
      claimed = done.claimed;
      kept = done.kept;
    }

-- a spent access claims no place
spent_nothing : (word : ℕ) (t : Taken) (b : Bool) → t.spent ≡ true → (if b && not t.spent then Some t.old else None) ≡ None
spent_nothing word t true spent = rw spent refl
spent_nothing word t false spent = refl

asks_nothing_spent : (ask : CoreAsk) (t : Taken) → t.spent ≡ true → place_asked ask t ≡ None
asks_nothing_spent AsksNothing t spent = refl
asks_nothing_spent (Touches word op) t spent = spent_nothing word t (word == 1) spent
asks_nothing_spent (Meets item) t spent = refl
asks_nothing_spent Ended t spent = refl

pub spent_places_nothing : (program : Program) (l : Local) (t : Taken) → t.spent ≡ true → placed program l (Took t) ≡ None
unfolding placed
spent_places_nothing program l t spent = asks_nothing_spent (next_ask program l) t spent

-- a unit that touches another word than that of the output claims no place
pub elsewhere_places_nothing : (program : Program) (l : Local) (t : Taken) (word : ℕ) (op : Op) → next_ask program l ≡ Touches word op → (word ≡ 1 → ⊥) → placed program l (Took t) ≡ None
unfolding placed
elsewhere_places_nothing program l t word op asks other =
    let e : (word == 1) ≡ false = grind (arith, nat_tests) in
    rw asks (rw e refl)

-- one that claims the word of the output and is not spent claims the place found
pub output_places : (program : Program) (l : Local) (t : Taken) (op : Op) → next_ask program l ≡ Touches 1 op → t.spent ≡ false → placed program l (Took t) ≡ Some t.old
unfolding placed
output_places program l t op asks unspent = rw (asks, unspent) refl
