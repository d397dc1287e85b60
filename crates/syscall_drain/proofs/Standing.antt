-- A core that stands at a list of answers stands after one more unit at the list with its answer.
use Rattle.std.proofs.Common.{◌≡◌, ℕ, ◌+◌, ◌<◌, ◌≤◌, List, [], ◌∷◌, ◌++◌, Option, refl, sym, ◌∙◌, ap, subst, arith}
use Rattle.std.specs.Option.{ForNone}
use Rattle.syscall_drain.specs.Programs.{Program}
use Rattle.syscall_drain.specs.Locals.{Local, opening_local}
use Rattle.syscall_drain.specs.Units.{FitsAsk, next_ask, answered, placed}
use Rattle.syscall_drain.specs.Runs.{local_after, IsLocalRun}
use Rattle.syscall_drain.specs.Sound.{IsSound}
use Rattle.syscall_drain.specs.Pieces.{PlacesBytes}
use Rattle.syscall_drain.specs.Seen.{local_of, budget_of, core_of, HasSpent}
use Rattle.syscall_drain.specs.declared.ask.Answer.{Answer}
use Rattle.syscall_drain.specs.declared.core_state.CoreState.{CoreState}
use Rattle.syscall_drain.proofs.Units.{answered_units, answered_below, answered_sound, fits_running, places_bytes}

pub local_after_more : (program : Program) (budget : ℕ) (l : Local) (answers : List Answer) (last : Answer) → local_after program budget l (answers ++ last ∷ []) ≡ answered program budget (local_after program budget l answers) last
unfolding local_after
local_after_more program budget l [] last = refl
local_after_more program budget l (answer ∷ rest) last = local_after_more program budget (answered program budget l answer) rest last

pub local_run_more : (program : Program) (budget : ℕ) (l : Local) (answers : List Answer) (last : Answer) → IsLocalRun program budget l answers → FitsAsk (next_ask program (local_after program budget l answers)) last → IsLocalRun program budget l (answers ++ last ∷ [])
unfolding local_after IsLocalRun
local_run_more program budget l [] last run fits = (fits, tt)
local_run_more program budget l (answer ∷ rest) last run fits = (run.0, local_run_more program budget (answered program budget l answer) rest last run.1 fits)

-- the same, with numbers and states in the place of the cores
stands_more : (program : Program) (budget new_budget core new_core : ℕ) (old new : Local) (answers : List Answer) (last : Answer) → new_budget ≡ budget → new_core ≡ core → new ≡ answered program budget old last → FitsAsk (next_ask program old) last → IsLocalRun program budget (opening_local program core) answers → old ≡ local_after program budget (opening_local program core) answers
    → IsLocalRun program new_budget (opening_local program new_core) (answers ++ last ∷ []) × (new ≡ local_after program new_budget (opening_local program new_core) (answers ++ last ∷ []))
stands_more program budget new_budget core new_core old new answers last same_budget same_core step fits run at =
    let P : ℕ → ℕ → Type 0 = λ b c. IsLocalRun program b (opening_local program c) (answers ++ last ∷ []) × (new ≡ local_after program b (opening_local program c) (answers ++ last ∷ [])) in
    let Q : Local → Type 0 = λ l. FitsAsk (next_ask program l) last in
    let run_here = local_run_more program budget (opening_local program core) answers last run (subst Q at fits) in
    let at_here = step ∙ ap (λ (l : Local). answered program budget l last) at ∙ sym (local_after_more program budget (opening_local program core) answers last) in
    subst (λ (b : ℕ). P b new_core) (sym same_budget) (subst (λ (c : ℕ). P budget c) (sym same_core) (run_here, at_here))

pub has_spent : (program : Program) (old new : CoreState) (given : Answer) → budget_of new ≡ budget_of old → core_of new ≡ core_of old → local_of new ≡ answered program (budget_of old) (local_of old) given → FitsAsk (next_ask program (local_of old)) given → HasSpent program old new given
has_spent program old new given same_budget same_core step fits = record {
  step = step;
  budget = same_budget;
  core = same_core;
  stands = λ answers stands.
      let both = stands_more program (budget_of old) (budget_of new) (core_of old) (core_of new) (local_of old) (local_of new) answers given same_budget same_core step fits stands.run stands.local in
      record { run = both.0; local = both.1 };
}

-- what holds of a core before a unit holds of what the unit makes of it
pub record IsKept (budget : ℕ) (new : Local) : Type 0 where
  pub spent : new.units ≤ budget
  pub going : ForNone new.ending (new.units < budget)
  pub sound : IsSound new

pub kept : (program : Program) (budget : ℕ) (old new : Local) (answer : Answer) → new ≡ answered program budget old answer → old.units < budget → IsSound old → IsKept budget new
kept program budget old new answer step less sound =
    let P : Local → Type 0 = λ l. IsKept budget l in
    let after : Local = answered program budget old answer in
    let units : after.units ≡ old.units + 1 = answered_units program budget old answer sound in
    subst P (sym step) (record {
      spent = omega (arith, units);
      going = λ none. let below = answered_below program budget old answer sound none less in omega (arith, units, below);
      sound = answered_sound program budget old answer sound;
    })

pub places : (program : Program) (budget : ℕ) (old new : Local) (answer : Answer) (place : Option ℕ) → new ≡ answered program budget old answer → place ≡ placed program old answer → FitsAsk (next_ask program old) answer → IsSound old → PlacesBytes program old new place
places program budget old new answer place step is fits sound =
    let P : Local → Option ℕ → Type 0 = λ l o. PlacesBytes program old l o in
    let bytes = places_bytes program budget old answer (fits_running program old answer fits) sound in
    subst (λ (l : Local). P l place) (sym step) (subst (λ (o : Option ℕ). P (answered program budget old answer) o) (sym is) bytes)
