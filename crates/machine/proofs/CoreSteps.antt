-- What one step of the machine does to its cores: the stepped core goes on with what its unit found, and each other stays.
use Rattle.std.proofs.Common.{◌≡◌, ◌≢◌, ◌⊎◌, ℕ, Option, Some, None, List, [], ◌∷◌, ◌++◌, refl, sym, ap, ◌∙◌, inl, inr}
use Rattle.std.proofs.lemmas.Bool.{cases_eq}
use Rattle.order_core.specs.SetAt.{set_at}
use Rattle.machine.specs.Setups.{Setup}
use Rattle.machine.specs.States.{Core, State}
use Rattle.machine.specs.Steps.{Finding, NoAccess, Accessed, core_given, found_in, touched, quiet, took, step, step_by}
use Rattle.machine.specs.Runs.{run, IsPlayableFrom}
use Rattle.machine.proofs.SetAt.{set_at_here, set_at_there}

-- what a unit that touches this word finds in a state
abbrev pub finding_by : Setup → State → Option ℕ → Finding
finding_by s t None = NoAccess
finding_by s t (Some n) = Accessed (found_in s (t.words n)) (t.words n).tag

abbrev pub finding_at : Setup → State → ℕ → Finding
finding_at s t c = finding_by s t (touched s (t.cores c))

cores_by : (s : Setup) (t : State) (c : ℕ) (word : Option ℕ) → (step_by s t c word).cores ≡ set_at t.cores c (core_given s (t.cores c) (finding_by s t word))
unfolding quiet took
cores_by s t c None = refl
cores_by s t c (Some n) = refl

pub step_cores : (s : Setup) (t : State) (c : ℕ) → (step s t c).cores ≡ set_at t.cores c (core_given s (t.cores c) (finding_at s t c))
unfolding step
step_cores s t c = cores_by s t c (touched s (t.cores c))

pub step_here : (s : Setup) (t : State) (c : ℕ) → (step s t c).cores c ≡ core_given s (t.cores c) (finding_at s t c)
step_here s t c = ap (λ (cores : ℕ → Core). cores c) (step_cores s t c) ∙ set_at_here t.cores c (core_given s (t.cores c) (finding_at s t c))

pub step_there : (s : Setup) (t : State) (c other : ℕ) → other ≢ c → (step s t c).cores other ≡ t.cores other
step_there s t c other apart =
    ap (λ (cores : ℕ → Core). cores other) (step_cores s t c) ∙ set_at_there t.cores c (core_given s (t.cores c) (finding_at s t c)) other apart

-- what a step of one core leaves of a core: its own next unit, or what it was
abbrev pub IsStepped : Setup → State → ℕ → ℕ → Type 0
IsStepped s t c core =
    ((c ≡ core) × ((step s t c).cores core ≡ core_given s (t.cores core) (finding_at s t core)))
    ⊎ ((c ≢ core) × ((step s t c).cores core ≡ t.cores core))

pub step_cases : (s : Setup) (t : State) (c core : ℕ) → IsStepped s t c core
step_cases s t c core = by_core (cases_eq c core)
  where
    by_core : (c ≡ core) ⊎ (c ≢ core) → IsStepped s t c core
    by_core (inl same) = inl (same, ap (λ (d : ℕ). (step s t d).cores core) same ∙ step_here s t core)
    by_core (inr apart) = inr (apart, step_there s t c core (λ e. apart (sym e)))

-- what holds of each core at the start, and of a core after its unit, holds at the end of each run
pub cores_keep : (s : Setup) (P : Core → Type 0) → ((core : Core) (finding : Finding) → P core → core.local.ending ≡ None → P (core_given s core finding))
    → (t : State) (order : List ℕ) → ((c : ℕ) → P (t.cores c)) → IsPlayableFrom s t order → (c : ℕ) → P ((run s t order).cores c)
unfolding run IsPlayableFrom
cores_keep s P unit t [] all playable c = all c
cores_keep s P unit t (d ∷ order) all playable c = cores_keep s P unit (step s t d) order after playable.2 c
  where
    after : (core : ℕ) → P ((step s t d).cores core)
    after core = by_core (step_cases s t d core)
      where
        by_core : IsStepped s t d core → P ((step s t d).cores core)
        by_core (inl here) = rw here.1 (unit (t.cores core) (finding_at s t core) (all core) (ap (λ (e : ℕ). (t.cores e).local.ending) (sym here.0) ∙ playable.1))
        by_core (inr there) = rw there.1 (all core)

-- a run in two parts
pub run_parts : (s : Setup) (t : State) (before after : List ℕ) → run s t (before ++ after) ≡ run s (run s t before) after
unfolding run
run_parts s t [] after = refl
run_parts s t (c ∷ before) after = run_parts s (step s t c) before after

pub playable_first : (s : Setup) (t : State) (before after : List ℕ) → IsPlayableFrom s t (before ++ after) → IsPlayableFrom s t before
unfolding IsPlayableFrom
playable_first s t [] after playable = tt
playable_first s t (c ∷ before) after playable = (playable.0, playable.1, playable_first s (step s t c) before after playable.2)

pub playable_rest : (s : Setup) (t : State) (before after : List ℕ) → IsPlayableFrom s t (before ++ after) → IsPlayableFrom s (run s t before) after
unfolding run IsPlayableFrom
playable_rest s t [] after playable = playable
playable_rest s t (c ∷ before) after playable = playable_rest s (step s t c) before after playable.2
