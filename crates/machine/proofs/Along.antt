-- What holds of the state along every playable list.
use Rattle.std.proofs.Common.{◌≡◌, ℕ, ◌+◌, ◌*◌, ◌<◌, ◌≤◌, List, [], ◌∷◌, length, None, subst, arith}
use Rattle.machine.specs.Setups.{Setup, core_count, IsSetup}
use Rattle.machine.specs.States.{Core, State, opening}
use Rattle.machine.specs.Steps.{step}
use Rattle.machine.specs.Runs.{run, along, IsPlayableFrom, IsPlayable}
use Rattle.machine.proofs.SetAt.{total_at_most, total_below}
use Rattle.machine.proofs.Reached.{IsReached, step_reached, opening_reached}
use Rattle.machine.proofs.Written.{IsWritten, step_written, opening_written}

-- a state after so many units
pub record IsAt (s : Setup) (t : State) (count : ℕ) : Type 0 where
  pub reached : IsReached s t count
  pub written : IsWritten s t count

pub few_units : (s : Setup) → IsSetup s → (t : State) (count : ℕ) → IsReached s t count → count ≤ 8388608
few_units s setup t count reached =
    let most = total_at_most (λ (c : Core). c.local.units) t.cores s.budget (core_count s) (λ c below. (reached.cores c).within) in
    omega (arith, setup.most_units, reached.units, most)

pub step_at : (s : Setup) → IsSetup s → (t : State) (count c : ℕ) → IsAt s t count → c < core_count s → (t.cores c).local.ending ≡ None → IsAt s (step s t c) (count + 1)
step_at s setup t count c at below running = record {
  reached = step_reached s t count c at.reached below running;
  written = step_written s t count c at.reached at.written below running (few_units s setup t count at.reached);
}

at_from : (s : Setup) → IsSetup s → (t : State) (count : ℕ) (order : List ℕ) → IsAt s t count → IsPlayableFrom s t order → IsAt s (run s t order) (count + length order)
unfolding run IsPlayableFrom
at_from s setup t count [] at playable = let same : count + 0 ≡ count = omega arith in rw same at
at_from s setup t count (c ∷ order) at playable =
    let same : count + 1 + length order ≡ count + length (c ∷ order) = omega arith in
    subst (λ (n : ℕ). IsAt s (run s (step s t c) order) n) same
    (at_from s setup (step s t c) (count + 1) order (step_at s setup t count c at playable.0 playable.1) playable.2)

pub at_along : (s : Setup) → IsSetup s → (order : List ℕ) → IsPlayable s order → IsAt s (along s order) (length order)
at_along s setup order playable =
    let same : 0 + length order ≡ length order = omega arith in
    subst (λ (n : ℕ). IsAt s (along s order) n) same
    (at_from s setup (opening s) 0 order (record { reached = opening_reached s setup.some_budget; written = opening_written s }) playable)

-- while a core goes on, there is room for one more unit
pub room_left : (s : Setup) → IsSetup s → (order : List ℕ) → IsPlayable s order → (c : ℕ) → c < core_count s → ((along s order).cores c).local.ending ≡ None → length order < core_count s * s.budget
room_left s setup order playable c below running =
    let at = at_along s setup order playable in
    let less = total_below (λ (d : Core). d.local.units) (along s order).cores s.budget (core_count s) c below ((at.reached.cores c).below running) (λ d b. (at.reached.cores d).within) in
    omega (arith, less, at.reached.units)

-- no playable list is longer than the budgets of all cores together
pub playable_short : (s : Setup) → IsSetup s → (order : List ℕ) → IsPlayable s order → length order ≤ core_count s * s.budget
playable_short s setup order playable =
    let at = at_along s setup order playable in
    let most = total_at_most (λ (d : Core). d.local.units) (along s order).cores s.budget (core_count s) (λ d below. (at.reached.cores d).within) in
    omega (arith, most, at.reached.units)
