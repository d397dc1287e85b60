-- Proof form: what a walk keeps from one core to the next.
use Rattle.std.specs.Prelude.{◌≡◌, ◌≢◌, ℕ, ◌+◌, ◌≤◌, ◌%◌, List, [], ◌∷◌, slice_index_or, Option, Some, None}
use Rattle.order_core.specs.declared.entry.Access.{Access}
use Rattle.order_core.specs.declared.entry.Entry.{Entry}
use Rattle.order_core.specs.declared.core_set.CoreSet.{CoreSet}
use Rattle.order_core.specs.CoreSets.{count_in, no_cores}
use Rattle.order_core.specs.Places.{left_at, reached_at}
use Rattle.order_core.specs.Giving.{IsGiving}
use Rattle.order_core.specs.Walk.{WalkSeen, FitsWalk}

-- in which set a core waits for this number of a word
abbrev pub set_for : ℕ → ℕ → ℕ
set_for word number = (word + number) % 1024

-- 1 for a core of the set at this place, 0 for another
abbrev pub waits_in : List CoreSet → ℕ → ℕ → ℕ
waits_in sets place core = count_in (slice_index_or sets place no_cores) core

-- a core waits whose next access has another number than its word has reached, or which has ended
abbrev pub WaitsFor : (ℕ → ℕ) → List CoreSet → ℕ → Option Access → Type 0
WaitsFor reached sets core None = ⊥
WaitsFor reached sets core (Some access) = (access.number ≢ reached access.word) × (waits_in sets (set_for access.word access.number) core ≡ 1)

abbrev pub Waits : (ℕ → ℕ) → List CoreSet → ℕ → List Entry → Type 0
Waits reached sets core [] = Unit {0}
Waits reached sets core (entry ∷ _) = WaitsFor reached sets core entry.touch

-- each core that is not awake waits
abbrev pub OthersWait : (ℕ → List Entry) → (ℕ → ℕ) → CoreSet → List CoreSet → Type 0
OthersWait left reached awake sets = (core : ℕ) → count_in awake core ≡ 0 → Waits reached sets core (left core)

-- the walk has given these cores of the canonical merge of the logs
pub record HasGiven (walk : WalkSeen) (logs : List (List Entry)) (given : List ℕ) : Type 0 where
  pub fits : FitsWalk walk logs
  pub giving : IsGiving logs (left_at logs walk.places) (reached_at walk.counts) given
  pub waits : OthersWait (left_at logs walk.places) (reached_at walk.counts) walk.awake walk.sets

-- what a walk keeps beside this
pub record IsWalk (cores sets : ℕ) : Type 0 where
  pub few : cores ≤ 32
  pub all_sets : sets ≡ 1024
