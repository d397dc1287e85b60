-- What the calls of a walk give: one core of the canonical merge after another, from the start. How a walk keeps what it has given
-- is its own affair (Walking).
use Rattle.std.specs.Prelude.{◌≡◌, ℕ, List, [], length, slice_get, Option, None, ◌↔◌}
use Rattle.order_core.specs.declared.entry.Entry.{Entry}
use Rattle.order_core.specs.Logs.{entry_count}
use Rattle.order_core.specs.LegalMerge.{HasLegalMerge}
use Rattle.order_core.specs.CanonicalMerge.{canonical}
use Rattle.order_core.specs.Walk.{WalkSeen, FitsWalk}
use Rattle.order_core.specs.Walking.{HasGiven}

-- the walk has given nothing yet of any logs that fit it
abbrev pub IsAtStart : WalkSeen → Type 0
IsAtStart walk = (logs : List (List Entry)) → FitsWalk walk logs → HasGiven walk logs []

-- it is along these logs
abbrev pub IsWalking : WalkSeen → List (List Entry) → Type 0
IsWalking walk logs = (given : List ℕ) × HasGiven walk logs given

-- after these cores of the canonical merge comes this one, or none, which is so where the merge is whole
pub record IsNext (logs : List (List Entry)) (given : List ℕ) (core : Option ℕ) : Type 0 where
  pub next : core ≡ slice_get (canonical logs) (length given)
  pub whole : core ≡ None → given ≡ canonical logs
  pub all : HasLegalMerge logs → (core ≡ None ↔ length given ≡ entry_count logs)
