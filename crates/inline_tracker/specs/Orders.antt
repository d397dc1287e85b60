-- Proof form: where a finished run has its order, and which of its places were given.
use Rattle.std.specs.Prelude.{◌≡◌, ℕ, ◌≤◌, ◌<◌, ◌^◌, List, length}
use Rattle.order_core.specs.declared.entry.Entry.{Entry}
use Rattle.order_core.specs.CanonicalMerge.{canonical}
use Rattle.order_core.specs.Walk.{WalkSeen}
use Rattle.order_core.specs.Walking.{HasGiven}
use Rattle.inline_tracker.specs.declared.run_order.RunOrder.{RunOrder}
use Rattle.inline_tracker.specs.declared.run_order.RunOrder.TheVariants.{Listed, Walked}

-- a list is its own order, and a walk has the canonical merge
abbrev pub order_in : List (List Entry) → RunOrder → List ℕ
order_in logs (Listed order) = order.items
order_in logs (Walked walk units) = canonical logs

-- a walk that has given so many places of the canonical merge, which has so many units
pub record IsWalkedTo (logs : List (List Entry)) (place : ℕ) (walk : WalkSeen) (units : ℕ) : Type 0 where
  pub given : List ℕ
  pub has : HasGiven walk logs given
  pub place_is : length given ≡ place
  pub within : place ≤ length (canonical logs)
  pub count : units ≡ length (canonical logs)
  pub small : units < 2 ^ 32

abbrev pub IsOrderAt : List (List Entry) → ℕ → RunOrder → Type 0
IsOrderAt logs place (Listed order) = place ≤ length order.items
IsOrderAt logs place (Walked walk units) = IsWalkedTo logs place walk units
