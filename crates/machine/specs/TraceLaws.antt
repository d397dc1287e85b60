-- Which orders are one run: with a playable order, each legal merge of its logs (after Kannan, MICRO 2009: tag accesses follow the order of the data accesses).
use Rattle.std.specs.Prelude.{◌≡◌, ℕ, List}
use Rattle.order_core.specs.LegalMerge.{IsLegalOrder}
use Rattle.order_core.specs.CanonicalMerge.{canonical}
use Rattle.machine.specs.Setups.{Setup}
use Rattle.machine.specs.Runs.{along, logs_along, IsPlayable, IsComplete}

-- another order leads through the same logs to the same state: cores, tags, notes, words and pieces of output
pub record IsSameRun (s : Setup) (order other : List ℕ) : Type 0 where
  pub playable : IsPlayable s other
  pub complete : IsComplete s order → IsComplete s other
  pub logs : logs_along s other ≡ logs_along s order
  pub state : along s other ≡ along s order

abbrev pub TraceLaw : Type 0
TraceLaw = (s : Setup) (order other : List ℕ) → IsPlayable s order → IsLegalOrder (logs_along s order) other → IsSameRun s order other

abbrev pub CanonicalLaw : Type 0
CanonicalLaw = (s : Setup) (order : List ℕ) → IsPlayable s order → IsSameRun s order (canonical (logs_along s order))
