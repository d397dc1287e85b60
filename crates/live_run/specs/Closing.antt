-- The end of a run whose actors have all ended: what is to be closed, and what is then left (this project's own).
use Rattle.std.specs.Prelude.{◌≡◌, ℕ, ◌*◌, List, [], map, length, slice_get, Some}
use Rattle.bounded_list.specs.Bounded.{Bounded}
use Rattle.ticket_table.specs.declared.change.Change.{Change}
use Rattle.ticket_table.specs.Passes.{TableSeen}
use Rattle.machine.specs.Setups.{Setup, IsSetup, core_count}
use Rattle.inline_tracker.specs.Outcomes.{outcome_summary}
use Rattle.live_run.specs.declared.pair.Pair.{Pair}
use Rattle.live_run.specs.declared.ends.Ends.{Ends}
use Rattle.live_run.specs.declared.closing.Closed.{Closed}
use Rattle.live_run.specs.Seats.{AreTables}
use Rattle.live_run.specs.Assembled.{CoreLeft, AreAssembled}
use Rattle.live_run.specs.Pairs.{IsPairLeft}
use Rattle.live_run.specs.Ends.{ends_of}

-- the pairs of all cores of the setup, at its two tables, and an empty output with room for four bytes of each unit
pub record AreReady (s : Setup) (pairs : List Pair) (data_table tag_table : TableSeen) (ends : Ends) (output : Bounded ℕ) : Type 0 where
  pub setup : IsSetup s
  pub tables : AreTables s data_table tag_table
  pub ends_are : ends ≡ ends_of (core_count s) pairs
  pub count : length pairs ≡ core_count s
  pub left : (core : ℕ) (pair : Pair) → slice_get pairs core ≡ Some pair → IsPairLeft s data_table tag_table core pair
  pub room : output ≡ record { items = []; room = 4 * (core_count s * s.budget) }

-- the logs and the outcomes of the cores, and the output of the run that they are the parts of
pub record IsClosedRun (s : Setup) (cores : List CoreLeft) (memory tags : TableSeen) (closed : Closed) : Type 0 where
  pub drawn : List Change
  pub served : List Change
  pub logs : map (λ log. log.items) closed.logs.items ≡ map (λ left. left.log) cores
  pub outcomes : map outcome_summary closed.outcomes.items ≡ map (λ left. left.summary) cores
  pub assembled : AreAssembled s memory tags drawn served cores closed.output.items
