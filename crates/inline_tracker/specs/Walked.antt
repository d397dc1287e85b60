-- The run that logs, outcomes and output tell, in the order of the canonical merge of the logs (this project's own).
use Rattle.std.specs.Prelude.{ℕ, List, map}
use Rattle.bounded_list.specs.Bounded.{Bounded}
use Rattle.order_core.specs.declared.entry.Entry.{Entry}
use Rattle.order_core.specs.Logs.{logs_of}
use Rattle.order_core.specs.CanonicalMerge.{canonical}
use Rattle.machine.specs.FinishedRuns.{FinishedRun}
use Rattle.inline_tracker.specs.declared.finished.CoreOutcome.{CoreOutcome}
use Rattle.inline_tracker.specs.Outcomes.{outcome_summary}

abbrev pub walked_run : List (Bounded Entry) → List CoreOutcome → List ℕ → FinishedRun
walked_run logs outcomes output = record {
  order = canonical (logs_of logs);
  logs = logs_of logs;
  cores = map outcome_summary outcomes;
  output = output;
}
