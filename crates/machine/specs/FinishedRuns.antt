-- What a finished run tells: the core of each unit in their order, the log and the summary of each core, and the guest's output; and which of these is the run along an order (this project's own).
use Rattle.std.specs.Prelude.{◌≡◌, ℕ, List}
use Rattle.order_core.specs.declared.entry.Entry.{Entry}
use Rattle.machine.specs.Setups.{Setup}
use Rattle.machine.specs.Runs.{along, logs_along, IsComplete}
use Rattle.machine.specs.Outcomes.{Summary, summaries, output}

pub record FinishedRun : Type 0 where
  pub order : List ℕ
  pub logs : List (List Entry)
  pub cores : List Summary
  pub output : List ℕ

abbrev pub finished_along : Setup → List ℕ → FinishedRun
finished_along s order = record {
  order = order;
  logs = logs_along s order;
  cores = summaries s (along s order);
  output = output (along s order);
}

-- the run of this setup along its own order, which is complete
pub record IsFinishedRun (s : Setup) (finished : FinishedRun) : Type 0 where
  pub complete : IsComplete s finished.order
  pub run : finished ≡ finished_along s finished.order
