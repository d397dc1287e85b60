-- What holds of all parts that the ended actors of a run leave together (this project's own).
use Rattle.std.specs.Prelude.{◌≡◌, ℕ, List, map, length}
use Rattle.elf_image.specs.Layout.{words_of}
use Rattle.ticket_table.specs.declared.change.Change.{Change}
use Rattle.ticket_table.specs.Passes.{TableSeen}
use Rattle.order_core.specs.declared.entry.Entry.{Entry}
use Rattle.order_core.specs.Logs.{AllTouchBelow}
use Rattle.order_core.specs.LegalMerge.{HasLegalMerge}
use Rattle.machine.specs.Setups.{Setup, core_count}
use Rattle.machine.specs.FinishedRuns.{IsFinishedRun}
use Rattle.live_run.specs.Assembled.{CoreLeft, AreAssembled, finished_of}

-- they are a finished run of the setup, in the order of the canonical merge of their logs
abbrev pub AssembledRun : Type 0
AssembledRun =
    (s : Setup) (memory tags : TableSeen) (drawn served : List Change) (cores : List CoreLeft) (out : List ℕ)
    → AreAssembled s memory tags drawn served cores out → IsFinishedRun s (finished_of cores out)

-- one log for each core; they have a legal merge, and touch only words of the image
pub record CanBeMerged (s : Setup) (logs : List (List Entry)) : Type 0 where
  pub count : length logs ≡ core_count s
  pub merge : HasLegalMerge logs
  pub words : AllTouchBelow (words_of s.program.layout) logs

abbrev pub AssembledMerge : Type 0
AssembledMerge =
    (s : Setup) (memory tags : TableSeen) (drawn served : List Change) (cores : List CoreLeft) (out : List ℕ)
    → AreAssembled s memory tags drawn served cores out → CanBeMerged s (map (λ left. left.log) cores)
