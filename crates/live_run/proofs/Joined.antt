-- The logs of a closed run fit its walk, and they are a finished run of its setup with its outcomes and its output.
use Rattle.std.proofs.Common.{◌≡◌, ℕ, List, map, length, sym, ap, ◌∙◌, subst}
use Rattle.elf_image.specs.Layout.{words_of}
use Rattle.ticket_table.specs.Passes.{TableSeen}
use Rattle.order_core.specs.declared.entry.Entry.{Entry}
use Rattle.order_core.specs.Logs.{logs_of, AllTouchBelow}
use Rattle.order_core.specs.Walk.{WalkSeen, FitsWalk}
use Rattle.machine.specs.Setups.{Setup, core_count}
use Rattle.machine.specs.FinishedRuns.{IsFinishedRun}
use Rattle.inline_tracker.specs.Walked.{walked_run}
use Rattle.live_run.specs.declared.closing.Closed.{Closed}
use Rattle.live_run.specs.Assembled.{CoreLeft}
use Rattle.live_run.specs.AssembledLaws.{CanBeMerged}
use Rattle.live_run.specs.Closing.{IsClosedRun}
use Rattle.live_run.proofs.Assembling.{assembled_run, assembled_merge}

module _ (s : Setup) (cores : List CoreLeft) (memory tags : TableSeen) (closed : Closed) (run : IsClosedRun s cores memory tags closed) where
  pub fits : (walk : WalkSeen) → (walk.cores ≡ core_count s) × (walk.words ≡ words_of s.program.layout) → FitsWalk walk (logs_of closed.logs.items)
  fits walk size =
      let merged : CanBeMerged s (map (λ left. left.log) cores) = assembled_merge s memory tags run.drawn run.served cores closed.output.items run.assembled in
      record {
        count = ap length run.logs ∙ merged.count ∙ sym size.0;
        words = subst (λ (n : ℕ). AllTouchBelow n (logs_of closed.logs.items)) (sym size.1)
            (subst (λ (logs : List (List Entry)). AllTouchBelow (words_of s.program.layout) logs) (sym run.logs) merged.words);
      }

  pub finished : IsFinishedRun s (walked_run closed.logs.items closed.outcomes.items closed.output.items)
  finished = rw (run.logs, run.outcomes) (assembled_run s memory tags run.drawn run.served cores closed.output.items run.assembled)
