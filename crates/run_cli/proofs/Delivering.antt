-- A finished run, whose output and report were written whole, is delivered.
use Rattle.std.proofs.Common.{◌≡◌, ℕ, ◌≤◌, ap, ◌∙◌, subst}
use Rattle.std.specs.Io.KnownBytes.{Appends}
use Rattle.outside.specs.Sinks.{Wrote}
use Rattle.machine.specs.Setups.{Setup}
use Rattle.machine.specs.Outcomes.{class_of, status_class}
use Rattle.machine.specs.FinishedRuns.{FinishedRun, IsFinishedRun}
use Rattle.trap_report.specs.Text.{text}
use Rattle.run_cli.specs.Seen.{SinksSeen}
use Rattle.run_cli.specs.Endings.{run_answer}
use Rattle.run_cli.specs.Forms.{Delivered}
use Rattle.run_cli.specs.declared.ending.Ending.TheVariants.{Class}

pub delivers : (s : Setup) (finished : FinishedRun) (old new : SinksSeen) (class : ℕ) → IsFinishedRun s finished → Appends old.out.written new.out.written finished.output → new.out.faults ≡ old.out.faults → Wrote (text s finished.order) old.report new.report → class ≡ class_of finished.cores → class ≤ 5 → Delivered (run_answer s finished.order) old new (Class class)
unfolding status_class
delivers s finished old new class ran whole kept report is within = (
  is ∙ ap (λ (f : FinishedRun). class_of f.cores) ran.run,
  within,
  record {
    out = record { whole = subst (Appends _ _) (ap (λ (f : FinishedRun). f.output) ran.run) whole; count = kept };
    report = report;
  },
)
