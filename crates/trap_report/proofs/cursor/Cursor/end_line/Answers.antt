use Rattle.std.proofs.Common.{◌≡◌, List, length, refl, ap, ◌∙◌, arith}
use Rattle.std.specs.Prelude.{slice_get}
use Rattle.machine.specs.Outcomes.{Summary}
use Rattle.inline_tracker.specs.Outcomes.{outcome_summary}
use Rattle.trap_report.specs.Text.{report_of}
use Rattle.trap_report.proofs.LeftLemmas.{ends_told, end_next}
use Rattle.trap_report.proofs.cursor.Cursor.end_line.Goals as goal

pub returns-then-core-core_count-clause-line : goal.returns-then-core-core_count-clause-line
returns-then-core-core_count-clause-line c =
    let report = report_of c.args.setup.now c.args.finished.now.run.order in
    let count : length report.cores ≡ length c.args.finished.now.run.cores = ap length c.requires.told.cores in
    ends_told report c.args.core (omega (arith, count, c.requires.told.count, c.core_count.ensures))

pub returns-clause-line : goal.returns-clause-line
returns-clause-line c =
    let report = report_of c.args.setup.now c.args.finished.now.run.order in
    end_next report c.args.core (outcome_summary c.core.result.now) c.core.result.now.end (ap (λ (cores : List Summary). slice_get cores c.args.core) c.requires.told.cores ∙ c.core.ensures) refl
