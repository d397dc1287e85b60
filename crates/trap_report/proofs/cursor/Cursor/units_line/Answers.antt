use Rattle.std.proofs.Common.{◌≡◌, length, sym, ap, ◌∙◌}
use Rattle.trap_report.specs.Text.{report_of}
use Rattle.trap_report.specs.declared.report_line.Section.TheVariants.{Units}
use Rattle.trap_report.specs.declared.report_line.ReportLine.TheVariants.{Count}
use Rattle.trap_report.proofs.LeftLemmas.{given, units_next}
use Rattle.trap_report.proofs.RunLemmas.{length_marks_of}
use Rattle.trap_report.proofs.cursor.Cursor.units_line.Goals as goal

pub returns-clause-line : goal.returns-clause-line
returns-clause-line c =
    let report = report_of c.args.setup.now c.args.finished.now.run.order in
    let count : length report.units ≡ c.from.result = sym (length_marks_of report.units) ∙ ap length c.requires.told.order ∙ sym (c.from.ensures ∙ c.units.ensures) in
    given _ _ _ _ (units_next report) (ap (Count Units) (sym count))
