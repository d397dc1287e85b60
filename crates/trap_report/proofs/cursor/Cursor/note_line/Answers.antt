use Rattle.std.proofs.Common.{◌+◌, List, sym, ap, ◌∙◌}
use Rattle.std.specs.Prelude.{count_by, is_some}
use Rattle.machine.specs.Outcomes.{Summary}
use Rattle.trap_report.specs.Text.{report_of}
use Rattle.trap_report.specs.declared.report_line.Section.TheVariants.{Traps}
use Rattle.trap_report.specs.declared.report_line.ReportLine.TheVariants.{Count}
use Rattle.trap_report.proofs.LeftLemmas.{given, note_next, notes_told}
use Rattle.trap_report.proofs.cursor.Cursor.note_line.Goals as goal

pub returns-in-Some-clause-line : goal.returns-in-Some-clause-line
returns-in-Some-clause-line c =
    let report = report_of c.args.setup.now c.args.finished.now.run.order in
    note_next report c.args.finished.now.run.cores c.args.core c.args.note c.in-Some.found.core (c.in-Some.found.place + 1) c.in-Some.found.note c.requires.told.cores c.in-Some.ensures.1

pub returns-in-None-clause-line : goal.returns-in-None-clause-line
returns-in-None-clause-line c =
    let report = report_of c.args.setup.now c.args.finished.now.run.order in
    let traps = λ (cores : List Summary). count_by (λ core. is_some core.trap) cores in
    given _ _ _ _
    (notes_told report c.args.finished.now.run.cores c.args.core c.args.note c.requires.told.cores c.in-None.ensures)
    (ap (Count Traps) (c.count_traps.ensures ∙ ap traps (sym c.requires.told.cores)))
