use Rattle.std.proofs.Common.{sym, ◌∙◌}
use Rattle.trap_report.specs.Text.{report_of}
use Rattle.trap_report.proofs.LeftLemmas.{trap_next, traps_told}
use Rattle.trap_report.proofs.cursor.Cursor.trap_line.Goals as goal

pub returns-in-Some-clause-line : goal.returns-in-Some-clause-line
returns-in-Some-clause-line c =
    let report = report_of c.args.setup.now c.args.finished.now.run.order in
    trap_next report c.args.finished.now.run.cores c.args.core c.in-Some.owner c.in-Some.trap c.requires.told.cores c.in-Some.ensures.1

pub returns-in-None-clause-line : goal.returns-in-None-clause-line
returns-in-None-clause-line c =
    let report = report_of c.args.setup.now c.args.finished.now.run.order in
    traps_told report c.args.finished.now.run.cores c.args.core c.from.result c.requires.told.cores (c.requires.told.ends ∙ c.requires.told.count ∙ sym (c.from.ensures ∙ c.core_count-cores.ensures)) c.in-None.ensures
