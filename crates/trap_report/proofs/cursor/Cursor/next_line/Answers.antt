use Rattle.std.proofs.Common.{ap, ◌∙◌, subst}
use Rattle.trap_report.specs.Text.{report_of}
use Rattle.trap_report.specs.Left.{IsTakenAt, left}
use Rattle.trap_report.specs.declared.place.LinePlace.{LinePlace}
use Rattle.trap_report.proofs.LeftLemmas.{at_version, done}
use Rattle.trap_report.proofs.cursor.Cursor.next_line.Goals as goal

pub header_line-requires-clause-taken : goal.header_line-requires-clause-taken
header_line-requires-clause-taken c =
    let P : LinePlace → Type 0 = λ place. IsTakenAt c.args.setup.now c.args.finished.now place c.args.self.now.taken in
    subst P c.in-AtHeader.is c.requires.taken

pub units_line-requires-clause-taken : goal.units_line-requires-clause-taken
units_line-requires-clause-taken c =
    let P : LinePlace → Type 0 = λ place. IsTakenAt c.args.setup.now c.args.finished.now place c.args.self.now.taken in
    subst P c.in-AtUnits.is c.requires.taken

pub unit_line-requires-clause-taken : goal.unit_line-requires-clause-taken
unit_line-requires-clause-taken c =
    let P : LinePlace → Type 0 = λ place. IsTakenAt c.args.setup.now c.args.finished.now place c.args.self.now.taken in
    subst P c.in-AtUnit.is c.requires.taken

pub returns-in-Done-clause-line : goal.returns-in-Done-clause-line
returns-in-Done-clause-line c =
    ap (λ (place : LinePlace). left c.args.setup.now c.args.finished.now.run place) c.in-Done.is ∙ done (report_of c.args.setup.now c.args.finished.now.run.order)

pub returns-in-AtVersion-clause-line : goal.returns-in-AtVersion-clause-line
returns-in-AtVersion-clause-line c =
    at_version (report_of c.args.setup.now c.args.finished.now.run.order) c.args.self.now.place c.version_line.new.self.place c.version_line.result c.in-AtVersion.is c.version_line.ensures.place c.version_line.ensures.line
