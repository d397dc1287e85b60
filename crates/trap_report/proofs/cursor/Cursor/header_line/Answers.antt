use Rattle.std.proofs.Common.{sym, ap, ◌∙◌, subst}
use Rattle.trap_report.specs.Text.{Numbers, report_of}
use Rattle.trap_report.specs.Left.{IsTakenAt, header_number}
use Rattle.trap_report.specs.declared.place.LinePlace.{LinePlace}
use Rattle.trap_report.proofs.LeftLemmas.{header_told}
use Rattle.trap_report.proofs.RunLemmas.{taken_following}
use Rattle.trap_report.proofs.cursor.Cursor.header_line.Goals as goal

pub returns-clause-line : goal.returns-clause-line
returns-clause-line c =
    let report = report_of c.args.setup.now c.args.finished.now.run.order in
    header_told report c.args.next c.header_number.result c.following-self.result
    (c.header_number.ensures ∙ ap (λ (numbers : Numbers). header_number numbers c.args.next) (sym c.requires.told.numbers)) c.following-self.ensures

pub returns-clause-taken : goal.returns-clause-taken
returns-clause-taken c =
    let P : LinePlace → Type 0 = λ place. IsTakenAt c.args.setup.now c.args.finished.now place c.args.self.now.taken in
    subst P (sym c.following-self.ensures) (taken_following c.args.next c.args.setup.now c.args.finished.now c.args.self.now.taken c.requires.taken)
