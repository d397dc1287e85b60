use Rattle.std.proofs.lemmas.Result.{err_from_is_err_and}
use Rattle.trap_report.specs.Reading.{Numbered}
use Rattle.trap_report.proofs.ReadLemmas.{exit_goes, line_cut, line_goes}
use Rattle.trap_report.proofs.header.read_number.Goals as goal

pub returns-in_err-line-clause-takes : goal.returns-in_err-line-clause-takes
returns-in_err-line-clause-takes c = λ told kinds.
    let p = err_from_is_err_and c.from_residual.result c.from_residual.ensures.1 in
    let h = c.in_err-line.ensures in
    exit_goes _ _ c.from_residual.result p.0 _ p.1 p.2 (line_cut c.args.lines.now.rest.now c.args.lines.now.taken told (Numbered c.args.name) kinds _ _ h.1 h.0)

pub returns-clause-takes : goal.returns-clause-takes
returns-clause-takes c = λ told kinds.
    let h = c.in_ok-line.ensures in
    line_goes c.args.lines.now.rest.now c.take.new.self.rest.now c.args.lines.now.taken c.take.new.self.taken _ told (Numbered c.args.name) kinds _ _ h.0 h.1 (c.header_number.ensures.read told.numbers) c.told.ensures
