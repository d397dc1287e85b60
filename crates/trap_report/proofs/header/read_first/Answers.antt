use Rattle.std.proofs.lemmas.Result.{err_from_is_err_and}
use Rattle.trap_report.specs.Reading.{FirstLine}
use Rattle.trap_report.proofs.ReadLemmas.{exit_goes, line_cut, line_goes}
use Rattle.trap_report.proofs.header.read_first.Goals as goal

pub returns-in_err-line : goal.returns-in_err-line
returns-in_err-line c = λ told kinds.
    let p = err_from_is_err_and c.from_residual.result c.from_residual.ensures.1 in
    let h = c.in_err-line.ensures in
    exit_goes _ _ c.from_residual.result p.0 _ p.1 p.2 (line_cut c.args.lines.now.rest.now c.args.lines.now.taken told FirstLine kinds _ _ h.1 h.0)

pub returns : goal.returns
returns c = λ told kinds.
    let h = c.in_ok-line.ensures in
    line_goes c.args.lines.now.rest.now c.take.new.self.rest.now c.args.lines.now.taken c.take.new.self.taken _ told FirstLine kinds _ _ h.0 h.1 (c.first_line.ensures told.numbers) c.told.ensures
