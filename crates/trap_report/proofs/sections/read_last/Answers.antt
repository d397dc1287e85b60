use Rattle.std.proofs.Common.{[], ◌∙◌}
use Rattle.std.proofs.lemmas.Result.{err_from_is_err_and}
use Rattle.trap_report.specs.Reading.{LastLine}
use Rattle.trap_report.proofs.ReadLemmas.{exit_goes, line_cut, line_goes, goes_ok, goes_err, at_the_end, past_the_end, is_zero, not_zero}
use Rattle.trap_report.proofs.sections.read_last.Goals as goal

pub returns-in_err-line : goal.returns-in_err-line
returns-in_err-line c = λ told.
    let p = err_from_is_err_and c.from_residual.result c.from_residual.ensures.1 in
    let h = c.in_err-line.ensures in
    exit_goes _ _ c.from_residual.result p.0 _ p.1 p.2 (line_cut c.args.lines.now.rest.now c.args.lines.now.taken told LastLine [] _ _ h.1 h.0)

pub returns-in_err-told : goal.returns-in_err-told
returns-in_err-told c = λ told.
    let p = err_from_is_err_and c.from_residual-in_err-told.result c.from_residual-in_err-told.ensures.1 in
    let h = c.in_ok-line.ensures in
    let goes = line_goes c.args.lines.now.rest.now c.take.new.self.rest.now c.args.lines.now.taken c.take.new.self.taken _ told LastLine [] _ _ h.0 h.1 (c.last_line.ensures told.numbers) c.told.ensures in
    exit_goes _ _ c.from_residual-in_err-told.result p.0 _ p.1 p.2 (goes_err _ _ _ _ _ goes c.in_err-told.was)

pub returns-then-is_empty : goal.returns-then-is_empty
returns-then-is_empty c = λ told.
    let h = c.in_ok-line.ensures in
    let goes = line_goes c.args.lines.now.rest.now c.take.new.self.rest.now c.args.lines.now.taken c.take.new.self.taken _ told LastLine [] _ _ h.0 h.1 (c.last_line.ensures told.numbers) c.told.ensures in
    record { leads = goes_ok _ _ _ _ goes c.in_ok-told.was ∙ at_the_end c.take.new.self.rest.now c.take.new.self.taken told (is_zero _ _ c.is_empty.ensures c.if-is_empty.true) }

pub returns-else-is_empty : goal.returns-else-is_empty
returns-else-is_empty c = λ told.
    let h = c.in_ok-line.ensures in
    let goes = line_goes c.args.lines.now.rest.now c.take.new.self.rest.now c.args.lines.now.taken c.take.new.self.taken _ told LastLine [] _ _ h.0 h.1 (c.last_line.ensures told.numbers) c.told.ensures in
    record { leads = goes_ok _ _ _ _ goes c.in_ok-told.was ∙ past_the_end c.take.new.self.rest.now c.take.new.self.taken told (not_zero _ _ c.is_empty.ensures c.if-is_empty.false) }
