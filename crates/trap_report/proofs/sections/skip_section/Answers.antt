use Rattle.std.proofs.Common.{◌++◌, ◌-◌, List, replicate, refl, ap, ◌∙◌, arith}
use Rattle.std.proofs.lemmas.Result.{err_from_is_err_and}
use Rattle.trap_report.specs.Reading.{LineKind, LineOf}
use Rattle.trap_report.specs.Walking.{reading}
use Rattle.trap_report.proofs.ReadLemmas.{exit_goes, goes_wrong, one_of, any_count}
use Rattle.trap_report.proofs.sections.skip_section.Goals as goal

pub returns-in_err-count : goal.returns-in_err-count
returns-in_err-count c = λ told kinds range.
    let p = err_from_is_err_and c.from_residual.result c.from_residual.ensures.1 in
    exit_goes _ _ c.from_residual.result p.0 _ p.1 p.2 (goes_wrong _ _ _ _ _ refl (c.in_err-count.ensures.takes told kinds (any_count told.numbers c.args.section c.requires)))

pub returns-in_err-read_core : goal.returns-in_err-read_core
returns-in_err-read_core c = λ told kinds range.
    let p = err_from_is_err_and c.from_residual-in_err-read_core.result c.from_residual-in_err-read_core.ensures.1 in
    let left = c.loop-left.left in
    let count = (c.in_ok-count.ensures.takes told kinds (any_count told.numbers c.args.section c.requires)).leads in
    let next = ap (λ (to_come : List LineKind). reading c.loop-left.lines.rest.now c.loop-left.lines.taken told to_come) (one_of left (LineOf c.args.section) kinds (omega arith)) in
    exit_goes _ _ c.from_residual-in_err-read_core.result p.0 _ p.1 p.2
    (goes_wrong _ _ _ _ _ (count ∙ c.loop-left.invariant told kinds range ∙ next) (c.in_err-read_core.ensures.takes told (replicate (left - 1) (LineOf c.args.section) ++ kinds) range))
