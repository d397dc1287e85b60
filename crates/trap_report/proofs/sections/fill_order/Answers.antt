use Rattle.std.proofs.Common.{◌++◌, ◌-◌, List, replicate, ap, ◌∙◌, arith}
use Rattle.std.proofs.lemmas.Result.{err_from_is_err_and}
use Rattle.trap_report.specs.Reading.{LineKind, LineOf, Reported}
use Rattle.trap_report.specs.Walking.{reading}
use Rattle.trap_report.specs.declared.report_line.Section.TheVariants.{Units}
use Rattle.trap_report.proofs.ReadLemmas.{exit_goes, goes_wrong, one_of}
use Rattle.trap_report.proofs.sections.fill_order.Goals as goal

pub returns-in_err-core-clause-goes : goal.returns-in_err-core-clause-goes
returns-in_err-core-clause-goes c = λ numbers kinds range.
    let p = err_from_is_err_and c.from_residual.result c.from_residual.ensures.1 in
    let left = c.loop-left.left in
    let told : Reported = record { numbers = numbers; order = c.loop-left.order.items } in
    let next = ap (λ (to_come : List LineKind). reading c.loop-left.lines.rest.now c.loop-left.lines.taken told to_come) (one_of left (LineOf Units) kinds (omega arith)) in
    exit_goes _ _ c.from_residual.result p.0 _ p.1 p.2
    (goes_wrong _ _ _ _ _ (c.loop-left.invariant.read numbers kinds range ∙ next) (c.in_err-core.ensures.takes told (replicate (left - 1) (LineOf Units) ++ kinds) range))
