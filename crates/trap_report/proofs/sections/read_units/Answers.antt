use Rattle.std.proofs.Common.{ℕ, ◌*◌, [], refl, sym, ap, arith}
use Rattle.std.proofs.lemmas.Result.{err_from_is_err_and}
use Rattle.trap_report.specs.Reading.{Reported}
use Rattle.trap_report.specs.Walking.{numbers_in}
use Rattle.trap_report.specs.declared.form.Field.TheVariants.{Decimal}
use Rattle.trap_report.proofs.ReadLemmas.{exit_goes, goes_wrong, goes_after}
use Rattle.trap_report.proofs.sections.read_units.Goals as goal

pub returns-in_err-count-clause-goes : goal.returns-in_err-count-clause-goes
returns-in_err-count-clause-goes c = λ kinds.
    let p = err_from_is_err_and c.from_residual.result c.from_residual.ensures.1 in
    let told : Reported = record { numbers = numbers_in c.args.header.now; order = [] } in
    let range = ap (λ (cores : ℕ). Decimal 0 (cores * c.args.header.now.budget)) (sym c.from.ensures) in
    exit_goes _ _ c.from_residual.result p.0 _ p.1 p.2 (goes_wrong _ _ _ _ _ refl (c.in_err-count.ensures.takes told kinds range))

pub returns-clause-goes : goal.returns-clause-goes
returns-clause-goes c = λ kinds.
    let told : Reported = record { numbers = numbers_in c.args.header.now; order = [] } in
    let range = ap (λ (cores : ℕ). Decimal 0 (cores * c.args.header.now.budget)) (sym c.from.ensures) in
    let count = (c.in_ok-count.ensures.takes told kinds range).leads in
    goes_after _ _ _ c.fill_order.result count (c.fill_order.ensures.goes (numbers_in c.args.header.now) kinds (omega (arith, c.from-2.ensures)))
