use Rattle.std.proofs.Common.{rules}
use Rattle.std.proofs.lemmas.Result.{err_from_is_err_and}
use Rattle.run_cli.specs.Asked.{setup_in}
use Rattle.run_cli.proofs.setup.policy_of.Goals as goal

pub returns-in_err-text-clause-refused : goal.returns-in_err-text-clause-refused
returns-in_err-text-clause-refused g c asked image before =
    let p = err_from_is_err_and c.from_residual.result c.from_residual.ensures.1 in
    rw (p.1, p.2) (c.in_err-text.ensures.refused asked (record { options = setup_in c.args.options.now; image = image; before = before; named = search rules }))
