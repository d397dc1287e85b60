use Rattle.std.proofs.lemmas.Result.{err_from_is_err_and}
use Rattle.run_cli.proofs.replay.compare.Goals as goal

pub returns-in_err-finished-clause-refused : goal.returns-in_err-finished-clause-refused
returns-in_err-finished-clause-refused c =
    let p = err_from_is_err_and c.from_residual.result c.from_residual.ensures.1 in
    rw (p.1, p.2) (c.in_err-finished.ensures.refused c.args.bytes.now)
