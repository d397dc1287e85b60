use Rattle.std.proofs.Common.{refl, ap, ◌∙◌}
use Rattle.std.proofs.lemmas.Result.{err_from_is_err_and}
use Rattle.order_core.specs.CanonicalMerge.{canonical}
use Rattle.machine.specs.FinishedRuns.{FinishedRun}
use Rattle.machine.proofs.TrapRuns.{traps_hold_on}
use Rattle.run_cli.specs.Asked.{Run, run_in}
use Rattle.run_cli.proofs.prepare.prepare.Goals as goal

pub returns-in-Ok-clause-order : goal.returns-in-Ok-clause-order
returns-in-Ok-clause-order g c = record {
  complete = c.in-Ok.ensures.run.complete;
  merged = c.in-Ok.ensures.merged ∙ ap (λ (run : FinishedRun). canonical run.logs) c.in-Ok.ensures.run.run;
  held = traps_hold_on _ _ c.in-Ok.ensures.run.complete.playable;
}

pub returns-in_err-setup-clause-refused : goal.returns-in_err-setup-clause-refused
returns-in_err-setup-clause-refused g c =
    let p = err_from_is_err_and c.from_residual.result c.from_residual.ensures.1 in
    rw (p.1, p.2) (c.in_err-setup.ensures.refused (Run (run_in c.args.options.now)) refl)
