use Rattle.std.proofs.Common.{rules}
use Rattle.run_cli.proofs.Delivering.{delivers}
use Rattle.run_cli.proofs.deliver.deliver.Goals as goal

pub returns : goal.returns
returns g c =
    delivers c.args.run.now.setup c.args.run.now.finished.run _ _ _ c.requires
    (rw (← c.output.ensures, ← c.as_slice.ensures.items) (search rules))
    (search rules)
    (search rules)
    (rw c.write_report.ensures.same at c.status_of.ensures.class)
    c.status_of.ensures.within
