use Rattle.std.proofs.Common.{[]}
use Rattle.trap_report.proofs.KindLemmas.{no_form}
use Rattle.trap_report.proofs.kinds.end_core.Goals as goal

pub returns-clause-read : goal.returns-clause-read
returns-clause-read c =
    let spent = c.read_or-spent.ensures.read [] (no_form _) in
    let budget = c.read_or-budget.ensures.read _ spent in
    let fault = c.read_or-fault.ensures.read _ budget in
    c.read_or.ensures.read _ (c.read_or-trapped.ensures.read _ fault)
