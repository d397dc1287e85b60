use Rattle.std.proofs.Common.{[]}
use Rattle.trap_report.proofs.KindLemmas.{no_form}
use Rattle.trap_report.proofs.kinds.unit_core.Goals as goal

pub returns-clause-read : goal.returns-clause-read
returns-clause-read c = c.read_or.ensures.read _ (c.read_or-touched.ensures.read [] (no_form _))
