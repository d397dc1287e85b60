use Rattle.std.proofs.Common.{[]}
use Rattle.trap_report.proofs.KindLemmas.{no_form}
use Rattle.trap_report.proofs.kinds.note_core.Goals as goal

pub returns-clause-read : goal.returns-clause-read
returns-clause-read c = c.read_or.ensures.read [] (no_form _)
