use Rattle.machine.proofs.Tracing.{trace}
use Rattle.inline_tracker.proofs.laws.trace.Goals as goal

pub returns : goal.returns
returns c = trace
