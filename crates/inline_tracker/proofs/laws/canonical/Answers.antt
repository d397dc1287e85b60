use Rattle.machine.proofs.Tracing.{canonical_trace}
use Rattle.inline_tracker.proofs.laws.canonical.Goals as goal

pub returns : goal.returns
returns c = canonical_trace
