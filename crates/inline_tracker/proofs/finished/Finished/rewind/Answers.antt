use Rattle.order_core.specs.Logs.{logs_of}
use Rattle.inline_tracker.proofs.finished.Finished.rewind.Goals as goal

pub invariant_of-self : goal.invariant_of-self
invariant_of-self c = c.rewind.ensures.place (logs_of c.self.inside.logs.items) c.self.inside.given c.self.invariant
