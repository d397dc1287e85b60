use Rattle.std.proofs.Common.{◌≡◌, replicate}
use Rattle.order_core.specs.Protocol.{idle}
use Rattle.order_core.proofs.system.idle_cores.Given as goal

abbrev pub invariant-loop-core : goal.invariant-loop-core
invariant-loop-core l = l.queues.items ≡ replicate l.core (idle l.bound)
