use Rattle.order_core.specs.Logs.{logs_of}
use Rattle.order_core.specs.WalkCalls.{IsWalking}
use Rattle.bench.proofs.orders.sum_walk.Given as goal

-- the walk stays along the logs
abbrev pub invariant-cores : goal.invariant-cores
invariant-cores l = IsWalking l.walk (logs_of l.logs)
