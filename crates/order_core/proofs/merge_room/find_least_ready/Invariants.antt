use Rattle.std.proofs.Common.{◌≡◌, None}
use Rattle.order_core.specs.Logs.{logs_of}
use Rattle.order_core.specs.CanonicalMerge.{least_ready}
use Rattle.order_core.specs.Places.{left_at, reached_at}
use Rattle.order_core.proofs.merge_room.find_least_ready.Given as goal

-- no core below is ready
abbrev pub invariant-loop-core : goal.invariant-loop-core
invariant-loop-core l = least_ready (left_at (logs_of l.logs) l.places) (reached_at l.counts) l.core ≡ None
