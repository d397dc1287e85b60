use Rattle.std.proofs.Common.{◌≡◌, find, None}
use Rattle.order_core.specs.Protocol.{can_act, moves_below}
use Rattle.order_core.proofs.system.System.some_move.Given as goal

abbrev pub invariant-loop-core : goal.invariant-loop-core
invariant-loop-core l = find (can_act l.self) (moves_below l.core) ≡ None
