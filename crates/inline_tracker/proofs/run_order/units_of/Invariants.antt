use Rattle.std.proofs.Common.{◌≡◌, ◌+◌, drop}
use Rattle.order_core.specs.Logs.{logs_of, entry_count}
use Rattle.inline_tracker.proofs.run_order.units_of.Given as goal

abbrev pub invariant-loop-log : goal.invariant-loop-log
invariant-loop-log l = l.units + entry_count (logs_of (drop l.log-index l.logs)) ≡ entry_count (logs_of l.logs)
