use Rattle.std.proofs.Common.{◌≡◌, ◌+◌, ◌*◌, ◌^◌, ◌≤◌, drop}
use Rattle.order_core.specs.Logs.{logs_of, entry_count}
use Rattle.bench.proofs.orders.entries_within.Given as goal

abbrev pub invariant-loop-log : goal.invariant-loop-log
invariant-loop-log l = record {
  rest : l.total + entry_count (logs_of (drop l.log-index l.logs)) ≡ entry_count (logs_of l.logs);
  small : l.total ≤ l.log-index * 2 ^ 32;
}
