use Rattle.std.proofs.Common.{◌≤◌}
use Rattle.bench.proofs.records.queue.send_all.Given as goal

abbrev pub invariant-sends : goal.invariant-sends
invariant-sends g l = l.next ≤ l.count
