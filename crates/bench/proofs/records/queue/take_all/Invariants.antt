use Rattle.std.proofs.Common.{◌≤◌}
use Rattle.bench.proofs.records.queue.take_all.Given as goal

abbrev pub invariant-takes : goal.invariant-takes
invariant-takes g l = l.next ≤ l.count
