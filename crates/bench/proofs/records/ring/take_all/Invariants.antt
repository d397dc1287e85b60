use Rattle.std.proofs.Common.{◌≤◌}
use Rattle.record_lane.specs.Rings.{IsTakerOf}
use Rattle.bench.proofs.records.ring.take_all.Given as goal

abbrev pub invariant-takes : goal.invariant-takes
invariant-takes g l = IsTakerOf l.ring l.taker × (l.next ≤ l.count)
