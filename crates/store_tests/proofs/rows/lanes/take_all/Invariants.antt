use Rattle.std.proofs.Common.{◌≤◌}
use Rattle.record_lane.specs.Lanes.{IsTakerOf}
use Rattle.store_tests.proofs.rows.lanes.take_all.Given as goal

abbrev pub invariant-takes : goal.invariant-takes
invariant-takes g l = IsTakerOf l.lane l.taker × (l.in_order ≤ l.next) × (l.next ≤ l.count)
