use Rattle.std.proofs.Common.{◌≡◌, ◌≤◌, length}
use Rattle.record_lane.specs.Rings.{sent_by, IsSenderOf}
use Rattle.bench.proofs.records.ring.send_all.Given as goal

abbrev pub invariant-sends : goal.invariant-sends
invariant-sends g l = IsSenderOf l.ring l.sender × (length (sent_by l.sender) ≡ l.next) × (l.next ≤ l.count)
