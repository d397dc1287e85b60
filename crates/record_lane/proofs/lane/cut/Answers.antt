use Rattle.std.proofs.Common.{ap}
use Rattle.record_lane.proofs.LaneSteps.{forks}
use Rattle.record_lane.proofs.lane.cut.Goals as goal

pub another-requires-clause-rule : goal.another-requires-clause-rule
another-requires-clause-rule g c =
    let first = c.requires.first in forks g.T.Item.sound _ _ _ _ _ (ap (λ v. v.sends) first) (ap (λ v. v.takes) first) (ap (λ v. v.sent) first)
