use Rattle.record_lane.proofs.LaneSteps.{takes, sees_taken}
use Rattle.record_lane.proofs.lane_left.Left.next.Goals as goal

pub pop_as-requires-clause-rule : goal.pop_as-requires-clause-rule
pop_as-requires-clause-rule g c =
    let may = c.args.self.now.whole.1 in (takes g.T.Item.sound _ _ may, sees_taken g.T.Item.sound _ _ may)
