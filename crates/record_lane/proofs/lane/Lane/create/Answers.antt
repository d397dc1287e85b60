use Rattle.record_lane.proofs.LaneSteps.{begins}
use Rattle.record_lane.proofs.lane.Lane.create.Goals as goal

pub ruled-requires-clause-rule : goal.ruled-requires-clause-rule
ruled-requires-clause-rule g c = begins g.T.Item.sound
