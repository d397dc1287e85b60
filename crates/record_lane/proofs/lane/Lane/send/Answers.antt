use Rattle.std.proofs.Common.{ap}
use Rattle.record_lane.proofs.LaneSteps.{sender_sends, sees_sent}
use Rattle.record_lane.proofs.lane.Lane.send.Goals as goal

pub push_as-requires-clause-rule : goal.push_as-requires-clause-rule
push_as-requires-clause-rule g c =
    let is = c.requires.sender.1 in (
      sender_sends g.T.Item.sound _ _ _ _ _ _ _ _ _ is c.args.self.now.sized c.requires.item c.requires.count,
      sees_sent g.T.Item.sound _ _ (ap (λ v. v.sends) is),
    )
