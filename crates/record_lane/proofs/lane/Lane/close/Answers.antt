use Rattle.std.proofs.Common.{rules, ap}
use Rattle.record_lane.proofs.LaneSteps.{merges, sees_rest}
use Rattle.record_lane.proofs.lane.Lane.close.Goals as goal

pub absorb-requires-clause-rule : goal.absorb-requires-clause-rule
absorb-requires-clause-rule g c =
    merges g.T.Item.sound _ _ _ _ (ap (λ v. v.sends) c.requires.sender.1) (ap (λ v. v.takes) c.requires.taker.1)

pub learn_as-requires-clause-rule : goal.learn_as-requires-clause-rule
learn_as-requires-clause-rule g c = sees_rest g.T.Item.sound _ _ (search rules) (search rules)
