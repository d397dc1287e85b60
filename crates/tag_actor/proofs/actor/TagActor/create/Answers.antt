use Rattle.tag_policy.specs.Policies.{policy_in}
use Rattle.tag_actor.proofs.Standing.{begins_standing}
use Rattle.tag_actor.proofs.actor.TagActor.create.Goals as goal

pub invariant_of-result : goal.invariant_of-result
invariant_of-result c = rw c.create.ensures (begins_standing (policy_in c.args.policy) c.args.pass c.args.taker c.args.sender c.requires.pass c.requires.taker c.requires.sender)
