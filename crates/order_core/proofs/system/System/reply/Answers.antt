use Rattle.order_core.proofs.Made.{made_reply}
use Rattle.order_core.proofs.system.System.reply.Goals as goal

pub invariant_of-self : goal.invariant_of-self
invariant_of-self c =
    made_reply _ _ _ _ c.self.view_is _ _ c.index_mut.ensures.value _ c.self.invariant c.requires c.reply.ensures

pub returns-clause-reached : goal.returns-clause-reached
returns-clause-reached c =
    made_reply _ _ _ _ c.self.view_is _ _ c.index_mut.ensures.value _ c.self.invariant c.requires c.reply.ensures
