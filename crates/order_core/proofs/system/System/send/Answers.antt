use Rattle.order_core.proofs.Made.{made_send}
use Rattle.order_core.proofs.system.System.send.Goals as goal

pub invariant_of-self : goal.invariant_of-self
invariant_of-self c =
    made_send _ _ _ _ c.self.view_is _ _ c.index_mut.ensures.value _ c.self.invariant c.requires c.send.ensures

pub returns-clause-reached : goal.returns-clause-reached
returns-clause-reached c =
    made_send _ _ _ _ c.self.view_is _ _ c.index_mut.ensures.value _ c.self.invariant c.requires c.send.ensures
