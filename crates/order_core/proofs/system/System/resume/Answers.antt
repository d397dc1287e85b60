use Rattle.order_core.proofs.Made.{made_resume}
use Rattle.order_core.proofs.system.System.resume.Goals as goal

pub invariant_of-self : goal.invariant_of-self
invariant_of-self c =
    made_resume _ _ _ _ c.self.view_is _ _ c.index_mut.ensures.value _ c.self.invariant c.requires c.resume.ensures

pub returns-clause-reached : goal.returns-clause-reached
returns-clause-reached c =
    made_resume _ _ _ _ c.self.view_is _ _ c.index_mut.ensures.value _ c.self.invariant c.requires c.resume.ensures
