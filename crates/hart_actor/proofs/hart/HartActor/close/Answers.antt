use Rattle.hart_actor.proofs.Moving.{end_at}
use Rattle.hart_actor.proofs.hart.HartActor.close.Goals as goal

pub returns-clause-moved : goal.returns-clause-moved
returns-clause-moved c = end_at _ _ c.self.view_is c.requires.free.1 c.requires.free.0
