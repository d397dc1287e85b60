use Rattle.hart_actor.proofs.Moving.{full_at}
use Rattle.hart_actor.proofs.hart.HartActor.send.Goals as goal

pub returns-in-Full-clause-step : goal.returns-in-Full-clause-step
returns-in-Full-clause-step c = λ replies. full_at _ _ c.args.items.now c.send.new.sender c.args.item replies c.self.view_is c.requires.unsent c.in-Full.ensures.full.1 c.in-Full.ensures.cause
