use Rattle.std.proofs.Common.{ap, ◌∙◌}
use Rattle.syscall_drain.specs.Units.{next_ask}
use Rattle.hart_actor.specs.Harts.{Hart}
use Rattle.hart_actor.proofs.Moving.{meet_at}
use Rattle.hart_actor.proofs.Stages.{meet_keeps}
use Rattle.hart_actor.proofs.hart.HartActor.meet.Goals as goal

pub invariant_of-self : goal.invariant_of-self
invariant_of-self c =
    let is = c.self.view_is in
    meet_keeps _ c.args.item c.self.invariant (ap (λ (v : Hart). v.unsent) is ∙ c.requires.free.1) (ap (λ (v : Hart). v.stage) is ∙ c.requires.free.0) (ap (λ (v : Hart). next_ask v.program v.local) is ∙ c.requires.asked)

pub returns-clause-moved : goal.returns-clause-moved
returns-clause-moved c = meet_at _ _ c.args.item c.self.view_is c.requires.free.1 c.requires.free.0 c.requires.asked
