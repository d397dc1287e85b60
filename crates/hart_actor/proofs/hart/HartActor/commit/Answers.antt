use Rattle.std.proofs.Common.{ap, subst}
use Rattle.std.specs.Prelude.{IsSome}
use Rattle.syscall_drain.specs.declared.ask.NextUnit.{NextUnit}
use Rattle.hart_actor.specs.Harts.{Hart}
use Rattle.hart_actor.proofs.Stages.{over_ended}
use Rattle.hart_actor.proofs.hart.HartActor.commit.Goals as goal

pub close-requires-clause-ended : goal.close-requires-clause-ended
close-requires-clause-ended c =
    let over = over_ended _ _ c.next-unit.result.ask c.next-unit.ensures.sound (ap (λ (u : NextUnit). u.ask) c.next-unit.ensures.unit.is) c.in-Ended.is in
    subst (λ (h : Hart). IsSome h.local.ending) c.self.view_is over
