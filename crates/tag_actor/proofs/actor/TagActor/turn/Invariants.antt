use Rattle.tag_actor.specs.Turns.{AreOf, IsSameActor, IsGoing}
use Rattle.tag_actor.proofs.actor.TagActor.turn.Given as goal

abbrev pub invariant-loop-consumed : goal.invariant-loop-consumed
invariant-loop-consumed g l = record {
  going : IsGoing l.fn.self l.self l.consumed;
  objects : AreOf l.memory l.items l.replies l.self;
  same : IsSameActor l.fn.self l.self;
}
