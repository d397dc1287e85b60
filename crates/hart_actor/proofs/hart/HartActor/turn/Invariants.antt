use Rattle.std.proofs.Common.{◌≤◌}
use Rattle.hart_actor.proofs.Turning.{Along}
use Rattle.hart_actor.proofs.hart.HartActor.turn.Given as goal

abbrev pub invariant-turn : goal.invariant-turn
invariant-turn g l = record {
  next : (goal.iterator-turn g).can_next l.iterator';
  finite : (goal.iterator-turn g).is_finite l.iterator';
  some : 1 ≤ l.left;
  along : Along l.went l.left l.fn.quantum l.fn.self l.self;
}
