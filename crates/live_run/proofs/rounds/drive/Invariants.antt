use Rattle.live_run.specs.Places.{AreSame}
use Rattle.live_run.proofs.rounds.drive.Given as goal

abbrev pub invariant-rounds : goal.invariant-rounds
invariant-rounds g l = record {
  next : (goal.iterator-rounds g).can_next l.iterator';
  finite : (goal.iterator-rounds g).is_finite l.iterator';
  harts : AreSame g.A.Lasting.same l.fn.harts l.harts;
  followers : AreSame g.B.Lasting.same l.fn.followers l.followers;
}
