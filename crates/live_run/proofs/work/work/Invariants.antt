use Rattle.live_run.proofs.work.work.Given as goal

abbrev pub invariant-turns : goal.invariant-turns
invariant-turns g l = record {
  next : (goal.iterator-turns g).can_next l.iterator';
  finite : (goal.iterator-turns g).is_finite l.iterator';
  same : g.A.Lasting.same l.fn.actor l.actor;
}
