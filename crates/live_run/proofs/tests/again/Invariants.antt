use Rattle.std.proofs.Common.{◌≡◌}
use Rattle.live_run.proofs.tests.again.Given as goal

-- the setup and the run stay
abbrev pub invariant-loop : goal.invariant-loop
invariant-loop l = (l.tracker.setup ≡ l.fn.setup) × (l.finished.run ≡ l.fn.finished.run)
