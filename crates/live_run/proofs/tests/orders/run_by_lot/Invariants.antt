use Rattle.std.proofs.Common.{◌≡◌}
use Rattle.live_run.proofs.tests.orders.run_by_lot.Given as goal

-- the setup stays
abbrev pub invariant-loop : goal.invariant-loop
invariant-loop g l = l.parts.setup ≡ l.fn.parts.setup
