use Rattle.std.proofs.Common.{◌≡◌}
use Rattle.bench.proofs.changes.bare.steppers.Given as goal

-- the seat stays at its table
abbrev pub invariant-threads : goal.invariant-threads
invariant-threads l = l.seat.table_id ≡ l.shared.table_id
