use Rattle.std.proofs.Common.{◌≡◌}
use Rattle.bench.proofs.changes.bare.add_all.Given as goal

-- the seat stays at its table
abbrev pub invariant-adds : goal.invariant-adds
invariant-adds l = l.seat.table_id ≡ l.shared.table_id
