use Rattle.std.proofs.Common.{◌≡◌}
use Rattle.bench.proofs.changes.bare.exchange_one.Given as goal

-- the seat stays at its table
abbrev pub invariant-tries : goal.invariant-tries
invariant-tries l = l.seat.table_id ≡ l.shared.table_id
