use Rattle.std.proofs.Common.{◌≡◌}
use Rattle.bench.proofs.changes.bare.exchange_all.Given as goal

-- the seat stays at its table
abbrev pub invariant-exchanges : goal.invariant-exchanges
invariant-exchanges l = l.seat.table_id ≡ l.shared.table_id
