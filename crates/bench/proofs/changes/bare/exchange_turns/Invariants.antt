use Rattle.std.proofs.Common.{◌≡◌}
use Rattle.bench.proofs.changes.bare.exchange_turns.Given as goal

-- the seat stays at its table
abbrev pub invariant-numbers : goal.invariant-numbers
invariant-numbers l = l.seat.table_id ≡ l.shared.table_id
