-- The pass stays one of this table, and its caller's.
use Rattle.std.proofs.Common.{◌≡◌}
use Rattle.ticket_table.specs.Passes.{IsPassOf}
use Rattle.store_tests.proofs.tickets.draw_thousand.Given as goal

abbrev pub invariant-draws : goal.invariant-draws
invariant-draws l = IsPassOf l.table l.pass × (l.pass.caller ≡ l.fn.pass.caller)
