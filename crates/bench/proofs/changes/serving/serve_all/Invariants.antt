use Rattle.ticket_table.specs.Passes.{IsPassOf}
use Rattle.bench.proofs.changes.serving.serve_all.Given as goal

-- the pass stays one of the table
abbrev pub invariant-numbers : goal.invariant-numbers
invariant-numbers l = IsPassOf l.table l.pass
