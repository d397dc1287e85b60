use Rattle.ticket_table.specs.Passes.{IsPassOf}
use Rattle.bench.proofs.changes.serving.serve_one.Given as goal

-- the pass stays one of the table
abbrev pub invariant-tries : goal.invariant-tries
invariant-tries l = IsPassOf l.table l.pass
