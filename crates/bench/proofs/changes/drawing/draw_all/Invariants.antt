use Rattle.ticket_table.specs.Calls.{MayDraw}
use Rattle.bench.proofs.changes.drawing.draw_all.Given as goal

-- the pass may draw again
abbrev pub invariant-draws : goal.invariant-draws
invariant-draws l = MayDraw l.table l.pass l.word
