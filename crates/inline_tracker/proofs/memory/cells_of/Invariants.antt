use Rattle.std.proofs.Common.{◌≡◌, map, take}
use Rattle.inline_tracker.specs.Cells.{untouched}
use Rattle.inline_tracker.proofs.memory.cells_of.Given as goal

abbrev pub invariant-loop-payload : goal.invariant-loop-payload
invariant-loop-payload l = l.cells.items ≡ map untouched (take l.payload-index l.payloads)
