use Rattle.std.proofs.Common.{◌≡◌, drop}
use Rattle.outside.specs.Memory.{held_by}
use Rattle.outside.proofs.memory.held_in.Given as goal

-- no file so far has the name
abbrev pub invariant-loop-file : goal.invariant-loop-file
invariant-loop-file l = held_by (drop l.file-index l.files) l.name ≡ held_by l.files l.name
