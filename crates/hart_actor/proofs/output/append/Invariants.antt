use Rattle.std.proofs.Common.{◌≡◌, ◌++◌, take}
use Rattle.hart_actor.proofs.output.append.Given as goal

abbrev pub invariant-loop-byte : goal.invariant-loop-byte
invariant-loop-byte l = l.output ≡ record l.initial.output { items = l.initial.output.items ++ take l.byte-index l.bytes }
