use Rattle.tag_registers.proofs.Packing.{IsPackedFrom}
use Rattle.tag_registers.proofs.file.TagFile.tags.Given as goal

abbrev pub invariant-loop-register : goal.invariant-loop-register
invariant-loop-register l = IsPackedFrom l.self.tags l.register l.all
