use Rattle.std.proofs.Common.{take}
use Rattle.std.specs.List.{list_any}
use Rattle.tag_policy.specs.Bits.{IsBits}
use Rattle.tag_registers.specs.Tags.{register_bit}
use Rattle.tag_registers.proofs.file.TagFile.joined_tags.Given as goal

abbrev pub invariant-loop-register : goal.invariant-loop-register
invariant-loop-register l = IsBits l.joined (λ i. list_any (λ r. register_bit l.self.tags r i) (take l.register-index l.registers))
