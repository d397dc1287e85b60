use Rattle.std.proofs.Common.{◌<◌, lit<}
use Rattle.std.proofs.lemmas.List.Elements.{All-replicate}
use Rattle.tag_registers.proofs.file.TagFile.create.Goals as goal

pub invariant_of-result : goal.invariant_of-result
invariant_of-result c = record { small = All-replicate (λ tag. tag < 16) 32 0 (lit< tt); low = lit< tt }
