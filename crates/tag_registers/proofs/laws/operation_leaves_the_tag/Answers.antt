use Rattle.tag_registers.proofs.WordOperation.{operation_leaves}
use Rattle.tag_registers.proofs.laws.operation_leaves_the_tag.Goals as goal

pub returns : goal.returns
returns c = operation_leaves
