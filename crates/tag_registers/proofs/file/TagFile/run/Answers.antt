use Rattle.tag_policy.specs.Policies.{policy_in}
use Rattle.rv_decode.specs.Classes.{class_of_imm}
use Rattle.tag_registers.specs.Rows.{OfOperand}
use Rattle.tag_registers.specs.Files.{tags_in}
use Rattle.tag_registers.proofs.Keeping.{unlooked}
use Rattle.tag_registers.proofs.file.TagFile.run.Goals as goal

pub returns-in-Imm : goal.returns-in-Imm
returns-in-Imm c =
    λ hit. rw c.in-Imm.is (unlooked (policy_in c.args.policy.now) (tags_in c.args.self.now) (tags_in c.operate_alone.new.self) c.args.unit.step c.args.unit.pc c.args.found
    (OfOperand c.in-Imm.rd (class_of_imm c.in-Imm.kind) c.in-Imm.rs1) (c.operate_alone.ensures c.args.found))
