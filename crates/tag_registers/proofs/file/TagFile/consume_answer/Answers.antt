use Rattle.tag_policy.specs.Policies.{policy_in}
use Rattle.tag_registers.specs.Files.{tags_in}
use Rattle.tag_registers.proofs.Folding.{stands_on}
use Rattle.tag_registers.proofs.file.TagFile.consume_answer.Goals as goal

pub returns-clause-stands : goal.returns-clause-stands
returns-clause-stands c =
    stands_on (policy_in c.args.policy.now) (tags_in c.args.self.now) (tags_in c.finish_touch.new.self) (record { item = c.args.item.now; found = c.args.old })
    c.finish_touch.ensures
