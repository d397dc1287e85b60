use Rattle.std.proofs.Common.{◌∙◌}
use Rattle.tag_policy.specs.Policies.{policy_in}
use Rattle.tag_registers.specs.Files.{tags_in}
use Rattle.tag_registers.proofs.Folding.{stands_on}
use Rattle.tag_registers.proofs.Consumed.{consumed_after}
use Rattle.tag_registers.proofs.file.TagFile.consume.Goals as goal

pub returns-clause-stands : goal.returns-clause-stands
returns-clause-stands c =
    λ givens h at.
    stands_on (policy_in c.args.policy.now) (tags_in c.args.self.now) (tags_in c.take_record.new.self) (record { item = c.args.item.now; found = 0 })
    (c.take_record.ensures.tags ∙ consumed_after (policy_in c.args.policy.now) (tags_in c.args.self.now) c.args.item.now h) givens at
