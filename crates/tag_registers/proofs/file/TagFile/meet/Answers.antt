use Rattle.std.proofs.Common.{[], ◌∷◌, ◌∙◌, ap}
use Rattle.tag_policy.specs.declared.rules.Check.TheVariants.{CallNumber, CallArgument}
use Rattle.tag_policy.specs.Policies.{policy_in}
use Rattle.tag_registers.specs.Rows.{look, arguments}
use Rattle.tag_registers.specs.Tags.{Tags}
use Rattle.tag_registers.specs.Files.{tags_in}
use Rattle.tag_registers.proofs.Keeping.{looked_twice}
use Rattle.tag_registers.proofs.file.TagFile.meet.Goals as goal

pub returns-in-Call : goal.returns-in-Call
returns-in-Call c =
    λ found. rw c.in-Call.is (c.clear_buffer.ensures ∙ ap (λ (tags : Tags). record tags { buffer = 0 })
    (looked_twice (policy_in c.args.policy.now) (tags_in c.args.self.now) (tags_in c.look.new.self) (tags_in c.look-in-Call.new.self) c.args.unit.step c.args.unit.pc
    (look CallNumber (17 ∷ [])) CallArgument (arguments c.args.call) c.look.ensures (rw c.call_arguments.ensures.value at c.look-in-Call.ensures)))
