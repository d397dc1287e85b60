use Rattle.std.proofs.Common.{refl, ◌∙◌, ap}
use Rattle.tag_policy.specs.Policies.{policy_in}
use Rattle.tag_registers.specs.Rows.{look}
use Rattle.tag_registers.specs.Tags.{kept_trap}
use Rattle.tag_registers.specs.Files.{tags_in}
use Rattle.tag_registers.proofs.Fired.{looked}
use Rattle.tag_registers.proofs.file.TagFile.look.Goals as goal

pub returns : goal.returns
returns c =
    c.fire.ensures ∙ ap (λ trap. record (tags_in c.args.self.now) { trap = kept_trap (tags_in c.args.self.now).trap trap })
    (looked (policy_in c.args.policy.now) (tags_in c.args.self.now) c.args.unit.step c.args.unit.pc (look c.args.check c.args.registers.now) _ _ _
    c.joined_tags.ensures (c.check.ensures.value c.args.check c.kind.ensures) refl)
