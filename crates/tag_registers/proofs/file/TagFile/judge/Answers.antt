use Rattle.std.proofs.Common.{refl, ◌∙◌, ap}
use Rattle.rv_decode.specs.Four.{bit_of}
use Rattle.tag_policy.specs.Bits.{IsBits}
use Rattle.tag_policy.specs.declared.rules.Check.TheVariants.{Sink}
use Rattle.tag_policy.specs.Policies.{policy_in}
use Rattle.tag_policy.proofs.Bits.{bits_of}
use Rattle.tag_registers.specs.Rows.{Buffer}
use Rattle.tag_registers.specs.Tags.{kept_trap}
use Rattle.tag_registers.specs.Files.{tags_in}
use Rattle.tag_registers.proofs.Fired.{looked}
use Rattle.tag_registers.proofs.file.TagFile.judge.Goals as goal

pub returns : goal.returns
returns c =
    let is : IsBits c.buffer.result (bit_of c.args.self.now.buffer) = rw c.buffer.ensures.value (bits_of c.args.self.now.buffer c.args.self.now.low) in
    c.fire.ensures ∙ ap (λ trap. record (tags_in c.args.self.now) { trap = kept_trap (tags_in c.args.self.now).trap trap })
    (looked (policy_in c.args.policy.now) (tags_in c.args.self.now) c.args.unit.step c.args.unit.pc (record { check = Sink; at = Buffer }) _ _ _
    is (c.check.ensures.value Sink c.kind.ensures) refl)
