use Rattle.std.proofs.Common.{◌≡◌, take}
use Rattle.std.proofs.lemmas.List.{take_all}
use Rattle.tag_policy.proofs.Bits.{bits_of_zero}
use Rattle.tag_registers.proofs.Fired.{joined_more}
use Rattle.tag_registers.proofs.file.TagFile.joined_tags.Goals as goal

pub loop-register-init : goal.loop-register-init
loop-register-init c = bits_of_zero

pub loop-register-preserved : goal.loop-register-preserved
loop-register-preserved c =
    joined_more c.args.self.now.tags c.args.registers.now c.loop-register.register-index c.loop-register.joined c.tag-joined.result
    c.loop-register-test.true c.loop-register.invariant c.tag-joined.ensures.value c.tag-joined.ensures.small

pub returns : goal.returns
returns c =
    let whole : take c.loop-register.register-index c.args.registers.now ≡ c.args.registers.now = take_all _ _ c.loop-register-test.false in
    rw whole at c.loop-register.invariant
