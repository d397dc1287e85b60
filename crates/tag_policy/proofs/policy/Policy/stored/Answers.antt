use Rattle.tag_policy.proofs.Bits.{bits_are}
use Rattle.tag_policy.proofs.Forms.{store_bits}
use Rattle.tag_policy.proofs.policy.Policy.stored.Goals as goal

pub returns : goal.returns
returns c =
    let is = store_bits c.args.self.now c.args.value c.args.address c.requires.value c.requires.address in
    record { value = bits_are _ _ is; small = is.small }
