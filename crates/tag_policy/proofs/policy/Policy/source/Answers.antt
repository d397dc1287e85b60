use Rattle.tag_policy.proofs.Bits.{bits_are}
use Rattle.tag_policy.proofs.Forms.{source_bits}
use Rattle.tag_policy.proofs.policy.Policy.source.Goals as goal

pub returns : goal.returns
returns c =
    let is = source_bits c.args.self.now in
    record { value = bits_are _ _ is; small = is.small }
