use Rattle.tag_policy.proofs.Bits.{bits_are}
use Rattle.tag_policy.proofs.Forms.{load_bits}
use Rattle.tag_policy.proofs.policy.Policy.loaded.Goals as goal

pub returns : goal.returns
returns c =
    let is = load_bits c.args.self.now c.args.word c.args.address c.requires.word c.requires.address in
    record { value = bits_are _ _ is; small = is.small }
