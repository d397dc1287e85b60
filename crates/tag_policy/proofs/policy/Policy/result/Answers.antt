use Rattle.tag_policy.proofs.Bits.{bits_are}
use Rattle.tag_policy.proofs.Forms.{result_bits}
use Rattle.tag_policy.proofs.policy.Policy.result.Goals as goal

pub returns : goal.returns
returns c =
    let is = result_bits c.args.self.now c.args.class c.args.a c.args.b c.modes-modes.result c.modes-modes.ensures c.requires.a c.requires.b in
    record { value = bits_are _ _ is; small = is.small }
