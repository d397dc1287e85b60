use Rattle.tag_policy.proofs.Bits.{bits_are}
use Rattle.tag_policy.proofs.Words.{found_bytes}
use Rattle.tag_policy.proofs.memory.any_tag.Goals as goal

pub returns : goal.returns
returns c =
    let is = found_bytes c.args.word c.args.bytes _ _ _ _ c.byte_found.ensures.value c.byte_found-2.ensures.value c.byte_found-3.ensures.value c.byte_found-4.ensures.value in
    record { value = bits_are _ _ is; small = is.small }
