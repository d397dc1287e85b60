-- Which check fires first, of the tags that are looked at.
use Rattle.std.proofs.Common.{◌≡◌, ℕ, ◌+◌, ◌<◌, ◌||◌, ◌==◌, Option, Some, None, List, [], ◌∷◌, length, get_or, take, if◌then◌else◌, sym, ◌∙◌, ap}
use Rattle.std.proofs.Common.{slice_index, bit_or}
use Rattle.std.specs.List.{list_any}
use Rattle.std.proofs.lemmas.List.Folds.{list_any_more}
use Rattle.rv_decode.specs.Four.{four, bit_of}
use Rattle.record_lane.specs.declared.reply.Trap.{Trap}
use Rattle.tag_policy.specs.Bits.{IsBits}
use Rattle.tag_policy.specs.Rules.{PolicySeen, rules_at, check_bit, kind_of}
use Rattle.tag_policy.proofs.Bits.{four_ext, bits_or, bits_of}
use Rattle.tag_registers.specs.Rows.{Look}
use Rattle.tag_registers.specs.Tags.{Tags, register_bit, looked_bit, fired, first_trap}

pub fired_on : (policy : PolicySeen) (tags : Tags) (look : Look) (tag : ℕ) → IsBits tag (looked_bit tags look.at)
    → four (λ i. check_bit (rules_at policy i) look.check (bit_of tag i)) ≡ fired policy tags look
fired_on policy tags look tag is =
    four_ext _ _ (λ i lt. ap (λ b. check_bit (rules_at policy i) look.check b) (is.same i lt))

-- one check, of the tag that it looks at
pub looked : (policy : PolicySeen) (tags : Tags) (step pc : ℕ) (look : Look) (tag bits : ℕ) (trap : Option Trap)
    → IsBits tag (looked_bit tags look.at)
    → bits ≡ four (λ i. check_bit (rules_at policy i) look.check (bit_of tag i))
    → trap ≡ (if bits == 0 then None else Some (record { step = step; pc = pc; kind = kind_of look.check; bits = bits }))
    → trap ≡ first_trap policy tags step pc (look ∷ [])
looked policy tags step pc look tag bits trap is e t =
    t ∙ ap (λ (n : ℕ). if n == 0 then None else Some (record { step = step; pc = pc; kind = kind_of look.check; bits = n })) (e ∙ fired_on policy tags look tag is)

-- the tags of registers joined, with one register more
pub joined_more : (tags registers : List ℕ) (k joined tag : ℕ) → k < length registers
    → IsBits joined (λ i. list_any (λ r. register_bit tags r i) (take k registers))
    → tag ≡ slice_index tags (get_or registers k 0) → tag < 16
    → IsBits (bit_or joined tag) (λ i. list_any (λ r. register_bit tags r i) (take (k + 1) registers))
joined_more tags registers k joined tag within is e small =
    let both = bits_or is (bits_of tag small) in
    record {
      small = both.small;
      same = λ i lt. both.same i lt
          ∙ ap (λ n. list_any (λ r. register_bit tags r i) (take k registers) || bit_of n i) e
          ∙ sym (list_any_more (λ r. register_bit tags r i) registers k 0 within);
    }
