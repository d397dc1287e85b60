-- What is found in the tags of a word, bit by bit.
use Rattle.std.proofs.Common.{◌≡◌, ℕ, ◌<◌, Bool, true, false, ◌&&◌, ◌||◌, if◌then◌else◌, refl, sym, ◌∙◌, arith, bit_or}
use Rattle.rv_decode.specs.Four.{bit_of}
use Rattle.tag_policy.specs.declared.rules.Version.TheVariants.{ByteTags}
use Rattle.tag_policy.specs.Memory.{joined, byte_tag, found_bit}
use Rattle.tag_policy.proofs.Bits.{IsBits, bits_are, bits_of, bits_or, bit_of_zero}
use Rattle.std.proofs.lemmas.Nat.{or_lt}

and_true : (a : Bool) → a ≡ (a && true)
and_true true = refl
and_true false = refl

and_false : (a : Bool) → false ≡ (a && false)
and_false true = refl
and_false false = refl

bits_if : (tag : ℕ) (touched : Bool) → tag < 16 → IsBits (if touched then tag else 0) (λ i. bit_of tag i && touched)
bits_if tag true h = record { small = h; same = λ i lt. and_true (bit_of tag i) }
bits_if tag false h = record { small = omega arith; same = λ i lt. bit_of_zero i ∙ and_false (bit_of tag i) }

any_of : (a b c d : Bool) → (((a || b) || c) || d) ≡ (a || (b || (c || (d || false))))
any_of true b c d = refl
any_of false true c d = refl
any_of false false true d = refl
any_of false false false true = refl
any_of false false false false = refl

bits_at : (word bytes j n : ℕ) → n ≡ (if bit_of bytes j then byte_tag word j else 0) → IsBits n (λ i. bit_of (byte_tag word j) i && bit_of bytes j)
bits_at word bytes j n e = rw e (bits_if (byte_tag word j) (bit_of bytes j) (omega arith))

pub found_bytes : (word bytes a b c d : ℕ)
    → a ≡ (if bit_of bytes 0 then byte_tag word 0 else 0) → b ≡ (if bit_of bytes 1 then byte_tag word 1 else 0)
    → c ≡ (if bit_of bytes 2 then byte_tag word 2 else 0) → d ≡ (if bit_of bytes 3 then byte_tag word 3 else 0)
    → IsBits (bit_or (bit_or (bit_or a b) c) d) (λ i. found_bit ByteTags word bytes i)
found_bytes word bytes a b c d ea eb ec ed =
    let whole = bits_or (bits_or (bits_or (bits_at word bytes 0 a ea) (bits_at word bytes 1 b eb)) (bits_at word bytes 2 c ec)) (bits_at word bytes 3 d ed) in
    record {
      small = whole.small;
      same = λ i lt. whole.same i lt ∙ any_of (bit_of (byte_tag word 0) i && bit_of bytes 0) (bit_of (byte_tag word 1) i && bit_of bytes 1)
          (bit_of (byte_tag word 2) i && bit_of bytes 2) (bit_of (byte_tag word 3) i && bit_of bytes 3);
    }

-- ---- joined tags

pub joined_is_or : (a b : ℕ) → a < 16 → b < 16 → joined a b ≡ bit_or a b
joined_is_or a b ha hb = sym (bits_are (bit_or a b) (λ i. bit_of a i || bit_of b i) (bits_or (bits_of a ha) (bits_of b hb)))

pub or_below : (a b : ℕ) → a < 16 → b < 16 → bit_or a b < 16
or_below a b ha hb = or_lt 4 a b ha hb
