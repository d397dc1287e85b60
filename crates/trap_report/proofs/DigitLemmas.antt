-- The digits of a number in base 16: the highest of those that are left.
use Rattle.std.proofs.Common.{◌≡◌, ℕ, zero, suc, ◌+◌, ◌-◌, ◌*◌, ◌<◌, ◌/◌, ◌%◌, ◌^◌, List, [], ◌∷◌, ◌++◌, refl, sym, ap, ◌∙◌, arith, append_assoc}
use Rattle.std.proofs.lemmas.Nat.{pow-add, mul-pow}
use Rattle.trap_report.specs.Digits.{hex, hex_digit}

pub hex_zero : (count n : ℕ) → count ≡ 0 → hex count n ≡ []
unfolding hex
hex_zero zero n h = refl
hex_zero (suc count) n h = absurd (omega arith)

pub hex_more : (count n : ℕ) → 0 < count → hex count n ≡ hex_digit (n / 16 ^ (count - 1) % 16) ∷ hex (count - 1) n
unfolding hex
hex_more zero n h = absurd (omega arith)
hex_more (suc count) n h = let same : suc count - 1 ≡ count = omega arith in rw same refl

four_bits : (k : ℕ) → 2 ^ (4 * k) ≡ 16 ^ k
four_bits k =
    let parts : 4 * k ≡ (k + k) + (k + k) = omega arith in
    let four : 4 ^ k ≡ 2 ^ k * 2 ^ k = mul-pow 2 2 k in
    ap (λ n. 2 ^ n) parts ∙ pow-add 2 (k + k) (k + k)
    ∙ ap (λ n. n * n) (pow-add 2 k k ∙ sym four)
    ∙ sym (mul-pow 4 4 k)

-- the highest of the digits that are left was put after the front
pub next_digit : (front now : List ℕ) (left n digit : ℕ) → 0 < left → now ≡ front ++ digit ∷ [] → digit ≡ hex_digit (n / 2 ^ (4 * (left - 1)) % 16) → now ++ hex (left - 1) n ≡ front ++ hex left n
next_digit front now left n digit some e d =
    let same : digit ≡ hex_digit (n / 16 ^ (left - 1) % 16) = d ∙ ap (λ m. hex_digit (n / m % 16)) (four_bits (left - 1)) in
    rw (hex_more left n some, e, ← same) (append_assoc front (digit ∷ []) (hex (left - 1) n))
