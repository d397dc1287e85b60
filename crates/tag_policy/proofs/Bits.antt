-- A number below 16 and its four bits, under bitwise or and and.
use Rattle.std.proofs.Common.{◌≡◌, ℕ, zero, suc, ◌/◌, ◌%◌, ◌<◌, max, min, Bool, true, false, ◌&&◌, ◌||◌, ◌==◌, refl, ◌∙◌, ap, arith, lit<, bit_or, bit_and}
use Rattle.std.specs.Int.{bit_at}
use Rattle.std.proofs.lemmas.Nat.{or_lt, and_le_l}
use Rattle.std.proofs.lemmas.Nat.Bits.{bit_at_or, bit_at_and, bit_at-lt, bit_at-zero}
use Rattle.rv_decode.specs.Four.{bit_value, four, bit_of}
pub use Rattle.tag_policy.specs.Bits.{IsBits}

below_two : (P : ℕ → Type 0) → P 0 → P 1 → (n : ℕ) → n < 2 → P n
below_two P a b zero h = a
below_two P a b (suc zero) h = b
below_two P a b (suc (suc n)) h = absurd (omega arith)

pub below_four : (P : ℕ → Type 0) → P 0 → P 1 → P 2 → P 3 → (n : ℕ) → n < 4 → P n
below_four P a b c d zero h = a
below_four P a b c d (suc zero) h = b
below_four P a b c d (suc (suc zero)) h = c
below_four P a b c d (suc (suc (suc zero))) h = d
below_four P a b c d (suc (suc (suc (suc n)))) h = absurd (omega arith)

-- ---- one bit

bit_back : (b : Bool) → (bit_value b == 1) ≡ b
bit_back true = refl
bit_back false = refl

bit_value_lt : (b : Bool) → bit_value b < 2
bit_value_lt true = lit< tt
bit_value_lt false = lit< tt

value_of_bit : (n i : ℕ) → bit_value (bit_of n i) ≡ bit_at n i
value_of_bit n i = below_two (λ x. bit_value (x == 1) ≡ x) refl refl (bit_at n i) (bit_at-lt n i)

is_one_of_max : (x y : ℕ) → x < 2 → y < 2 → (max x y == 1) ≡ ((x == 1) || (y == 1))
is_one_of_max x y hx hy =
    below_two (λ a. (max a y == 1) ≡ ((a == 1) || (y == 1)))
    (below_two (λ b. (max 0 b == 1) ≡ ((0 == 1) || (b == 1))) refl refl y hy)
    (below_two (λ b. (max 1 b == 1) ≡ ((1 == 1) || (b == 1))) refl refl y hy) x hx

is_one_of_min : (x y : ℕ) → x < 2 → y < 2 → (min x y == 1) ≡ ((x == 1) && (y == 1))
is_one_of_min x y hx hy =
    below_two (λ a. (min a y == 1) ≡ ((a == 1) && (y == 1)))
    (below_two (λ b. (min 0 b == 1) ≡ ((0 == 1) && (b == 1))) refl refl y hy)
    (below_two (λ b. (min 1 b == 1) ≡ ((1 == 1) && (b == 1))) refl refl y hy) x hx

pub bit_of_or : (a b i : ℕ) → bit_of (bit_or a b) i ≡ (bit_of a i || bit_of b i)
bit_of_or a b i = ap (λ n. n == 1) (bit_at_or a b i) ∙ is_one_of_max (bit_at a i) (bit_at b i) (bit_at-lt a i) (bit_at-lt b i)

pub bit_of_and : (a b i : ℕ) → bit_of (bit_and a b) i ≡ (bit_of a i && bit_of b i)
bit_of_and a b i = ap (λ n. n == 1) (bit_at_and a b i) ∙ is_one_of_min (bit_at a i) (bit_at b i) (bit_at-lt a i) (bit_at-lt b i)

pub bit_of_zero : (i : ℕ) → bit_of 0 i ≡ false
bit_of_zero i = ap (λ n. n == 1) (bit_at-zero i)

-- ---- four bits

pub four_ext : (f g : ℕ → Bool) → ((i : ℕ) → i < 4 → f i ≡ g i) → four f ≡ four g
four_ext f g e = rw (e 0 (lit< tt), e 1 (lit< tt), e 2 (lit< tt), e 3 (lit< tt)) refl

pub four_below : (f : ℕ → Bool) → four f < 16
four_below f = omega (arith, bit_value_lt (f 0), bit_value_lt (f 1), bit_value_lt (f 2), bit_value_lt (f 3))

pub four_bits : (n : ℕ) → n < 16 → n ≡ four (bit_of n)
four_bits n h = rw (value_of_bit n 0, value_of_bit n 1, value_of_bit n 2, value_of_bit n 3) (omega arith)

pub bit_of_four : (f : ℕ → Bool) (i : ℕ) → i < 4 → bit_of (four f) i ≡ f i
bit_of_four f =
    let a = bit_value_lt (f 0) in let b = bit_value_lt (f 1) in let c = bit_value_lt (f 2) in let d = bit_value_lt (f 3) in
    below_four (λ i. bit_of (four f) i ≡ f i)
    (let e : four f / 1 % 2 ≡ bit_value (f 0) = omega arith in ap (λ n. n == 1) e ∙ bit_back (f 0))
    (let e : four f / 2 % 2 ≡ bit_value (f 1) = omega arith in ap (λ n. n == 1) e ∙ bit_back (f 1))
    (let e : four f / 4 % 2 ≡ bit_value (f 2) = omega arith in ap (λ n. n == 1) e ∙ bit_back (f 2))
    (let e : four f / 8 % 2 ≡ bit_value (f 3) = omega arith in ap (λ n. n == 1) e ∙ bit_back (f 3))

pub bits_are : (n : ℕ) (f : ℕ → Bool) → IsBits n f → n ≡ four f
bits_are n f is = four_bits n is.small ∙ four_ext (bit_of n) f is.same

pub bits_of : (n : ℕ) → n < 16 → IsBits n (bit_of n)
bits_of n h = record { small = h; same = λ i lt. refl }

pub bits_of_four : (f : ℕ → Bool) → IsBits (four f) f
bits_of_four f = record { small = four_below f; same = bit_of_four f }

pub bits_of_zero : IsBits 0 (λ i. false)
bits_of_zero = record { small = lit< tt; same = λ i lt. bit_of_zero i }

pub bits_or : {m n : ℕ} {f g : ℕ → Bool} → IsBits m f → IsBits n g → IsBits (bit_or m n) (λ i. f i || g i)
bits_or {m} {n} {f} {g} a b = record {
  small = or_lt 4 m n a.small b.small;
  same = λ i lt. bit_of_or m n i ∙ ap (λ x. x || bit_of n i) (a.same i lt) ∙ ap (λ y. f i || y) (b.same i lt);
}

pub bits_and : {m n : ℕ} {f g : ℕ → Bool} → IsBits m f → IsBits n g → IsBits (bit_and m n) (λ i. f i && g i)
bits_and {m} {n} {f} {g} a b = record {
  small = omega (arith, a.small, and_le_l m n);
  same = λ i lt. bit_of_and m n i ∙ ap (λ x. x && bit_of n i) (a.same i lt) ∙ ap (λ y. f i && y) (b.same i lt);
}
