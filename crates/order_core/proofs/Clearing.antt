-- A number of 32 bits with one of them cleared.
use Rattle.std.proofs.Common.{◌≡◌, ◌≢◌, ◌⊎◌, ℕ, ◌*◌, ◌^◌, ◌%◌, ◌<◌, ◌≤◌, w32, bit_and, sym, ap, ◌∙◌, inl, inr, arith}
use Rattle.std.specs.Int.{bit_at, bit_not}
use Rattle.std.proofs.lemmas.Nat.{and_le_l}
use Rattle.std.proofs.lemmas.Nat.Bits.{bit_at_clear_same, bit_at_clear_other, bit_at_above}

abbrev pub cleared : ℕ → ℕ → ℕ
cleared n k = bit_and n (bit_not w32 (1 * 2 ^ k % 4294967296))

pub cleared_same : (n k : ℕ) → k < 32 → bit_at (cleared n k) k ≡ 0
cleared_same n k h = bit_at_clear_same w32 n k h

pub cleared_le : (n k : ℕ) → cleared n k ≤ n
cleared_le n k = and_le_l n (bit_not w32 (1 * 2 ^ k % 4294967296))

pub cleared_other : (n k : ℕ) → n < 4294967296 → k < 32 → (i : ℕ) → i ≢ k → bit_at (cleared n k) i ≡ bit_at n i
cleared_other n k small h i apart = by (le_or_gt 32 i)
  where
    le_or_gt : (a b : ℕ) → (a ≤ b) ⊎ (b < a)
    le_or_gt a b = grind arith

    by : (32 ≤ i) ⊎ (i < 32) → bit_at (cleared n k) i ≡ bit_at n i
    by (inl past) = bit_at_above (cleared n k) 32 i (let le = cleared_le n k in omega arith) past ∙ sym (bit_at_above n 32 i small past)
    by (inr below) = bit_at_clear_other w32 n k h i below apart

pub cleared_less : (n k : ℕ) → k < 32 → bit_at n k ≡ 1 → cleared n k < n
cleared_less n k h one =
    let le = cleared_le n k in
    let zero = cleared_same n k h in
    let apart : cleared n k ≢ n = λ same. absurd (let both = ap (λ (m : ℕ). bit_at m k) same in omega (arith, zero, both, one)) in
    omega arith
