-- Which number a text tells, in decimal without a sign or a leading zero (this project's own).
use Rattle.std.specs.Prelude.{◌≡◌, ◌==◌, ◌&&◌, not, Bool, ℕ, ◌≤◌, List, length, slice_index, nat_le, Option, Some, None, decimal}

-- n is in the range, and the text is its decimal
abbrev pub Tells : List ℕ → ℕ → ℕ → ℕ → Type 0
Tells text low high n = (text ≡ decimal n) × (low ≤ n) × (n ≤ high)

-- the number that the text tells, or none where it tells none
abbrev pub NumberIn : List ℕ → ℕ → ℕ → Option ℕ → Type 0
NumberIn text low high (Some n) = Tells text low high n
NumberIn text low high None = (n : ℕ) → Tells text low high n → ⊥

-- no plus sign (43) stands first, and no zero (48) before another byte
abbrev pub is_plain : List ℕ → Bool
is_plain text = not (slice_index text 0 == 43) && not ((slice_index text 0 == 48) && nat_le 2 (length text))
