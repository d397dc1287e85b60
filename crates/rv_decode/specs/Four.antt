-- Four bits as a number below 16: of a tag, bit i is that of policy i; of the bytes that an access touches, bit i is that of byte i (this project's own).
use Rattle.std.specs.Prelude.{ℕ, ◌+◌, ◌*◌, ◌/◌, ◌%◌, ◌^◌, Bool, true, false, ◌==◌}

abbrev pub bit_value : Bool → ℕ
bit_value true = 1
bit_value false = 0

-- the number whose bit i is f i
abbrev pub four : (ℕ → Bool) → ℕ
four f = bit_value (f 0) + 2 * bit_value (f 1) + 4 * bit_value (f 2) + 8 * bit_value (f 3)

-- bit i of a number
abbrev pub bit_of : ℕ → ℕ → Bool
bit_of n i = n / 2 ^ i % 2 == 1
