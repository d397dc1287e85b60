-- Hexadecimal with a stated count of digits, in lower case (this project's own).
use Rattle.std.specs.Prelude.{ℕ, zero, suc, ◌+◌, ◌-◌, ◌/◌, ◌%◌, ◌^◌, List, [], ◌∷◌, nat_lt, if◌then◌else◌}

-- a digit of base 16: `0` to `9` and `a` to `f`
abbrev pub hex_digit : ℕ → ℕ
hex_digit digit = if nat_lt digit 10 then 48 + digit else 97 + (digit - 10)

-- the last digits of a number in base 16, as many as are counted, the highest first
unfoldable pub hex : ℕ → ℕ → List ℕ
hex zero n = []
hex (suc count) n = hex_digit (n / 16 ^ count % 16) ∷ hex count n
