-- The arithmetic of 32-bit words: whole numbers below 2^32, read unsigned or as two's complement
-- (RISC-V Unprivileged ISA, "RV32I Base Integer Instruction Set").
use Rattle.std.specs.Prelude.{ℕ, ◌+◌, ◌-◌, ◌%◌, Bool, true, false, ℤ, int_lt}
use Rattle.std.specs.Int.{w32, cast_signed, cast_unsigned, int_shr}

-- a whole number modulo 2^32
abbrev pub wrapped : ℕ → ℕ
wrapped n = n % 4294967296

-- the signed reading: x below 2^31, and x - 2^32 from there on
abbrev pub signed : ℕ → ℤ
signed x = cast_signed w32 x

-- z modulo 2^32, as of a sign-extended immediate, for z from -2^31 up and below 2^32
abbrev pub pattern : ℤ → ℕ
pattern z = cast_unsigned w32 z

-- the sum and the difference modulo 2^32
abbrev pub plus : ℕ → ℕ → ℕ
plus a b = wrapped (a + b)

abbrev pub minus : ℕ → ℕ → ℕ
minus a b = wrapped (a + (4294967296 - b))

-- 1 where the test holds, else 0
abbrev pub flag : Bool → ℕ
flag true = 1
flag false = 0

-- the order by the signed readings
abbrev pub signed_lt : ℕ → ℕ → Bool
signed_lt a b = int_lt (signed a) (signed b)

-- the floor of z divided by 2^32, as a word: the upper half of a product of 64 bits
abbrev pub upper_half : ℤ → ℕ
upper_half z = pattern (int_shr z 32)
