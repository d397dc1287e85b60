-- The results of the integer instructions
-- (RISC-V Unprivileged ISA, "Integer Computational Instructions", "Control Transfer Instructions", and "M Extension for Integer Multiplication and Division").
use Rattle.std.specs.Prelude.{ℕ, ◌*◌, ◌/◌, ◌%◌, ◌^◌, pos, ◌*ℤ◌, if◌then◌else◌, ◌==◌, nat_lt, not, Bool, bit_and, bit_or, bit_xor, int_div, int_rem}
use Rattle.std.specs.Int.{int_shr}
use Rattle.rv_decode.specs.declared.insn.RegKind.{RegKind}
use Rattle.rv_decode.specs.declared.insn.RegKind.TheVariants.{Add, Sll, Slt, Sltu, Xor, Srl, Or, And, Sub, Sra, Mul, Mulh, Mulhsu, Mulhu, Div, Divu, Rem, Remu}
use Rattle.rv_decode.specs.declared.insn.ImmKind.{ImmKind}
use Rattle.rv_decode.specs.declared.insn.ImmKind.TheVariants.{Addi, Slti, Sltiu, Xori, Ori, Andi, Slli, Srli, Srai}
use Rattle.rv_decode.specs.declared.insn.BranchKind.{BranchKind}
use Rattle.rv_decode.specs.declared.insn.BranchKind.TheVariants.{Beq, Bne, Blt, Bge, Bltu, Bgeu}
use Rattle.rv_execute.specs.Words.{wrapped, signed, pattern, plus, minus, flag, signed_lt, upper_half}

-- shifts use the low five bits of the second operand
abbrev pub shift_of : ℕ → ℕ
shift_of b = b % 32

-- division by zero gives all ones, and leaves the dividend; -2^31 by -1 gives -2^31, and leaves 0
abbrev pub quotient : ℕ → ℕ → ℕ
quotient a b = if b == 0 then 4294967295 else pattern (int_div (signed a) (signed b))

abbrev pub remainder : ℕ → ℕ → ℕ
remainder a b = if b == 0 then a else pattern (int_rem (signed a) (signed b))

abbrev pub unsigned_quotient : ℕ → ℕ → ℕ
unsigned_quotient a b = if b == 0 then 4294967295 else a / b

abbrev pub unsigned_remainder : ℕ → ℕ → ℕ
unsigned_remainder a b = if b == 0 then a else a % b

-- an operation on two registers
abbrev pub result_of : RegKind → ℕ → ℕ → ℕ
result_of Add a b = plus a b
result_of Sll a b = wrapped (a * 2 ^ shift_of b)
result_of Slt a b = flag (signed_lt a b)
result_of Sltu a b = flag (nat_lt a b)
result_of Xor a b = bit_xor a b
result_of Srl a b = a / 2 ^ shift_of b
result_of Or a b = bit_or a b
result_of And a b = bit_and a b
result_of Sub a b = minus a b
result_of Sra a b = pattern (int_shr (signed a) (shift_of b))
result_of Mul a b = wrapped (a * b)
result_of Mulh a b = upper_half (signed a *ℤ signed b)
result_of Mulhsu a b = upper_half (signed a *ℤ pos b)
result_of Mulhu a b = a * b / 4294967296
result_of Div a b = quotient a b
result_of Divu a b = unsigned_quotient a b
result_of Rem a b = remainder a b
result_of Remu a b = unsigned_remainder a b

-- an operation with an immediate is that on two registers, with the sign-extended immediate as the second
abbrev pub register_form : ImmKind → RegKind
register_form Addi = Add
register_form Slti = Slt
register_form Sltiu = Sltu
register_form Xori = Xor
register_form Ori = Or
register_form Andi = And
register_form Slli = Sll
register_form Srli = Srl
register_form Srai = Sra

-- whether a branch is taken
abbrev pub is_taken : BranchKind → ℕ → ℕ → Bool
is_taken Beq a b = a == b
is_taken Bne a b = not (a == b)
is_taken Blt a b = signed_lt a b
is_taken Bge a b = not (signed_lt a b)
is_taken Bltu a b = nat_lt a b
is_taken Bgeu a b = not (nat_lt a b)
