-- The fields of a 32-bit instruction word and its five immediates: RISC-V Unprivileged ISA, chapter "RV32I Base Integer Instruction Set", sections "Base Instruction Formats" and "Immediate Encoding Variants".
use Rattle.std.specs.Prelude.{ℕ, ◌+◌, ◌-◌, ◌*◌, ◌/◌, ◌%◌, ◌^◌, nat_lt, if◌then◌else◌, ℤ, pos, negsuc}

-- inst[high:low], the number whose bits are the bits high to low of w
abbrev pub inst : ℕ → ℕ → ℕ → ℕ
inst w high low = w / 2 ^ low % 2 ^ (high + 1 - low)

abbrev pub opcode : ℕ → ℕ
opcode w = inst w 6 0

abbrev pub rd_of : ℕ → ℕ
rd_of w = inst w 11 7

abbrev pub funct3 : ℕ → ℕ
funct3 w = inst w 14 12

abbrev pub rs1_of : ℕ → ℕ
rs1_of w = inst w 19 15

abbrev pub rs2_of : ℕ → ℕ
rs2_of w = inst w 24 20

abbrev pub funct7 : ℕ → ℕ
funct7 w = inst w 31 25

abbrev pub funct5 : ℕ → ℕ
funct5 w = inst w 31 27

-- the signed number of a field whose sign bit weighs `sign` (two's complement)
abbrev pub sign_extended : ℕ → ℕ → ℤ
sign_extended sign n = if nat_lt n sign then pos n else negsuc (2 * sign - 1 - n)

-- the immediates of the I, S, B, U and J formats
abbrev pub imm_i : ℕ → ℤ
imm_i w = sign_extended (2 ^ 11) (inst w 31 20)

abbrev pub imm_s : ℕ → ℤ
imm_s w = sign_extended (2 ^ 11) (inst w 31 25 * 2 ^ 5 + inst w 11 7)

abbrev pub imm_b : ℕ → ℤ
imm_b w = sign_extended (2 ^ 12) (inst w 31 31 * 2 ^ 12 + inst w 7 7 * 2 ^ 11 + inst w 30 25 * 2 ^ 5 + inst w 11 8 * 2)

abbrev pub imm_u : ℕ → ℕ
imm_u w = inst w 31 12 * 2 ^ 12

abbrev pub imm_j : ℕ → ℤ
imm_j w = sign_extended (2 ^ 20) (inst w 31 31 * 2 ^ 20 + inst w 19 12 * 2 ^ 12 + inst w 20 20 * 2 ^ 11 + inst w 30 21 * 2)
