-- The numbers that an instruction's fields can hold: RISC-V Unprivileged ISA, chapter "RV32I Base Integer Instruction Set", sections "Base Instruction Formats" and "Immediate Encoding Variants".
use Rattle.std.specs.Prelude.{◌≡◌, ℕ, ◌%◌, ◌^◌, ◌<◌, ℤ, pos, neg_ℤ, ◌≤ℤ◌, int_rem, Option, Some, None}
use Rattle.rv_decode.specs.declared.insn.Insn.{Insn}
use Rattle.rv_decode.specs.declared.insn.Insn.TheVariants.{Lui, Auipc, Jal, Jalr, Branch, Load, Store, Imm, Reg, Fence, Ecall, Ebreak, Lr, Sc, Amo}
use Rattle.rv_decode.specs.Kinds.{imm_functs}

abbrev pub IsRegister : ℕ → Type 0
IsRegister r = r < 32

abbrev pub IsWithin : ℤ → ℤ → ℤ → Type 0
IsWithin low high z = (low ≤ℤ z) × (z ≤ℤ high)

abbrev pub IsEven : ℤ → Type 0
IsEven z = int_rem z (pos 2) ≡ pos 0

-- the immediates of the I and S, U, B and J formats
abbrev pub IsTwelveBits : ℤ → Type 0
IsTwelveBits z = IsWithin (neg_ℤ (pos 2048)) (pos 2047) z

abbrev pub IsUpper : ℕ → Type 0
IsUpper n = (n % 4096 ≡ 0) × (n < 2 ^ 32)

abbrev pub IsBranchOffset : ℤ → Type 0
IsBranchOffset z = IsWithin (neg_ℤ (pos 4096)) (pos 4094) z × IsEven z

abbrev pub IsJumpOffset : ℤ → Type 0
IsJumpOffset z = IsWithin (neg_ℤ (pos 1048576)) (pos 1048574) z × IsEven z

-- the immediate of an operation, which is the count of bits of a shift
abbrev pub IsOperand : Option ℕ → ℤ → Type 0
IsOperand None z = IsTwelveBits z
IsOperand (Some _) z = IsWithin (pos 0) (pos 31) z

-- the instruction's registers and immediate are in range
abbrev pub Fits : Insn → Type 0
Fits (Lui rd imm) = IsRegister rd × IsUpper imm
Fits (Auipc rd imm) = IsRegister rd × IsUpper imm
Fits (Jal rd imm) = IsRegister rd × IsJumpOffset imm
Fits (Jalr rd rs1 imm) = IsRegister rd × IsRegister rs1 × IsTwelveBits imm
Fits (Branch _ rs1 rs2 imm) = IsRegister rs1 × IsRegister rs2 × IsBranchOffset imm
Fits (Load _ rd rs1 imm) = IsRegister rd × IsRegister rs1 × IsTwelveBits imm
Fits (Store _ rs1 rs2 imm) = IsRegister rs1 × IsRegister rs2 × IsTwelveBits imm
Fits (Imm kind rd rs1 imm) = IsRegister rd × IsRegister rs1 × IsOperand (imm_functs kind).funct7 imm
Fits (Reg _ rd rs1 rs2) = IsRegister rd × IsRegister rs1 × IsRegister rs2
Fits Fence = Unit {0}
Fits Ecall = Unit {0}
Fits Ebreak = Unit {0}
Fits (Lr rd rs1) = IsRegister rd × IsRegister rs1
Fits (Sc rd rs1 rs2) = IsRegister rd × IsRegister rs1 × IsRegister rs2
Fits (Amo _ rd rs1 rs2) = IsRegister rd × IsRegister rs1 × IsRegister rs2
