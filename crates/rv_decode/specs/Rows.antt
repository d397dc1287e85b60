-- Which words mean which instruction, row by row: RISC-V Unprivileged ISA, chapter "RV32/64G Instruction Set Listings", tables of RV32I, RV32M and RV32A.
use Rattle.std.specs.Prelude.{◌≡◌, ℕ, ℤ, pos, Option, Some, None, Bool, true, false, IsTrue}
use Rattle.rv_decode.specs.declared.insn.Insn.{Insn}
use Rattle.rv_decode.specs.declared.insn.Insn.TheVariants.{Lui, Auipc, Jal, Jalr, Branch, Load, Store, Imm, Reg, Fence, Ecall, Ebreak, Lr, Sc, Amo}
use Rattle.rv_decode.specs.Fields.{opcode, rd_of, funct3, rs1_of, rs2_of, funct7, funct5, imm_i, imm_s, imm_b, imm_u, imm_j}
use Rattle.rv_decode.specs.declared.kinds.TheConstants.{LUI, AUIPC, JAL, JALR, BRANCH, LOAD, STORE, OP_IMM, OP, MISC_MEM, AMO, ECALL, EBREAK, WIDTH_W, LR, SC}
use Rattle.rv_decode.specs.Kinds.{branch_funct3, load_funct3, store_funct3, imm_functs, reg_functs, amo_funct5}
pub use Rattle.rv_decode.specs.Decoded.{decoded}
pub use Rattle.rv_decode.specs.Ranges.{Fits}
pub use Rattle.rv_decode.specs.Classes.{class_of_imm, class_of_reg}

-- the immediate of an operation: a shift, which has a funct7, has the count of bits in the place of rs2
abbrev pub HasOperand : ℕ → Option ℕ → ℤ → Type 0
HasOperand w None imm = imm_i w ≡ imm
HasOperand w (Some f) imm = (funct7 w ≡ f) × (pos (rs2_of w) ≡ imm)

-- the word means the instruction
abbrev pub Means : ℕ → Insn → Type 0
Means w (Lui rd imm) = (opcode w ≡ LUI) × (rd_of w ≡ rd) × (imm_u w ≡ imm)
Means w (Auipc rd imm) = (opcode w ≡ AUIPC) × (rd_of w ≡ rd) × (imm_u w ≡ imm)
Means w (Jal rd imm) = (opcode w ≡ JAL) × (rd_of w ≡ rd) × (imm_j w ≡ imm)
Means w (Jalr rd rs1 imm) = (opcode w ≡ JALR) × (funct3 w ≡ 0b000) × (rd_of w ≡ rd) × (rs1_of w ≡ rs1) × (imm_i w ≡ imm)
Means w (Branch kind rs1 rs2 imm) = (opcode w ≡ BRANCH) × (funct3 w ≡ branch_funct3 kind) × (rs1_of w ≡ rs1) × (rs2_of w ≡ rs2) × (imm_b w ≡ imm)
Means w (Load kind rd rs1 imm) = (opcode w ≡ LOAD) × (funct3 w ≡ load_funct3 kind) × (rd_of w ≡ rd) × (rs1_of w ≡ rs1) × (imm_i w ≡ imm)
Means w (Store kind rs1 rs2 imm) = (opcode w ≡ STORE) × (funct3 w ≡ store_funct3 kind) × (rs1_of w ≡ rs1) × (rs2_of w ≡ rs2) × (imm_s w ≡ imm)
Means w (Imm kind rd rs1 imm) = (opcode w ≡ OP_IMM) × (funct3 w ≡ (imm_functs kind).funct3) × (rd_of w ≡ rd) × (rs1_of w ≡ rs1) × HasOperand w (imm_functs kind).funct7 imm
Means w (Reg kind rd rs1 rs2) = (opcode w ≡ OP) × (funct3 w ≡ (reg_functs kind).funct3) × (funct7 w ≡ (reg_functs kind).funct7) × (rd_of w ≡ rd) × (rs1_of w ≡ rs1) × (rs2_of w ≡ rs2)
Means w Fence = (opcode w ≡ MISC_MEM) × (funct3 w ≡ 0b000)
Means w Ecall = w ≡ ECALL
Means w Ebreak = w ≡ EBREAK
Means w (Lr rd rs1) = (opcode w ≡ AMO) × (funct3 w ≡ WIDTH_W) × (funct5 w ≡ LR) × (rd_of w ≡ rd) × (rs1_of w ≡ rs1) × (rs2_of w ≡ 0)
Means w (Sc rd rs1 rs2) = (opcode w ≡ AMO) × (funct3 w ≡ WIDTH_W) × (funct5 w ≡ SC) × (rd_of w ≡ rd) × (rs1_of w ≡ rs1) × (rs2_of w ≡ rs2)
Means w (Amo kind rd rs1 rs2) = (opcode w ≡ AMO) × (funct3 w ≡ WIDTH_W) × (funct5 w ≡ amo_funct5 kind) × (rd_of w ≡ rd) × (rs1_of w ≡ rs1) × (rs2_of w ≡ rs2)

-- the two instructions that ask the environment
abbrev pub is_system : Insn → Bool
is_system Ecall = true
is_system Ebreak = true
is_system _ = false

abbrev pub IsSystem : Insn → Type 0
IsSystem i = IsTrue (is_system i)

-- the instructions that touch a word of memory
abbrev pub is_touching : Insn → Bool
is_touching (Load _ _ _ _) = true
is_touching (Store _ _ _ _) = true
is_touching (Lr _ _) = true
is_touching (Sc _ _ _) = true
is_touching (Amo _ _ _ _) = true
is_touching _ = false

abbrev pub IsTouching : Insn → Type 0
IsTouching i = IsTrue (is_touching i)
