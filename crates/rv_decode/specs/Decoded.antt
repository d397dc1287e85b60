-- The instruction that a word means, computed: opcode first, then the operation whose row has the word's funct3, funct7 or funct5, as RISC-V Unprivileged ISA, chapter "RV32/64G Instruction Set Listings", has them.
use Rattle.std.specs.Prelude.{ℕ, ◌==◌, ◌&&◌, if◌then◌else◌, ℤ, pos, Bool, true, Option, Some, None}
use Rattle.std.specs.List.{find}
use Rattle.std.specs.Option.{option_map}
use Rattle.rv_decode.specs.declared.insn.Insn.{Insn}
use Rattle.rv_decode.specs.declared.insn.Insn.TheVariants.{Lui, Auipc, Jal, Jalr, Branch, Load, Store, Imm, Reg, Fence, Ecall, Ebreak, Lr, Sc, Amo}
use Rattle.rv_decode.specs.declared.insn.BranchKind.{BranchKind}
use Rattle.rv_decode.specs.declared.insn.LoadKind.{LoadKind}
use Rattle.rv_decode.specs.declared.insn.StoreKind.{StoreKind}
use Rattle.rv_decode.specs.declared.insn.ImmKind.{ImmKind}
use Rattle.rv_decode.specs.declared.insn.RegKind.{RegKind}
use Rattle.rv_decode.specs.declared.insn.AmoKind.{AmoKind}
use Rattle.rv_decode.specs.Fields.{opcode, rd_of, funct3, rs1_of, rs2_of, funct7, funct5, imm_i, imm_s, imm_b, imm_u, imm_j}
use Rattle.rv_decode.specs.declared.kinds.TheConstants.{LUI, AUIPC, JAL, JALR, BRANCH, LOAD, STORE, OP_IMM, OP, MISC_MEM, AMO, SYSTEM, ECALL, EBREAK, WIDTH_W, LR, SC}
use Rattle.rv_decode.specs.Kinds.{branch_kinds, branch_funct3, load_kinds, load_funct3, store_kinds, store_funct3, imm_kinds, imm_functs, reg_kinds, reg_functs, amo_kinds, amo_funct5}

-- ---- the operation of a kind whose row has these functs; no two rows of a kind have the same

abbrev pub branch_kind : ℕ → Option BranchKind
branch_kind f = find (λ kind. f == branch_funct3 kind) branch_kinds

abbrev pub load_kind : ℕ → Option LoadKind
load_kind f = find (λ kind. f == load_funct3 kind) load_kinds

abbrev pub store_kind : ℕ → Option StoreKind
store_kind f = find (λ kind. f == store_funct3 kind) store_kinds

-- whether an operation can have this funct7: its own, or any where it has none
abbrev pub allows : Option ℕ → ℕ → Bool
allows None f7 = true
allows (Some n) f7 = f7 == n

abbrev pub imm_kind : ℕ → ℕ → Option ImmKind
imm_kind f7 f3 = find (λ kind. f3 == (imm_functs kind).funct3 && allows (imm_functs kind).funct7 f7) imm_kinds

abbrev pub reg_kind : ℕ → ℕ → Option RegKind
reg_kind f7 f3 = find (λ kind. f3 == (reg_functs kind).funct3 && f7 == (reg_functs kind).funct7) reg_kinds

abbrev pub amo_kind : ℕ → Option AmoKind
amo_kind f = find (λ kind. f == amo_funct5 kind) amo_kinds

-- ---- by opcode

-- the immediate of an operation: a shift, which has a funct7, has the count of bits in the place of rs2
abbrev pub operand_of : ℕ → Option ℕ → ℤ
operand_of w None = imm_i w
operand_of w (Some _) = pos (rs2_of w)

abbrev pub decoded_jalr : ℕ → Option Insn
decoded_jalr w = if funct3 w == 0b000 then Some (Jalr (rd_of w) (rs1_of w) (imm_i w)) else None

abbrev pub decoded_branch : ℕ → Option Insn
decoded_branch w = option_map (λ kind. Branch kind (rs1_of w) (rs2_of w) (imm_b w)) (branch_kind (funct3 w))

abbrev pub decoded_load : ℕ → Option Insn
decoded_load w = option_map (λ kind. Load kind (rd_of w) (rs1_of w) (imm_i w)) (load_kind (funct3 w))

abbrev pub decoded_store : ℕ → Option Insn
decoded_store w = option_map (λ kind. Store kind (rs1_of w) (rs2_of w) (imm_s w)) (store_kind (funct3 w))

abbrev pub decoded_imm : ℕ → Option Insn
decoded_imm w = option_map (λ kind. Imm kind (rd_of w) (rs1_of w) (operand_of w (imm_functs kind).funct7)) (imm_kind (funct7 w) (funct3 w))

abbrev pub decoded_reg : ℕ → Option Insn
decoded_reg w = option_map (λ kind. Reg kind (rd_of w) (rs1_of w) (rs2_of w)) (reg_kind (funct7 w) (funct3 w))

abbrev pub decoded_fence : ℕ → Option Insn
decoded_fence w = if funct3 w == 0b000 then Some Fence else None

abbrev pub decoded_lr : ℕ → Option Insn
decoded_lr w = if rs2_of w == 0 then Some (Lr (rd_of w) (rs1_of w)) else None

abbrev pub decoded_amo : ℕ → Option Insn
decoded_amo w = option_map (λ kind. Amo kind (rd_of w) (rs1_of w) (rs2_of w)) (amo_kind (funct5 w))

abbrev pub decoded_word_atomic : ℕ → Option Insn
decoded_word_atomic w =
    if funct5 w == LR then decoded_lr w else
    if funct5 w == SC then Some (Sc (rd_of w) (rs1_of w) (rs2_of w)) else
    decoded_amo w

abbrev pub decoded_atomic : ℕ → Option Insn
decoded_atomic w = if funct3 w == WIDTH_W then decoded_word_atomic w else None

abbrev pub decoded_system : ℕ → Option Insn
decoded_system w =
    if w == ECALL then Some Ecall else
    if w == EBREAK then Some Ebreak else
    None

-- the instruction that the word means, if there is one
abbrev pub decoded : ℕ → Option Insn
decoded w =
    if opcode w == LUI then Some (Lui (rd_of w) (imm_u w)) else
    if opcode w == AUIPC then Some (Auipc (rd_of w) (imm_u w)) else
    if opcode w == JAL then Some (Jal (rd_of w) (imm_j w)) else
    if opcode w == JALR then decoded_jalr w else
    if opcode w == BRANCH then decoded_branch w else
    if opcode w == LOAD then decoded_load w else
    if opcode w == STORE then decoded_store w else
    if opcode w == OP_IMM then decoded_imm w else
    if opcode w == OP then decoded_reg w else
    if opcode w == MISC_MEM then decoded_fence w else
    if opcode w == AMO then decoded_atomic w else
    if opcode w == SYSTEM then decoded_system w else
    None
