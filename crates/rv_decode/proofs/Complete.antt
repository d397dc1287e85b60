-- A word that means an instruction is decoded to it.
use Rattle.std.proofs.Common.{◌≡◌, ℕ, ℤ, Option, Some, None, IsTrue, refl, sym, subst, eq-eqb, eqb-true}
use Rattle.rv_decode.specs.declared.insn.Insn.{Insn}
use Rattle.rv_decode.specs.declared.insn.Insn.TheVariants.{Lui, Auipc, Jal, Jalr, Branch, Load, Store, Imm, Reg, Fence, Ecall, Ebreak, Lr, Sc, Amo}
use Rattle.rv_decode.specs.declared.insn.BranchKind.{BranchKind}
use Rattle.rv_decode.specs.declared.insn.BranchKind.TheVariants.{Beq}
use Rattle.rv_decode.specs.declared.insn.LoadKind.{LoadKind}
use Rattle.rv_decode.specs.declared.insn.LoadKind.TheVariants.{Lb}
use Rattle.rv_decode.specs.declared.insn.StoreKind.{StoreKind}
use Rattle.rv_decode.specs.declared.insn.StoreKind.TheVariants.{Sb}
use Rattle.rv_decode.specs.declared.insn.ImmKind.{ImmKind}
use Rattle.rv_decode.specs.declared.insn.ImmKind.TheVariants.{Addi}
use Rattle.rv_decode.specs.declared.insn.RegKind.{RegKind}
use Rattle.rv_decode.specs.declared.insn.RegKind.TheVariants.{Add}
use Rattle.rv_decode.specs.declared.insn.AmoKind.{AmoKind}
use Rattle.rv_decode.specs.declared.insn.AmoKind.TheVariants.{Add as AmoAdd}
use Rattle.rv_decode.specs.Fields.{funct7}
use Rattle.rv_decode.specs.Kinds.{branch_funct3, load_funct3, store_funct3, imm_functs, reg_functs}
use Rattle.rv_decode.specs.Rows.{Means, HasOperand}
use Rattle.rv_decode.specs.Decoded.{decoded, decoded_imm, decoded_word_atomic, branch_kind, load_kind, store_kind, allows, imm_kind, reg_kind, operand_of}

-- ---- each operation is found by its own functs

branch_kind_funct3 : (kind : BranchKind) → branch_kind (branch_funct3 kind) ≡ Some kind
branch_kind_funct3 Beq = refl
branch_kind_funct3 _ = refl

load_kind_funct3 : (kind : LoadKind) → load_kind (load_funct3 kind) ≡ Some kind
load_kind_funct3 Lb = refl
load_kind_funct3 _ = refl

store_kind_funct3 : (kind : StoreKind) → store_kind (store_funct3 kind) ≡ Some kind
store_kind_funct3 Sb = refl
store_kind_funct3 _ = refl

-- the funct7 of an operation, or any where it has none
abbrev own : Option ℕ → ℕ → ℕ
own None f7 = f7
own (Some n) f7 = n

own_allowed : (o : Option ℕ) (f7 : ℕ) → IsTrue (allows o f7) → own o f7 ≡ f7
own_allowed None f7 h = refl
own_allowed (Some n) f7 h = sym (eqb-true f7 n h)

imm_kind_own : (kind : ImmKind) (f7 : ℕ) → imm_kind (own (imm_functs kind).funct7 f7) (imm_functs kind).funct3 ≡ Some kind
imm_kind_own Addi f7 = refl
imm_kind_own _ f7 = refl

imm_kind_functs : (kind : ImmKind) (f7 : ℕ) → IsTrue (allows (imm_functs kind).funct7 f7) → imm_kind f7 (imm_functs kind).funct3 ≡ Some kind
imm_kind_functs kind f7 h =
    let P : ℕ → Type 0 = λ g. imm_kind g (imm_functs kind).funct3 ≡ Some kind in
    subst P (own_allowed (imm_functs kind).funct7 f7 h) (imm_kind_own kind f7)

reg_kind_functs : (kind : RegKind) → reg_kind (reg_functs kind).funct7 (reg_functs kind).funct3 ≡ Some kind
reg_kind_functs Add = refl
reg_kind_functs _ = refl

-- ---- a word that means an instruction is decoded to it

operand_of_HasOperand : (w : ℕ) (o : Option ℕ) (imm : ℤ) → HasOperand w o imm → IsTrue (allows o (funct7 w)) × (operand_of w o ≡ imm)
operand_of_HasOperand w None imm m = (refl, m)
operand_of_HasOperand w (Some n) imm m = (eq-eqb _ _ m.0, m.1)

complete_imm : (w : ℕ) (kind : ImmKind) (rd rs1 : ℕ) (imm : ℤ) → Means w (Imm kind rd rs1 imm) → decoded_imm w ≡ Some (Imm kind rd rs1 imm)
complete_imm w kind rd rs1 imm m =
    let h : IsTrue (allows (imm_functs kind).funct7 (funct7 w)) × (operand_of w (imm_functs kind).funct7 ≡ imm) = operand_of_HasOperand w (imm_functs kind).funct7 imm m.4 in
    rw (m.1, imm_kind_functs kind (funct7 w) h.0, m.2, m.3, h.1) refl

complete_amo : (w : ℕ) (kind : AmoKind) (rd rs1 rs2 : ℕ) → Means w (Amo kind rd rs1 rs2) → decoded_word_atomic w ≡ Some (Amo kind rd rs1 rs2)
complete_amo w AmoAdd rd rs1 rs2 m = rw (m.2, m.3, m.4, m.5) refl
complete_amo w _ rd rs1 rs2 m = rw (m.2, m.3, m.4, m.5) refl

pub complete : (w : ℕ) (i : Insn) → Means w i → decoded w ≡ Some i
complete w (Lui rd imm) m = rw (m.0, m.1, m.2) refl
complete w (Auipc rd imm) m = rw (m.0, m.1, m.2) refl
complete w (Jal rd imm) m = rw (m.0, m.1, m.2) refl
complete w (Jalr rd rs1 imm) m = rw (m.0, m.1, m.2, m.3, m.4) refl
complete w (Branch kind rs1 rs2 imm) m = rw (m.0, m.1, branch_kind_funct3 kind, m.2, m.3, m.4) refl
complete w (Load kind rd rs1 imm) m = rw (m.0, m.1, load_kind_funct3 kind, m.2, m.3, m.4) refl
complete w (Store kind rs1 rs2 imm) m = rw (m.0, m.1, store_kind_funct3 kind, m.2, m.3, m.4) refl
complete w (Imm kind rd rs1 imm) m = rw m.0 (complete_imm w kind rd rs1 imm m)
complete w (Reg kind rd rs1 rs2) m = rw (m.0, m.1, m.2, reg_kind_functs kind, m.3, m.4, m.5) refl
complete w Fence m = rw (m.0, m.1) refl
complete w Ecall m = rw m refl
complete w Ebreak m = rw m refl
complete w (Lr rd rs1) m = rw (m.0, m.1, m.2, m.3, m.4, m.5) refl
complete w (Sc rd rs1 rs2) m = rw (m.0, m.1, m.2, m.3, m.4, m.5) refl
complete w (Amo kind rd rs1 rs2) m = rw (m.0, m.1) (complete_amo w kind rd rs1 rs2 m)
