-- A word is decoded only to an instruction that it means.
use Rattle.std.proofs.Common.{◌≡◌, inl, inr, ℕ, Bool, true, false, cond, IsTrue, List, [], ◌∷◌, Option, Some, None, IfSome, if◌then◌else◌, ◌==◌, refl, eqb-true}
use Rattle.std.proofs.lemmas.Bool.Decides.{eqb_tells, Decides-eqb, Decides-and}
use Rattle.std.specs.List.{find}
use Rattle.std.specs.Option.{option_map}
use Rattle.rv_decode.specs.declared.insn.Insn.{Insn}
use Rattle.rv_decode.specs.declared.insn.Insn.TheVariants.{Branch, Load, Store, Imm, Reg, Amo}
use Rattle.rv_decode.specs.declared.insn.BranchKind.{BranchKind}
use Rattle.rv_decode.specs.declared.insn.LoadKind.{LoadKind}
use Rattle.rv_decode.specs.declared.insn.StoreKind.{StoreKind}
use Rattle.rv_decode.specs.declared.insn.ImmKind.{ImmKind}
use Rattle.rv_decode.specs.declared.insn.RegKind.{RegKind}
use Rattle.rv_decode.specs.declared.insn.AmoKind.{AmoKind}
use Rattle.rv_decode.specs.Fields.{opcode, rd_of, funct3, rs1_of, rs2_of, funct7, funct5, imm_i, imm_s, imm_b}
use Rattle.rv_decode.specs.declared.kinds.TheConstants.{LUI, AUIPC, JAL, JALR, BRANCH, LOAD, STORE, OP_IMM, OP, MISC_MEM, AMO, SYSTEM, ECALL, EBREAK, WIDTH_W, LR, SC}
use Rattle.rv_decode.specs.Kinds.{branch_kinds, branch_funct3, load_kinds, load_funct3, store_kinds, store_funct3, imm_kinds, imm_functs, reg_kinds, reg_functs, amo_kinds, amo_funct5}
use Rattle.rv_decode.specs.Rows.{Means, HasOperand}
use Rattle.rv_decode.specs.Decoded.{decoded, decoded_jalr, decoded_branch, decoded_load, decoded_store, decoded_imm, decoded_reg, decoded_fence, decoded_atomic, decoded_system, branch_kind, load_kind, store_kind, allows, imm_kind, reg_kind, amo_kind, operand_of}

-- one test of a chain of tests
pub chain : {A : Type 0} (P : A → Type 0) (a n : ℕ) (x y : Option A) → (a ≡ n → IfSome x P) → IfSome y P → IfSome (if a == n then x else y) P
chain P a n x y h k = elim (eqb_tells a n) [ inl p ↦ rw p.0 (h p.1) | inr p ↦ rw p.0 k ]

-- an instruction made of a kind
mapped : {A B : Type 0} (P : B → Type 0) (g : A → B) (Q : A → Type 0) (o : Option A) → IfSome o Q → ((k : A) → Q k → P (g k)) → IfSome (option_map g o) P
mapped P g Q None h f = tt
mapped P g Q (Some k) h f = f k h

-- ---- the tables

first : {A : Type 0} (P : A → Type 0) (b : Bool) (a : A) (rest : Option A) → (b ≡ true → P a) → IfSome rest P → IfSome (cond b (Some a) rest) P
first P true a rest h k = h refl
first P false a rest h k = k

-- what the test tells of each operation holds of the one that is found
found : {A : Type 0} (test : A → Bool) (P : A → Type 0) → ((a : A) → test a ≡ true → P a) → (kinds : List A) → IfSome (find test kinds) P
found test P h [] = tt
found test P h (a ∷ kinds) = first P (test a) a (find test kinds) (h a) (found test P h kinds)

branch_kind_is : (f : ℕ) → IfSome (branch_kind f) (λ (k : BranchKind). f ≡ branch_funct3 k)
branch_kind_is f = found _ (λ k. f ≡ branch_funct3 k) (λ k. eqb-true f (branch_funct3 k)) branch_kinds

load_kind_is : (f : ℕ) → IfSome (load_kind f) (λ (k : LoadKind). f ≡ load_funct3 k)
load_kind_is f = found _ (λ k. f ≡ load_funct3 k) (λ k. eqb-true f (load_funct3 k)) load_kinds

store_kind_is : (f : ℕ) → IfSome (store_kind f) (λ (k : StoreKind). f ≡ store_funct3 k)
store_kind_is f = found _ (λ k. f ≡ store_funct3 k) (λ k. eqb-true f (store_funct3 k)) store_kinds

amo_kind_is : (f : ℕ) → IfSome (amo_kind f) (λ (k : AmoKind). f ≡ amo_funct5 k)
amo_kind_is f = found _ (λ k. f ≡ amo_funct5 k) (λ k. eqb-true f (amo_funct5 k)) amo_kinds

-- the operation has these functs
abbrev IsReg : ℕ → ℕ → RegKind → Type 0
IsReg f7 f3 kind = (f3 ≡ (reg_functs kind).funct3) × (f7 ≡ (reg_functs kind).funct7)

abbrev IsImm : ℕ → ℕ → ImmKind → Type 0
IsImm f7 f3 kind = (f3 ≡ (imm_functs kind).funct3) × IsTrue (allows (imm_functs kind).funct7 f7)

reg_kind_is : (f7 f3 : ℕ) → IfSome (reg_kind f7 f3) (IsReg f7 f3)
reg_kind_is f7 f3 = found _ (IsReg f7 f3) (λ k. (Decides-and _ _ (Decides-eqb f3 (reg_functs k).funct3) (Decides-eqb f7 (reg_functs k).funct7)).0) reg_kinds

imm_kind_is : (f7 f3 : ℕ) → IfSome (imm_kind f7 f3) (IsImm f7 f3)
imm_kind_is f7 f3 = found _ (IsImm f7 f3) (λ k. (Decides-and _ _ (Decides-eqb f3 (imm_functs k).funct3) (λ t. t, λ t. t)).0) imm_kinds

HasOperand_operand_of : (w : ℕ) (o : Option ℕ) → IsTrue (allows o (funct7 w)) → HasOperand w o (operand_of w o)
HasOperand_operand_of w None h = refl
HasOperand_operand_of w (Some n) h = (eqb-true _ _ h, refl)

-- ---- the rows

pub sound : (w : ℕ) → IfSome (decoded w) (Means w)
sound w =
    let P : Insn → Type 0 = Means w in
    let jalr : opcode w ≡ JALR → IfSome (decoded_jalr w) P = λ e. chain P (funct3 w) 0b000 _ _ (λ f. (e, f, refl, refl, refl)) tt in
    let branch : opcode w ≡ BRANCH → IfSome (decoded_branch w) P = λ e. mapped P (λ k. Branch k (rs1_of w) (rs2_of w) (imm_b w)) (λ k. funct3 w ≡ branch_funct3 k) (branch_kind (funct3 w)) (branch_kind_is (funct3 w)) (λ k h. (e, h, refl, refl, refl)) in
    let load : opcode w ≡ LOAD → IfSome (decoded_load w) P = λ e. mapped P (λ k. Load k (rd_of w) (rs1_of w) (imm_i w)) (λ k. funct3 w ≡ load_funct3 k) (load_kind (funct3 w)) (load_kind_is (funct3 w)) (λ k h. (e, h, refl, refl, refl)) in
    let store : opcode w ≡ STORE → IfSome (decoded_store w) P = λ e. mapped P (λ k. Store k (rs1_of w) (rs2_of w) (imm_s w)) (λ k. funct3 w ≡ store_funct3 k) (store_kind (funct3 w)) (store_kind_is (funct3 w)) (λ k h. (e, h, refl, refl, refl)) in
    let imm : opcode w ≡ OP_IMM → IfSome (decoded_imm w) P = λ e. mapped P (λ k. Imm k (rd_of w) (rs1_of w) (operand_of w (imm_functs k).funct7)) (IsImm (funct7 w) (funct3 w)) (imm_kind (funct7 w) (funct3 w)) (imm_kind_is (funct7 w) (funct3 w)) (λ k h. (e, h.0, refl, refl, HasOperand_operand_of w (imm_functs k).funct7 h.1)) in
    let reg : opcode w ≡ OP → IfSome (decoded_reg w) P = λ e. mapped P (λ k. Reg k (rd_of w) (rs1_of w) (rs2_of w)) (IsReg (funct7 w) (funct3 w)) (reg_kind (funct7 w) (funct3 w)) (reg_kind_is (funct7 w) (funct3 w)) (λ k h. (e, h.0, h.1, refl, refl, refl)) in
    let fence : opcode w ≡ MISC_MEM → IfSome (decoded_fence w) P = λ e. chain P (funct3 w) 0b000 _ _ (λ f. (e, f)) tt in
    let atomic : opcode w ≡ AMO → IfSome (decoded_atomic w) P = λ e. chain P (funct3 w) WIDTH_W _ _ (λ f. chain P (funct5 w) LR _ _ (λ g. chain P (rs2_of w) 0 _ _ (λ z. (e, f, g, refl, refl, z)) tt) (chain P (funct5 w) SC _ _ (λ g. (e, f, g, refl, refl, refl)) (mapped P (λ k. Amo k (rd_of w) (rs1_of w) (rs2_of w)) (λ k. funct5 w ≡ amo_funct5 k) (amo_kind (funct5 w)) (amo_kind_is (funct5 w)) (λ k h. (e, f, h, refl, refl, refl))))) tt in
    let system : opcode w ≡ SYSTEM → IfSome (decoded_system w) P = λ e. chain P w ECALL _ _ (λ f. f) (chain P w EBREAK _ _ (λ f. f) tt) in
    chain P (opcode w) LUI _ _ (λ e. (e, refl, refl)) (chain P (opcode w) AUIPC _ _ (λ e. (e, refl, refl)) (chain P (opcode w) JAL _ _ (λ e. (e, refl, refl)) (chain P (opcode w) JALR _ _ jalr (chain P (opcode w) BRANCH _ _ branch (chain P (opcode w) LOAD _ _ load (chain P (opcode w) STORE _ _ store (chain P (opcode w) OP_IMM _ _ imm (chain P (opcode w) OP _ _ reg (chain P (opcode w) MISC_MEM _ _ fence (chain P (opcode w) AMO _ _ atomic (chain P (opcode w) SYSTEM _ _ system tt)))))))))))
