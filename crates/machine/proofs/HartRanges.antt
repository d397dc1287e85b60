-- The registers of a hart hold words after each instruction that fits, and what an instruction asks of memory are words.
use Rattle.std.proofs.Common.{◌≡◌, ℕ, zero, suc, ◌+◌, ◌-◌, ◌%◌, ◌^◌, ◌≤◌, Bool, true, false, ℤ, pos, negsuc, Option, Some, None, List, [], ◌∷◌, refl, arith, if◌then◌else◌}
use Rattle.std.specs.Prelude.{slice_index, slice_set, ◌==◌}
use Rattle.std.proofs.Math.Nat.{pow-le-pow_right}
use Rattle.std.proofs.lemmas.Int.{ints}
use Rattle.std.proofs.lemmas.Bool.Decides.{nat_tests}
use Rattle.rv_decode.specs.declared.insn.Insn.{Insn}
use Rattle.rv_decode.specs.declared.insn.Insn.TheVariants.{Lui, Auipc, Jal, Jalr, Branch, Load, Store, Imm, Reg, Fence, Ecall, Ebreak, Lr, Sc, Amo}
use Rattle.rv_decode.specs.declared.insn.StoreKind.{StoreKind}
use Rattle.rv_decode.specs.declared.insn.StoreKind.TheVariants.{Sb, Sh, Sw}
use Rattle.rv_decode.specs.Ranges.{Fits, IsTwelveBits, IsOperand}
use Rattle.rv_execute.specs.declared.op.Op.{Op}
use Rattle.rv_execute.specs.declared.op.Taken.{Taken}
use Rattle.rv_execute.specs.declared.fault.Fault.{Fault}
use Rattle.rv_execute.specs.declared.fault.Fault.TheVariants.{LoadMisaligned, StoreMisaligned}
use Rattle.rv_execute.specs.declared.ask.Ask.{Ask}
use Rattle.rv_execute.specs.declared.ask.Ask.TheVariants.{Quiet, Touch, Ecall as Environment, Fault as Faulted}
use Rattle.rv_execute.specs.Words.{pattern, plus}
use Rattle.rv_execute.specs.Harts.{HartState, reg, written}
use Rattle.rv_execute.specs.Results.{register_form, is_taken}
use Rattle.rv_execute.specs.Payloads.{stored, store_size, load_size}
use Rattle.rv_execute.specs.Instructions.{address, ask_jump, ask_access, asked, found_by, has_stored, regs_after}
use Rattle.machine.proofs.ResultRanges.{IsWord, either, wrapped_word, result_word, loaded_word, IsOfWords}

-- ---- registers

abbrev pub AreWords : List ℕ → Type 0
AreWords values = (place : ℕ) → IsWord (slice_index values place)

pub set_words : (values : List ℕ) (at value : ℕ) → AreWords values → IsWord value → AreWords (slice_set values at value)
set_words [] at value all new place = all place
set_words (first ∷ values) zero value all new zero = new
set_words (first ∷ values) zero value all new (suc place) = all (suc place)
set_words (first ∷ values) (suc at) value all new zero = all zero
set_words (first ∷ values) (suc at) value all new (suc place) = set_words values at value (λ k. all (suc k)) new place

written_by : (b : Bool) (rd value : ℕ) (values : List ℕ) → AreWords values → IsWord value → AreWords (if b then values else slice_set values rd value)
written_by true rd value values all new = all
written_by false rd value values all new = set_words values rd value all new

written_words : (rd value : ℕ) (values : List ℕ) → AreWords values → IsWord value → AreWords (written rd value values)
written_words rd value values all new = written_by (rd == 0) rd value values all new

-- ---- immediates

twelve_bits : (z : ℤ) → IsTwelveBits z → IsWord (pattern z)
twelve_bits (pos n) within = omega (arith, ints, within.1)
twelve_bits (negsuc n) within = omega arith

operand : (shift : Option ℕ) (z : ℤ) → IsOperand shift z → IsWord (pattern z)
operand None z within = twelve_bits z within
operand (Some n) (pos m) within = omega (arith, ints, within.1)
operand (Some n) (negsuc m) within = omega arith

-- ---- after an instruction

pub registers_after : (h : HartState) (insn : Insn) (t : Option Taken) → Fits insn → AreWords h.regs → IsWord (found_by t) → AreWords (regs_after h insn t)
registers_after h (Lui rd imm) t fits all found = written_words rd imm h.regs all fits.1.1
registers_after h (Auipc rd imm) t fits all found = written_words rd (plus h.pc imm) h.regs all (wrapped_word (h.pc + imm))
registers_after h (Jal rd imm) t fits all found = written_words rd (plus h.pc 4) h.regs all (wrapped_word (h.pc + 4))
registers_after h (Jalr rd rs1 imm) t fits all found = written_words rd (plus h.pc 4) h.regs all (wrapped_word (h.pc + 4))
registers_after h (Branch kind rs1 rs2 imm) t fits all found = all
registers_after h (Load kind rd rs1 imm) t fits all found = written_words rd _ h.regs all (loaded_word kind (address h rs1 imm % 4) (found_by t) found)
registers_after h (Store kind rs1 rs2 imm) t fits all found = all
registers_after h (Imm kind rd rs1 imm) t fits all found =
    written_words rd _ h.regs all (result_word (register_form kind) (reg h rs1) (pattern imm) (all rs1) (operand _ imm fits.2))
registers_after h (Reg kind rd rs1 rs2) t fits all found = written_words rd _ h.regs all (result_word kind (reg h rs1) (reg h rs2) (all rs1) (all rs2))
registers_after h Fence t fits all found = all
registers_after h Ecall t fits all found = all
registers_after h Ebreak t fits all found = all
registers_after h (Lr rd rs1) t fits all found = written_words rd (found_by t) h.regs all found
registers_after h (Sc rd rs1 rs2) t fits all found = written_words rd _ h.regs all (either (has_stored h rs1 t) 0 1 (omega arith) (omega arith))
registers_after h (Amo kind rd rs1 rs2) t fits all found = written_words rd (found_by t) h.regs all found

-- ---- what an instruction asks

abbrev pub AsksWords : Ask → Type 0
AsksWords Quiet = Unit {0}
AsksWords (Touch addr op) = IsWord addr × IsOfWords op
AsksWords Environment = Unit {0}
AsksWords (Faulted fault) = Unit {0}

jump_by : (b : Bool) (fault : Fault) → AsksWords (if b then Quiet else Faulted fault)
jump_by true fault = tt
jump_by false fault = tt

branch_by : (b : Bool) (ask : Ask) → AsksWords ask → AsksWords (if b then ask else Quiet)
branch_by true ask words = words
branch_by false ask words = tt

access_by : (b : Bool) (addr : ℕ) (op : Op) (fault : Fault) → (b ≡ true → IsWord addr × IsOfWords op) → AsksWords (if b then Touch addr op else Faulted fault)
access_by true addr op fault words = words refl
access_by false addr op fault words = tt

access_words : (size addr : ℕ) (fault : Fault) (op : Op) → IsWord addr → (addr % size ≡ 0 → IsOfWords op) → AsksWords (ask_access size addr fault op)
access_words size addr fault op low words =
    access_by (addr % size == 0) (addr - addr % 4) op fault (λ e. (omega arith, words (grind (arith, nat_tests))))

power_most : (k most : ℕ) → k ≤ most → 256 ^ k ≤ 256 ^ most
power_most k most h = pow-le-pow_right (omega arith) h

stored_words : (kind : StoreKind) (addr value : ℕ) → addr % store_size kind ≡ 0 → IsOfWords (stored kind (addr % 4) value)
stored_words Sb addr value aligned = let most : 256 ^ (addr % 4) ≤ 256 ^ 3 = power_most (addr % 4) 3 (omega arith) in omega arith
stored_words Sh addr value aligned = let most : 256 ^ (addr % 4) ≤ 256 ^ 2 = power_most (addr % 4) 2 (omega arith) in omega arith
stored_words Sw addr value aligned = omega arith

pub asked_words : (h : HartState) (insn : Insn) → AreWords h.regs → AsksWords (asked h insn)
unfolding asked
asked_words h (Lui rd imm) all = tt
asked_words h (Auipc rd imm) all = tt
asked_words h (Jal rd imm) all = jump_by _ _
asked_words h (Jalr rd rs1 imm) all = jump_by _ _
asked_words h (Branch kind rs1 rs2 imm) all = branch_by (is_taken kind (reg h rs1) (reg h rs2)) (ask_jump _) (jump_by _ _)
asked_words h (Load kind rd rs1 imm) all = access_words (load_size kind) (address h rs1 imm) LoadMisaligned _ (wrapped_word _) (λ _. tt)
asked_words h (Store kind rs1 rs2 imm) all =
    access_words (store_size kind) (address h rs1 imm) StoreMisaligned _ (wrapped_word _) (stored_words kind (address h rs1 imm) (reg h rs2))
asked_words h (Imm kind rd rs1 imm) all = tt
asked_words h (Reg kind rd rs1 rs2) all = tt
asked_words h Fence all = tt
asked_words h Ecall all = tt
asked_words h Ebreak all = tt
asked_words h (Lr rd rs1) all = access_words 4 (reg h rs1) LoadMisaligned _ (all rs1) (λ _. tt)
asked_words h (Sc rd rs1 rs2) all = access_words 4 (reg h rs1) StoreMisaligned _ (all rs1) (λ _. all rs2)
asked_words h (Amo kind rd rs1 rs2) all = access_words 4 (reg h rs1) StoreMisaligned _ (all rs1) (λ _. all rs2)
