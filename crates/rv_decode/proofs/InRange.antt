-- What a word means is in range.
use Rattle.std.proofs.Common.{◌≡◌, ℕ, suc, Bool, true, false, ◌+◌, ◌-◌, ◌*◌, ◌%◌, ◌^◌, ◌<◌, ℤ, pos, negsuc, neg_ℤ, Option, Some, None, IfSome, nat_lt, if◌then◌else◌, ap, subst, arith}
use Rattle.std.proofs.lemmas.Bool.Decides.{nat_tests}
use Rattle.std.proofs.lemmas.Int.{ints}
use Rattle.rv_decode.specs.declared.insn.Insn.{Insn}
use Rattle.rv_decode.specs.declared.insn.Insn.TheVariants.{Lui, Auipc, Jal, Jalr, Branch, Load, Store, Imm, Reg, Fence, Ecall, Ebreak, Lr, Sc, Amo}
use Rattle.rv_decode.specs.Fields.{inst, sign_extended, imm_i, imm_s, imm_b, imm_u, imm_j}
use Rattle.rv_decode.specs.Kinds.{imm_functs}
use Rattle.rv_decode.specs.Rows.{Means, HasOperand}
use Rattle.rv_decode.specs.Decoded.{decoded}
use Rattle.rv_decode.specs.Ranges.{Fits, IsWithin, IsEven, IsTwelveBits, IsUpper, IsBranchOffset, IsJumpOffset, IsOperand}
use Rattle.rv_decode.proofs.Sound.{sound}

-- ---- numbers

twelve_bits : (n : ℕ) → n < 4096 → IsTwelveBits (sign_extended (2 ^ 11) n)
twelve_bits n h = (grind (arith, ints, nat_tests), grind (arith, ints, nat_tests))

even : (sign k : ℕ) → k < sign → IsEven (sign_extended sign (k * 2))
even sign k h =
    let P : Bool → Type 0 = (λ b. IsEven (if b then pos (k * 2) else negsuc (2 * sign - 1 - k * 2))) in
    let high : k * 2 % 2 ≡ 0 = omega arith in
    let low : suc (2 * sign - 1 - k * 2) % 2 ≡ 0 = omega arith in
    elim (nat_lt (k * 2) sign) as P [ true ↦ ap pos high | false ↦ ap (λ n. neg_ℤ (pos n)) low ]

branch_offset : (k n : ℕ) → k < 4096 → n ≡ k * 2 → IsBranchOffset (sign_extended (2 ^ 12) n)
branch_offset k n h e = rw e ((grind (arith, ints, nat_tests), grind (arith, ints, nat_tests)), even (2 ^ 12) k h)

jump_offset : (k n : ℕ) → k < 1048576 → n ≡ k * 2 → IsJumpOffset (sign_extended (2 ^ 20) n)
jump_offset k n h e = rw e ((grind (arith, ints, nat_tests), grind (arith, ints, nat_tests)), even (2 ^ 20) k h)

upper : (w : ℕ) → w < 2 ^ 32 → IsUpper (imm_u w)
upper w h = (grind arith, omega arith)

-- ---- the immediates of a word

imm_i_fits : (w : ℕ) → w < 2 ^ 32 → IsTwelveBits (imm_i w)
imm_i_fits w h = twelve_bits (inst w 31 20) (omega arith)

imm_s_fits : (w : ℕ) → w < 2 ^ 32 → IsTwelveBits (imm_s w)
imm_s_fits w h = twelve_bits (inst w 31 25 * 2 ^ 5 + inst w 11 7) (omega arith)

imm_b_fits : (w : ℕ) → w < 2 ^ 32 → IsBranchOffset (imm_b w)
imm_b_fits w h = branch_offset (inst w 31 31 * 2 ^ 11 + inst w 7 7 * 2 ^ 10 + inst w 30 25 * 2 ^ 4 + inst w 11 8) _ (omega arith) (omega arith)

imm_j_fits : (w : ℕ) → w < 2 ^ 32 → IsJumpOffset (imm_j w)
imm_j_fits w h = jump_offset (inst w 31 31 * 2 ^ 19 + inst w 19 12 * 2 ^ 11 + inst w 20 20 * 2 ^ 10 + inst w 30 21) _ (omega arith) (omega arith)

-- ---- the rows

operand : (w : ℕ) (o : Option ℕ) (imm : ℤ) → w < 2 ^ 32 → HasOperand w o imm → IsOperand o imm
operand w None imm h m = subst IsTwelveBits m (imm_i_fits w h)
operand w (Some n) imm h m = subst (IsWithin (pos 0) (pos 31)) m.1 (omega (arith, ints), omega (arith, ints))

pub in_range : (w : ℕ) (i : Insn) → w < 2 ^ 32 → Means w i → Fits i
in_range w (Lui rd imm) h m = (omega (arith, m.1), subst IsUpper m.2 (upper w h))
in_range w (Auipc rd imm) h m = (omega (arith, m.1), subst IsUpper m.2 (upper w h))
in_range w (Jal rd imm) h m = (omega (arith, m.1), subst IsJumpOffset m.2 (imm_j_fits w h))
in_range w (Jalr rd rs1 imm) h m = (omega (arith, m.2), omega (arith, m.3), subst IsTwelveBits m.4 (imm_i_fits w h))
in_range w (Branch kind rs1 rs2 imm) h m = (omega (arith, m.2), omega (arith, m.3), subst IsBranchOffset m.4 (imm_b_fits w h))
in_range w (Load kind rd rs1 imm) h m = (omega (arith, m.2), omega (arith, m.3), subst IsTwelveBits m.4 (imm_i_fits w h))
in_range w (Store kind rs1 rs2 imm) h m = (omega (arith, m.2), omega (arith, m.3), subst IsTwelveBits m.4 (imm_s_fits w h))
in_range w (Imm kind rd rs1 imm) h m = (omega (arith, m.2), omega (arith, m.3), operand w (imm_functs kind).funct7 imm h m.4)
in_range w (Reg kind rd rs1 rs2) h m = (omega (arith, m.3), omega (arith, m.4), omega (arith, m.5))
in_range w Fence h m = tt
in_range w Ecall h m = tt
in_range w Ebreak h m = tt
in_range w (Lr rd rs1) h m = (omega (arith, m.3), omega (arith, m.4))
in_range w (Sc rd rs1 rs2) h m = (omega (arith, m.3), omega (arith, m.4), omega (arith, m.5))
in_range w (Amo kind rd rs1 rs2) h m = (omega (arith, m.3), omega (arith, m.4), omega (arith, m.5))

decoded_by : (w : ℕ) (o : Option Insn) → w < 2 ^ 32 → IfSome o (Means w) → IfSome o Fits
decoded_by w None h m = tt
decoded_by w (Some i) h m = in_range w i h m

pub decoded_fits : (w : ℕ) → w < 2 ^ 32 → IfSome (decoded w) Fits
decoded_fits w h = decoded_by w (decoded w) h (sound w)
