-- The operations of each kind, and the funct3, funct7 or funct5 of each, by rows: RISC-V Unprivileged ISA, chapter "RV32/64G Instruction Set Listings", tables of RV32I, RV32M and RV32A.
use Rattle.std.specs.Prelude.{ℕ, Some, None, List, [], ◌∷◌}
use Rattle.rv_decode.specs.declared.insn.BranchKind.{BranchKind}
use Rattle.rv_decode.specs.declared.insn.BranchKind.TheVariants.{Beq, Bne, Blt, Bge, Bltu, Bgeu}
use Rattle.rv_decode.specs.declared.insn.LoadKind.{LoadKind}
use Rattle.rv_decode.specs.declared.insn.LoadKind.TheVariants.{Lb, Lh, Lw, Lbu, Lhu}
use Rattle.rv_decode.specs.declared.insn.StoreKind.{StoreKind}
use Rattle.rv_decode.specs.declared.insn.StoreKind.TheVariants.{Sb, Sh, Sw}
use Rattle.rv_decode.specs.declared.insn.ImmKind.{ImmKind}
use Rattle.rv_decode.specs.declared.insn.ImmKind.TheVariants.{Addi, Slti, Sltiu, Xori, Ori, Andi, Slli, Srli, Srai}
use Rattle.rv_decode.specs.declared.insn.RegKind.{RegKind}
use Rattle.rv_decode.specs.declared.insn.RegKind.TheVariants.{Add, Sub, Sll, Slt, Sltu, Xor, Srl, Sra, Or, And, Mul, Mulh, Mulhsu, Mulhu, Div, Divu, Rem, Remu}
use Rattle.rv_decode.specs.declared.insn.AmoKind.{AmoKind}
use Rattle.rv_decode.specs.declared.insn.AmoKind.TheVariants.{Add as AmoAdd, Swap as AmoSwap, Xor as AmoXor, Or as AmoOr, And as AmoAnd, Min as AmoMin, Max as AmoMax, Minu as AmoMinu, Maxu as AmoMaxu}
use Rattle.rv_decode.specs.declared.kinds.ImmFuncts.{ImmFuncts}
use Rattle.rv_decode.specs.declared.kinds.RegFuncts.{RegFuncts}

abbrev pub branch_kinds : List BranchKind
branch_kinds = Beq ∷ Bne ∷ Blt ∷ Bge ∷ Bltu ∷ Bgeu ∷ []

abbrev pub branch_funct3 : BranchKind → ℕ
branch_funct3 Beq = 0b000
branch_funct3 Bne = 0b001
branch_funct3 Blt = 0b100
branch_funct3 Bge = 0b101
branch_funct3 Bltu = 0b110
branch_funct3 Bgeu = 0b111

abbrev pub load_kinds : List LoadKind
load_kinds = Lb ∷ Lh ∷ Lw ∷ Lbu ∷ Lhu ∷ []

abbrev pub load_funct3 : LoadKind → ℕ
load_funct3 Lb = 0b000
load_funct3 Lh = 0b001
load_funct3 Lw = 0b010
load_funct3 Lbu = 0b100
load_funct3 Lhu = 0b101

abbrev pub store_kinds : List StoreKind
store_kinds = Sb ∷ Sh ∷ Sw ∷ []

abbrev pub store_funct3 : StoreKind → ℕ
store_funct3 Sb = 0b000
store_funct3 Sh = 0b001
store_funct3 Sw = 0b010

abbrev pub imm_kinds : List ImmKind
imm_kinds = Addi ∷ Slti ∷ Sltiu ∷ Xori ∷ Ori ∷ Andi ∷ Slli ∷ Srli ∷ Srai ∷ []

-- a shift has a funct7, where the others have bits of their immediate
abbrev pub imm_functs : ImmKind → ImmFuncts
imm_functs Addi = record { funct7 = None; funct3 = 0b000 }
imm_functs Slti = record { funct7 = None; funct3 = 0b010 }
imm_functs Sltiu = record { funct7 = None; funct3 = 0b011 }
imm_functs Xori = record { funct7 = None; funct3 = 0b100 }
imm_functs Ori = record { funct7 = None; funct3 = 0b110 }
imm_functs Andi = record { funct7 = None; funct3 = 0b111 }
imm_functs Slli = record { funct7 = Some 0b0000000; funct3 = 0b001 }
imm_functs Srli = record { funct7 = Some 0b0000000; funct3 = 0b101 }
imm_functs Srai = record { funct7 = Some 0b0100000; funct3 = 0b101 }

abbrev pub reg_kinds : List RegKind
reg_kinds = Add ∷ Sub ∷ Sll ∷ Slt ∷ Sltu ∷ Xor ∷ Srl ∷ Sra ∷ Or ∷ And ∷ Mul ∷ Mulh ∷ Mulhsu ∷ Mulhu ∷ Div ∷ Divu ∷ Rem ∷ Remu ∷ []

abbrev pub reg_functs : RegKind → RegFuncts
reg_functs Add = record { funct7 = 0b0000000; funct3 = 0b000 }
reg_functs Sub = record { funct7 = 0b0100000; funct3 = 0b000 }
reg_functs Sll = record { funct7 = 0b0000000; funct3 = 0b001 }
reg_functs Slt = record { funct7 = 0b0000000; funct3 = 0b010 }
reg_functs Sltu = record { funct7 = 0b0000000; funct3 = 0b011 }
reg_functs Xor = record { funct7 = 0b0000000; funct3 = 0b100 }
reg_functs Srl = record { funct7 = 0b0000000; funct3 = 0b101 }
reg_functs Sra = record { funct7 = 0b0100000; funct3 = 0b101 }
reg_functs Or = record { funct7 = 0b0000000; funct3 = 0b110 }
reg_functs And = record { funct7 = 0b0000000; funct3 = 0b111 }
reg_functs Mul = record { funct7 = 0b0000001; funct3 = 0b000 }
reg_functs Mulh = record { funct7 = 0b0000001; funct3 = 0b001 }
reg_functs Mulhsu = record { funct7 = 0b0000001; funct3 = 0b010 }
reg_functs Mulhu = record { funct7 = 0b0000001; funct3 = 0b011 }
reg_functs Div = record { funct7 = 0b0000001; funct3 = 0b100 }
reg_functs Divu = record { funct7 = 0b0000001; funct3 = 0b101 }
reg_functs Rem = record { funct7 = 0b0000001; funct3 = 0b110 }
reg_functs Remu = record { funct7 = 0b0000001; funct3 = 0b111 }

abbrev pub amo_kinds : List AmoKind
amo_kinds = AmoAdd ∷ AmoSwap ∷ AmoXor ∷ AmoOr ∷ AmoAnd ∷ AmoMin ∷ AmoMax ∷ AmoMinu ∷ AmoMaxu ∷ []

abbrev pub amo_funct5 : AmoKind → ℕ
amo_funct5 AmoAdd = 0b00000
amo_funct5 AmoSwap = 0b00001
amo_funct5 AmoXor = 0b00100
amo_funct5 AmoOr = 0b01000
amo_funct5 AmoAnd = 0b01100
amo_funct5 AmoMin = 0b10000
amo_funct5 AmoMax = 0b10100
amo_funct5 AmoMinu = 0b11000
amo_funct5 AmoMaxu = 0b11100
