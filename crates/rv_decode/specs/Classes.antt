-- The class of each operation, by which its result depends on its operands: names of this project for the groups of RISC-V Unprivileged ISA, chapter "RV32I Base Integer Instruction Set", section "Integer Computational Instructions", and chapter "M Extension for Integer Multiplication and Division".
use Rattle.rv_decode.specs.declared.insn.ImmKind.{ImmKind}
use Rattle.rv_decode.specs.declared.insn.ImmKind.TheVariants.{Addi, Slti, Sltiu, Xori, Ori, Andi, Slli, Srli, Srai}
use Rattle.rv_decode.specs.declared.insn.RegKind.{RegKind}
use Rattle.rv_decode.specs.declared.insn.RegKind.TheVariants.{Add, Sub, Sll, Slt, Sltu, Xor, Srl, Sra, Or, And, Mul, Mulh, Mulhsu, Mulhu, Div, Divu, Rem, Remu}
use Rattle.rv_decode.specs.declared.insn.Class.{Class}
use Rattle.rv_decode.specs.declared.insn.Class.TheVariants.{Arith, Logic, Shift, Compare, MulDiv}

abbrev pub class_of_imm : ImmKind → Class
class_of_imm Addi = Arith
class_of_imm Slti = Compare
class_of_imm Sltiu = Compare
class_of_imm Xori = Logic
class_of_imm Ori = Logic
class_of_imm Andi = Logic
class_of_imm Slli = Shift
class_of_imm Srli = Shift
class_of_imm Srai = Shift

abbrev pub class_of_reg : RegKind → Class
class_of_reg Add = Arith
class_of_reg Sub = Arith
class_of_reg Sll = Shift
class_of_reg Slt = Compare
class_of_reg Sltu = Compare
class_of_reg Xor = Logic
class_of_reg Srl = Shift
class_of_reg Sra = Shift
class_of_reg Or = Logic
class_of_reg And = Logic
class_of_reg Mul = MulDiv
class_of_reg Mulh = MulDiv
class_of_reg Mulhsu = MulDiv
class_of_reg Mulhu = MulDiv
class_of_reg Div = MulDiv
class_of_reg Divu = MulDiv
class_of_reg Rem = MulDiv
class_of_reg Remu = MulDiv
