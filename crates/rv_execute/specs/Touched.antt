-- The bytes of its word that an instruction's access touches, as four bits
-- (RISC-V Unprivileged ISA, "Load and Store Instructions": a byte, a half or a word, at the address; that a byte of a set is a bit of a number is this project's own).
use Rattle.std.specs.Prelude.{ℕ, ◌+◌, ◌%◌, ◌&&◌, nat_le, nat_lt}
use Rattle.rv_decode.specs.declared.insn.Insn.{Insn}
use Rattle.rv_decode.specs.declared.insn.Insn.TheVariants.{Load, Store}
use Rattle.rv_decode.specs.Four.{four}
use Rattle.rv_execute.specs.Harts.{HartState}
use Rattle.rv_execute.specs.Instructions.{address}
use Rattle.rv_execute.specs.Payloads.{load_size, store_size}

-- so many bytes from an offset on
abbrev pub bytes_from : ℕ → ℕ → ℕ
bytes_from offset size = four (λ j. nat_le offset j && nat_lt j (offset + size))

-- those of a load or a store; every other access is of the whole word
unfoldable pub bytes_touched : HartState → Insn → ℕ
bytes_touched h (Load kind rd rs1 imm) = bytes_from (address h rs1 imm % 4) (load_size kind)
bytes_touched h (Store kind rs1 rs2 imm) = bytes_from (address h rs1 imm % 4) (store_size kind)
bytes_touched h _ = 15
