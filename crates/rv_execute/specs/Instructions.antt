-- What an instruction asks of memory, and what it leaves in its hart
-- (RISC-V Unprivileged ISA, RV32I 2.1, M 2.0 and A 2.1: "Control Transfer Instructions", "Load and Store Instructions",
-- "Environment Call and Breakpoints", "Load-Reserved/Store-Conditional Instructions", "Atomic Memory Operations"; that each misaligned access is a fault, and that a reservation is a number, are this project's own).
use Rattle.std.specs.Prelude.{ℕ, ◌+◌, ◌-◌, ◌%◌, ℤ, Bool, Option, Some, None, List, if◌then◌else◌, ◌==◌}
use Rattle.rv_decode.specs.declared.insn.Insn.{Insn}
use Rattle.rv_decode.specs.declared.insn.Insn.TheVariants.{Lui, Auipc, Jal, Jalr, Branch, Load, Store, Imm, Reg, Fence, Ecall, Ebreak, Lr, Sc, Amo}
use Rattle.rv_execute.specs.declared.op.Op.{Op}
use Rattle.rv_execute.specs.declared.op.Op.TheVariants.{Read, Sc as BySc, Amo as ByAmo}
use Rattle.rv_execute.specs.declared.op.Taken.{Taken}
use Rattle.rv_execute.specs.declared.fault.Fault.{Fault}
use Rattle.rv_execute.specs.declared.fault.Fault.TheVariants.{FetchMisaligned, LoadMisaligned, StoreMisaligned, Break}
use Rattle.rv_execute.specs.declared.ask.Ask.{Ask}
use Rattle.rv_execute.specs.declared.ask.Ask.TheVariants.{Quiet, Touch, Ecall as Environment, Fault as Faulted}
use Rattle.rv_execute.specs.Words.{pattern, plus}
use Rattle.rv_execute.specs.Harts.{HartState, reg, written}
use Rattle.rv_execute.specs.Results.{result_of, register_form, is_taken}
use Rattle.rv_execute.specs.Payloads.{loaded, stored, load_size, store_size}

-- register plus sign-extended immediate
abbrev pub address : HartState → ℕ → ℤ → ℕ
address h rs1 imm = plus (reg h rs1) (pattern imm)

-- where a jump goes: JALR clears the lowest bit
abbrev pub jump_target : HartState → ℤ → ℕ
jump_target h imm = plus h.pc (pattern imm)

abbrev pub register_target : HartState → ℕ → ℤ → ℕ
register_target h rs1 imm = address h rs1 imm - address h rs1 imm % 2

-- the number with which a store-conditional to this address is asked: the one after that of the load-reserved, or one that no access has
abbrev pub asked_number : Option (ℕ × ℕ) → ℕ → ℕ
asked_number None addr = 4294967295
asked_number (Some kept) addr = if kept.0 == addr then kept.1 + 1 else 4294967295

-- an instruction that goes on at this address
abbrev pub ask_jump : ℕ → Ask
ask_jump target = if target % 4 == 0 then Quiet else Faulted FetchMisaligned

-- an access of so many bytes to the word at the address, or this fault
abbrev pub ask_access : ℕ → ℕ → Fault → Op → Ask
ask_access size addr fault op = if addr % size == 0 then Touch (addr - addr % 4) op else Faulted fault

-- what an instruction asks
unfoldable pub asked : HartState → Insn → Ask
asked h (Lui rd imm) = Quiet
asked h (Auipc rd imm) = Quiet
asked h (Jal rd imm) = ask_jump (jump_target h imm)
asked h (Jalr rd rs1 imm) = ask_jump (register_target h rs1 imm)
asked h (Branch kind rs1 rs2 imm) = if is_taken kind (reg h rs1) (reg h rs2) then ask_jump (jump_target h imm) else Quiet
asked h (Load kind rd rs1 imm) = ask_access (load_size kind) (address h rs1 imm) LoadMisaligned Read
asked h (Store kind rs1 rs2 imm) = ask_access (store_size kind) (address h rs1 imm) StoreMisaligned (stored kind (address h rs1 imm % 4) (reg h rs2))
asked h (Imm kind rd rs1 imm) = Quiet
asked h (Reg kind rd rs1 rs2) = Quiet
asked h Fence = Quiet
asked h Ecall = Environment
asked h Ebreak = Faulted Break
asked h (Lr rd rs1) = ask_access 4 (reg h rs1) LoadMisaligned Read
asked h (Sc rd rs1 rs2) = ask_access 4 (reg h rs1) StoreMisaligned (BySc (asked_number h.kept (reg h rs1)) (reg h rs2))
asked h (Amo kind rd rs1 rs2) = ask_access 4 (reg h rs1) StoreMisaligned (ByAmo kind (reg h rs2))

-- what was asked is answered by this: nothing by nothing, and an access by what it found
abbrev pub IsFinishedBy : Ask → Option Taken → Type 0
IsFinishedBy Quiet None = Unit {0}
IsFinishedBy Quiet (Some t) = ⊥
IsFinishedBy (Touch addr op) None = ⊥
IsFinishedBy (Touch addr op) (Some t) = Unit {0}
IsFinishedBy Environment t = ⊥
IsFinishedBy (Faulted fault) t = ⊥

-- the number and the word that an access found
abbrev pub number_of : Option Taken → ℕ
number_of None = 0
number_of (Some t) = t.number

abbrev pub found_by : Option Taken → ℕ
found_by None = 0
found_by (Some t) = t.old

-- whether a store-conditional stored
abbrev pub has_stored : HartState → ℕ → Option Taken → Bool
has_stored h rs1 t = number_of t == asked_number h.kept (reg h rs1)

-- the registers after an instruction that asked for nothing, or whose access found this
abbrev pub regs_after : HartState → Insn → Option Taken → List ℕ
regs_after h (Lui rd imm) t = written rd imm h.regs
regs_after h (Auipc rd imm) t = written rd (plus h.pc imm) h.regs
regs_after h (Jal rd imm) t = written rd (plus h.pc 4) h.regs
regs_after h (Jalr rd rs1 imm) t = written rd (plus h.pc 4) h.regs
regs_after h (Branch kind rs1 rs2 imm) t = h.regs
regs_after h (Load kind rd rs1 imm) t = written rd (loaded kind (address h rs1 imm % 4) (found_by t)) h.regs
regs_after h (Store kind rs1 rs2 imm) t = h.regs
regs_after h (Imm kind rd rs1 imm) t = written rd (result_of (register_form kind) (reg h rs1) (pattern imm)) h.regs
regs_after h (Reg kind rd rs1 rs2) t = written rd (result_of kind (reg h rs1) (reg h rs2)) h.regs
regs_after h Fence t = h.regs
regs_after h Ecall t = h.regs
regs_after h Ebreak t = h.regs
regs_after h (Lr rd rs1) t = written rd (found_by t) h.regs
regs_after h (Sc rd rs1 rs2) t = written rd (if has_stored h rs1 t then 0 else 1) h.regs
regs_after h (Amo kind rd rs1 rs2) t = written rd (found_by t) h.regs

-- the program counter after it
abbrev pub pc_after : HartState → Insn → ℕ
pc_after h (Jal rd imm) = jump_target h imm
pc_after h (Jalr rd rs1 imm) = register_target h rs1 imm
pc_after h (Branch kind rs1 rs2 imm) = if is_taken kind (reg h rs1) (reg h rs2) then jump_target h imm else plus h.pc 4
pc_after h _ = plus h.pc 4

-- the reservation after it: a load-reserved makes one, and each store-conditional ends it
abbrev pub kept_after : HartState → Insn → Option Taken → Option (ℕ × ℕ)
kept_after h (Lr rd rs1) t = Some (reg h rs1, number_of t)
kept_after h (Sc rd rs1 rs2) t = None
kept_after h _ t = h.kept

unfoldable pub resumed : HartState → Insn → Option Taken → HartState
resumed h insn t = record { regs = regs_after h insn t; pc = pc_after h insn; kept = kept_after h insn t }
