-- What is written where the rows leave bits free: RISC-V Unprivileged ISA, chapter "RV32I Base Integer Instruction Set", section "Memory Ordering Instructions" (FENCE with all predecessors and successors), and chapter "A Extension for Atomic Instructions" (aq and rl).
use Rattle.std.specs.Prelude.{◌≡◌, ℕ}
use Rattle.rv_decode.specs.declared.insn.Insn.{Insn}
use Rattle.rv_decode.specs.declared.insn.Insn.TheVariants.{Fence, Lr, Sc, Amo}
use Rattle.rv_decode.specs.Fields.{inst}

-- a fence is `fence iorw, iorw`, and an atomic instruction has neither aq nor rl
abbrev pub HasPlainBits : ℕ → Insn → Type 0
HasPlainBits w Fence = w ≡ 0x0ff0000f
HasPlainBits w (Lr _ _) = inst w 26 25 ≡ 0
HasPlainBits w (Sc _ _ _) = inst w 26 25 ≡ 0
HasPlainBits w (Amo _ _ _ _) = inst w 26 25 ≡ 0
HasPlainBits w _ = Unit {0}
