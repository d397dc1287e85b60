-- The state of one hart: the registers x0 to x31, the program counter, and the reservation of the last load-reserved
-- (RISC-V Unprivileged ISA, "Programmers' Model for Base Integer ISA" and "Load-Reserved/Store-Conditional Instructions").
use Rattle.std.specs.Prelude.{ℕ, Option, List, slice_index, slice_set, if◌then◌else◌, ◌==◌}
use Rattle.rv_execute.specs.declared.hart.Hart.{Hart}

-- kept: the address of the reserved word, and the number of the access that reserved it
pub record HartState : Type 0 where
  pub regs : List ℕ
  pub pc : ℕ
  pub kept : Option (ℕ × ℕ)

abbrev pub state_of : Hart → HartState
state_of h = record { regs = h.regs; pc = h.pc; kept = h.kept }

-- the value of register r
abbrev pub reg : HartState → ℕ → ℕ
reg h r = slice_index h.regs r

-- the registers after a write: x0 stays as it is
abbrev pub written : ℕ → ℕ → List ℕ → List ℕ
written r v regs = if r == 0 then regs else slice_set regs r v
