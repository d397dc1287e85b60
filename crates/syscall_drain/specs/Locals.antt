-- A core but for its tags, and what it is before its first unit (this project's own; x2, x10 and x11 as in the RISC-V psABI, "Integer Register Convention").
use Rattle.std.specs.Prelude.{ℕ, Option, Some, None, List, []}
use Rattle.elf_image.specs.Layout.{Layout, first_registers, entry_of}
use Rattle.rv_execute.specs.Harts.{HartState}
use Rattle.syscall_drain.specs.Programs.{Program}
use Rattle.syscall_drain.specs.declared.end.End.{End}
use Rattle.syscall_drain.specs.declared.phase.Phase.{Phase}
use Rattle.syscall_drain.specs.declared.phase.Phase.TheVariants.{Running}

-- its hart, where it is in a call, the bytes that a write call gathered, the units that it spent, and its end
pub record Local : Type 0 where
  pub hart : HartState
  pub phase : Phase
  pub gathered : List ℕ
  pub units : ℕ
  pub ending : Option End

abbrev pub opening_hart : Layout → ℕ → HartState
opening_hart layout core = record { regs = first_registers layout core; pc = entry_of layout; kept = None }

unfoldable pub opening_local : Program → ℕ → Local
opening_local program core = record { hart = opening_hart program.layout core; phase = Running; gathered = []; units = 0; ending = None }

abbrev pub ended : End → Local → Local
ended end l = record l { ending = Some end }

abbrev pub in_phase : Phase → Local → Local
in_phase phase l = record l { phase = phase }
