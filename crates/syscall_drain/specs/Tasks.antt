-- What the next unit of a core is, by its end, its phase and the instruction at its pc (the order of tests, and the units of calls, are this project's own).
use Rattle.std.specs.Prelude.{ℕ, Bool, true, false, Option, Some, None, if◌then◌else◌}
use Rattle.elf_image.specs.Layout.{Layout, word_of, is_writable, fetched}
use Rattle.rv_decode.specs.declared.insn.Insn.{Insn}
use Rattle.rv_decode.specs.declared.insn.Insn.TheVariants.{Load, Lr}
use Rattle.rv_decode.specs.Rows.{decoded}
use Rattle.rv_execute.specs.declared.op.Op.{Op}
use Rattle.rv_execute.specs.declared.fault.Fault.{Fault}
use Rattle.rv_execute.specs.declared.fault.Fault.TheVariants.{Illegal, FetchOutside, LoadOutside, StoreOutside, StoreReadOnly, Break}
use Rattle.rv_execute.specs.declared.ask.Ask.{Ask}
use Rattle.rv_execute.specs.declared.ask.Ask.TheVariants.{Quiet as AsksNothing, Touch, Ecall, Fault as AsksFault}
use Rattle.rv_execute.specs.Harts.{HartState}
use Rattle.rv_execute.specs.Instructions.{asked}
use Rattle.record_lane.specs.declared.record.MeetKind.TheVariants.{Call}
use Rattle.syscall_drain.specs.Programs.{Program}
use Rattle.syscall_drain.specs.Locals.{Local}
use Rattle.syscall_drain.specs.ReadCall.{read_task}
use Rattle.syscall_drain.specs.WriteCall.{write_task}
use Rattle.syscall_drain.specs.BreakCall.{break_task}
use Rattle.syscall_drain.specs.declared.end.End.{End}
use Rattle.syscall_drain.specs.declared.task.Task.{Task}
use Rattle.syscall_drain.specs.declared.task.Task.TheVariants.{Over, Quiet, Access, Meeting}
use Rattle.syscall_drain.specs.declared.task.QuietReason.TheVariants.{Blank, Faulted, Plain, Return}
use Rattle.syscall_drain.specs.declared.task.AccessReason.TheVariants.{Insn as ByInsn}
use Rattle.syscall_drain.specs.declared.phase.Phase.{Phase}
use Rattle.syscall_drain.specs.declared.phase.Phase.TheVariants.{Running, Reading, Writing, Breaking, Returning}

-- the fault of an access outside the mapped pages: LR counts as a load
abbrev pub outside_fault : Insn → Fault
outside_fault (Load kind rd rs1 imm) = LoadOutside
outside_fault (Lr rd rs1) = LoadOutside
outside_fault _ = StoreOutside

abbrev pub only_loads : Insn → Bool
only_loads (Load kind rd rs1 imm) = true
only_loads (Lr rd rs1) = true
only_loads _ = false

abbrev pub faulted : Fault → Insn → Task
faulted fault insn = Quiet (Faulted fault insn)

-- an access of an instruction: mapping, then permission
abbrev pub access_task : Layout → Insn → ℕ → Op → Option ℕ → Task
access_task layout insn addr op None = faulted (outside_fault insn) insn
access_task layout insn addr op (Some word) =
    if only_loads insn then Access word op (ByInsn insn) else
    if is_writable layout addr then Access word op (ByInsn insn) else
    faulted StoreReadOnly insn

-- EBREAK's fault comes before its instruction is used
abbrev pub fault_task : Insn → Fault → Task
fault_task insn Break = Quiet (Blank Break)
fault_task insn fault = faulted fault insn

abbrev pub asked_task : Layout → Insn → Ask → Task
asked_task layout insn AsksNothing = Quiet (Plain insn)
asked_task layout insn (Touch addr op) = access_task layout insn addr op (word_of layout addr)
asked_task layout insn Ecall = Meeting Call
asked_task layout insn (AsksFault fault) = fault_task insn fault

abbrev pub decoded_task : Layout → HartState → Option Insn → Task
decoded_task layout h None = Quiet (Blank Illegal)
decoded_task layout h (Some insn) = asked_task layout insn (asked h insn)

-- the instruction unit at a pc with this word
abbrev pub fetched_task : Layout → HartState → Option ℕ → Task
fetched_task layout h None = Quiet (Blank FetchOutside)
fetched_task layout h (Some word) = decoded_task layout h (decoded word)

-- the unit of a phase
abbrev pub phase_task : Program → HartState → Phase → Task
phase_task program h Running = fetched_task program.layout h (fetched program.layout h.pc)
phase_task program h (Reading stage) = read_task program h stage
phase_task program h (Writing stage) = write_task program h stage
phase_task program h Breaking = break_task program h
phase_task program h (Returning result) = Quiet (Return result)

abbrev pub ending_task : Program → HartState → Phase → Option End → Task
ending_task program h phase (Some end) = Over
ending_task program h phase None = phase_task program h phase

unfoldable pub task_of : Program → Local → Task
task_of program l = ending_task program l.hart l.phase l.ending
