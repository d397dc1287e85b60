-- The call for the program break: one claim on its device, which sets the break where the heap has room for it (this project's own, after brk of Linux).
use Rattle.elf_image.specs.Layout.{break_base, heap_end}
use Rattle.rv_execute.specs.declared.op.Op.TheVariants.{Break as SetBreak}
use Rattle.rv_execute.specs.Harts.{HartState}
use Rattle.syscall_drain.specs.Programs.{Program}
use Rattle.syscall_drain.specs.Arguments.{first_argument}
use Rattle.syscall_drain.specs.declared.task.Task.{Task}
use Rattle.syscall_drain.specs.declared.task.Task.TheVariants.{Access}
use Rattle.syscall_drain.specs.declared.task.AccessReason.TheVariants.{Claim}
use Rattle.elf_image.specs.declared.device.TheConstants.{BREAK_WORD}

abbrev pub break_task : Program → HartState → Task
break_task program h = Access BREAK_WORD (SetBreak (first_argument h) (break_base program.layout) (heap_end program.layout)) Claim
