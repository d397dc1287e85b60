use Rattle.std.proofs.Common.{sym}
use Rattle.elf_image.specs.Layout.{words_of}
use Rattle.rv_execute.specs.Harts.{state_of}
use Rattle.syscall_drain.proofs.Asking.{plain_sound, fault_sound}
use Rattle.syscall_drain.proofs.instruction.insn_task.Goals as goal

pub returns-in-Quiet-clause-sound : goal.returns-in-Quiet-clause-sound
returns-in-Quiet-clause-sound c =
    plain_sound (state_of c.args.hart.now) c.args.insn (sym c.in-Quiet.ensures) c.requires

pub returns-in-Fault-clause-sound : goal.returns-in-Fault-clause-sound
returns-in-Fault-clause-sound c =
    rw c.fault_task.ensures (fault_sound (words_of c.args.image.now) (state_of c.args.hart.now) c.args.insn c.in-Fault.fault (sym c.in-Fault.ensures) c.requires)
