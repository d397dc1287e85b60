use Rattle.rv_execute.specs.Harts.{state_of}
use Rattle.syscall_drain.proofs.Asking.{touch_unit, touch_sound}
use Rattle.syscall_drain.proofs.instruction.access_task.Goals as goal

pub returns-in-None-clause-sound : goal.returns-in-None-clause-sound
returns-in-None-clause-sound c =
    rw c.faulted.ensures (touch_unit (state_of c.args.hart.now) c.args.insn c.args.address c.args.op c.requires.asked c.requires.fits)

pub returns-then-only_loads-clause-sound : goal.returns-then-only_loads-clause-sound
returns-then-only_loads-clause-sound c =
    (c.in-Some.ensures.within, touch_sound (state_of c.args.hart.now) c.args.insn c.args.address c.args.op c.requires.asked c.requires.fits)

pub returns-then-writable-clause-sound : goal.returns-then-writable-clause-sound
returns-then-writable-clause-sound c =
    (c.in-Some.ensures.within, touch_sound (state_of c.args.hart.now) c.args.insn c.args.address c.args.op c.requires.asked c.requires.fits)

pub returns-else-writable-clause-sound : goal.returns-else-writable-clause-sound
returns-else-writable-clause-sound c =
    rw c.faulted-else-writable.ensures (touch_unit (state_of c.args.hart.now) c.args.insn c.args.address c.args.op c.requires.asked c.requires.fits)
