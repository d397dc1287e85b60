-- The record of a unit: what its tag actor is told of it (this project's own).
use Rattle.std.specs.Prelude.{ℕ, Bool, true, false, ◌==◌, if◌then◌else◌}
use Rattle.rv_execute.specs.declared.op.Op.{Op}
use Rattle.rv_execute.specs.declared.op.Op.TheVariants.{Sc as AsksSc}
use Rattle.rv_execute.specs.declared.op.Taken.{Taken}
use Rattle.rv_execute.specs.Touched.{bytes_touched}
use Rattle.record_lane.specs.declared.record.Why.{Why}
use Rattle.record_lane.specs.declared.record.Why.TheVariants.{Insn as ByInsn, Fill as ByFill, Gather as ByGather, Claim as ByClaim, Spent as BySpent}
use Rattle.record_lane.specs.declared.record.Record.{Record}
use Rattle.record_lane.specs.declared.record.Record.TheVariants.{Quiet as QuietRecord, Blank as BlankRecord, Touch, Meet, Back, End as EndRecord}
use Rattle.syscall_drain.specs.Programs.{Program}
use Rattle.syscall_drain.specs.Locals.{Local}
use Rattle.syscall_drain.specs.Tasks.{task_of}
use Rattle.syscall_drain.specs.Units.{meeting, taken_of}
use Rattle.syscall_drain.specs.declared.task.Task.{Task}
use Rattle.syscall_drain.specs.declared.task.Task.TheVariants.{Over, Quiet, Access, Meeting}
use Rattle.syscall_drain.specs.declared.task.QuietReason.{QuietReason}
use Rattle.syscall_drain.specs.declared.task.QuietReason.TheVariants.{Blank, Faulted, Plain, Return}
use Rattle.syscall_drain.specs.declared.task.AccessReason.{AccessReason}
use Rattle.syscall_drain.specs.declared.task.AccessReason.TheVariants.{Insn, Fill, Gather, Claim}
use Rattle.syscall_drain.specs.declared.ask.Answer.{Answer}

-- only a store-conditional can fail to store: where its number is not the asked one
abbrev pub stores : Op → ℕ → Bool
stores (AsksSc asked value) number = number == asked
stores _ number = true

abbrev pub quiet_record : Local → QuietReason → Record
quiet_record l (Blank fault) = BlankRecord l.units l.hart.pc
quiet_record l (Faulted fault insn) = QuietRecord l.units l.hart.pc insn true
quiet_record l (Plain insn) = QuietRecord l.units l.hart.pc insn false
quiet_record l (Return result) = Back l.units l.hart.pc

abbrev pub why_of : Local → Op → ℕ → AccessReason → Why
why_of l op number (Insn insn) = ByInsn insn (stores op number) (bytes_touched l.hart insn)
why_of l op number (Fill bytes) = ByFill bytes
why_of l op number (Gather bytes) = ByGather bytes
why_of l op number Claim = ByClaim

-- the record of a unit that was given this answer
abbrev pub task_record : Local → Task → Taken → Record
task_record l Over t = EndRecord
task_record l (Quiet reason) t = quiet_record l reason
task_record l (Access word op reason) t =
    Touch l.units l.hart.pc word t.number (if t.spent then BySpent else why_of l op t.number reason)
task_record l (Meeting kind) t = meeting l kind

unfoldable pub unit_record : Program → Local → Answer → Record
unit_record program l answer = task_record l (task_of program l) (taken_of answer)

-- a record of a unit without an access that is no meeting
abbrev pub IsStill : Record → Type 0
IsStill (QuietRecord step pc insn faulted) = Unit {0}
IsStill (BlankRecord step pc) = Unit {0}
IsStill (Touch step pc word number why) = ⊥
IsStill (Meet step pc call kind) = ⊥
IsStill (Back step pc) = Unit {0}
IsStill EndRecord = ⊥
