-- One unit of a core: what it asks, what the core is after an answer, and the place in the output that it claims (this project's own).
use Rattle.std.specs.Prelude.{ℕ, ◌+◌, Bool, false, ◌&&◌, not, ◌==◌, Option, Some, None, slice_set, if◌then◌else◌}
use Rattle.elf_image.specs.declared.device.TheConstants.{OUTPUT_WORD}
use Rattle.rv_execute.specs.declared.op.Op.{Op}
use Rattle.rv_execute.specs.declared.op.Taken.{Taken}
use Rattle.rv_execute.specs.Words.{plus}
use Rattle.rv_execute.specs.Harts.{HartState}
use Rattle.rv_execute.specs.Instructions.{resumed}
use Rattle.record_lane.specs.declared.record.MeetKind.{MeetKind}
use Rattle.record_lane.specs.declared.record.MeetKind.TheVariants.{Call, Verdict}
use Rattle.record_lane.specs.declared.record.Record.{Record}
use Rattle.record_lane.specs.declared.record.Record.TheVariants.{Meet}
use Rattle.syscall_drain.specs.Programs.{Program}
use Rattle.syscall_drain.specs.Locals.{Local, ended, in_phase}
use Rattle.syscall_drain.specs.Arguments.{call_number}
use Rattle.syscall_drain.specs.Calls.{decision, decided, call_after}
use Rattle.syscall_drain.specs.Tasks.{task_of}
use Rattle.syscall_drain.specs.declared.end.End.{End}
use Rattle.syscall_drain.specs.declared.end.End.TheVariants.{Trapped, Fault as ByFault, Budget, Spent}
use Rattle.syscall_drain.specs.declared.phase.Phase.TheVariants.{Running, Writing}
use Rattle.syscall_drain.specs.declared.write_call.WriteStage.TheVariants.{Placing}
use Rattle.syscall_drain.specs.declared.task.Task.{Task}
use Rattle.syscall_drain.specs.declared.task.Task.TheVariants.{Over, Quiet, Access, Meeting}
use Rattle.syscall_drain.specs.declared.task.QuietReason.{QuietReason}
use Rattle.syscall_drain.specs.declared.task.QuietReason.TheVariants.{Blank, Faulted, Plain, Return}
use Rattle.syscall_drain.specs.declared.task.AccessReason.{AccessReason}
use Rattle.syscall_drain.specs.declared.task.AccessReason.TheVariants.{Insn as ByInsn, Fill, Gather, Claim}
use Rattle.syscall_drain.specs.declared.ask.CoreAsk.{CoreAsk}
use Rattle.syscall_drain.specs.declared.ask.CoreAsk.TheVariants.{Quiet as AsksNothing, Touch as Touches, Meet as Meets, Ended}
use Rattle.syscall_drain.specs.declared.ask.Answer.{Answer}
use Rattle.syscall_drain.specs.declared.ask.Answer.TheVariants.{Nothing, Taken as Took, Reply as Replied}

-- ---- what the next unit asks

abbrev pub meeting : Local → MeetKind → Record
meeting l kind = Meet l.units l.hart.pc (call_number l.hart) kind

abbrev pub task_ask : Local → Task → CoreAsk
task_ask l Over = Ended
task_ask l (Quiet reason) = AsksNothing
task_ask l (Access word op reason) = Touches word op
task_ask l (Meeting kind) = Meets (meeting l kind)

unfoldable pub next_ask : Program → Local → CoreAsk
next_ask program l = task_ask l (task_of program l)

-- the answer is of the kind that is asked for
abbrev pub FitsAsk : CoreAsk → Answer → Type 0
FitsAsk AsksNothing Nothing = Unit {0}
FitsAsk (Touches word op) (Took t) = Unit {0}
FitsAsk (Meets item) (Replied reply) = Unit {0}
FitsAsk _ _ = ⊥

-- ---- what an answer says

abbrev pub taken_of : Answer → Taken
taken_of Nothing = record { number = 0; old = 0; spent = false }
taken_of (Took t) = t
taken_of (Replied reply) = record { number = 0; old = 0; spent = false }

abbrev pub stop_of : Answer → Bool
stop_of Nothing = false
stop_of (Took t) = false
stop_of (Replied reply) = reply.stop

-- ---- the core after the unit

-- the return unit sets a0 and goes to the next instruction
abbrev pub returned : ℕ → HartState → HartState
returned result h = record h { regs = slice_set h.regs 10 result; pc = plus h.pc 4 }

abbrev pub after_quiet : Local → QuietReason → Local
after_quiet l (Blank fault) = ended (ByFault fault) l
after_quiet l (Faulted fault insn) = ended (ByFault fault) l
after_quiet l (Plain insn) = record l { hart = resumed l.hart insn None }
after_quiet l (Return result) = record l { hart = returned result l.hart; phase = Running }

-- an access that is not spent
abbrev pub after_access : Program → Local → Op → Taken → AccessReason → Local
after_access program l op t (ByInsn insn) = record l { hart = resumed l.hart insn (Some t) }
after_access program l op t (Fill bytes) = call_after program l op t l.phase
after_access program l op t (Gather bytes) = call_after program l op t l.phase
after_access program l op t Claim = call_after program l op t l.phase

-- a meeting after which the core goes on
abbrev pub after_meeting : Program → Local → MeetKind → Local
after_meeting program l Call = decided (decision program l.hart) l
after_meeting program l Verdict = in_phase (Writing Placing) l

-- a spent access ends its core, and a meeting one that has a trap
abbrev pub after_task : Program → Local → Task → Answer → Local
after_task program l Over answer = l
after_task program l (Quiet reason) answer = after_quiet l reason
after_task program l (Access word op reason) answer =
    if (taken_of answer).spent then ended Spent l else after_access program l op (taken_of answer) reason
after_task program l (Meeting kind) answer = if stop_of answer then ended Trapped l else after_meeting program l kind

-- a unit is spent, and the last of the budget ends a core that has not ended otherwise
abbrev pub budget_end : ℕ → ℕ → Option End → Option End
budget_end budget units (Some end) = Some end
budget_end budget units None = if units == budget then Some Budget else None

abbrev pub spent_unit : ℕ → Local → Local
spent_unit budget l = record l { units = l.units + 1; ending = budget_end budget (l.units + 1) l.ending }

-- the core after its next unit, with this answer
unfoldable pub answered : Program → ℕ → Local → Answer → Local
answered program budget l answer = spent_unit budget (after_task program l (task_of program l) answer)

-- ---- the output

-- an access to the word of the output claims the place that it found, unless it is spent
abbrev pub place_asked : CoreAsk → Taken → Option ℕ
place_asked (Touches word op) t = if (word == OUTPUT_WORD) && not t.spent then Some t.old else None
place_asked _ t = None

unfoldable pub placed : Program → Local → Answer → Option ℕ
placed program l answer = place_asked (next_ask program l) (taken_of answer)
