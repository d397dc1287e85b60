-- All system calls: what the decision unit decides, and what each phase of a call has as its next unit and goes on to (numbers as on RISC-V Linux; the subset and its units are this project's own).
use Rattle.std.specs.Prelude.{ℕ, ◌%◌, ◌||◌, ◌==◌, List, [], if◌then◌else◌}
use Rattle.rv_execute.specs.declared.op.Op.{Op}
use Rattle.rv_execute.specs.declared.op.Taken.{Taken}
use Rattle.rv_execute.specs.Harts.{HartState}
use Rattle.rv_execute.specs.Payloads.{changed}
use Rattle.record_lane.specs.declared.call.TheConstants.{READ, WRITE, EXIT, EXIT_GROUP, BREAK}
use Rattle.syscall_drain.specs.Programs.{Program}
use Rattle.syscall_drain.specs.Locals.{Local, ended, in_phase}
use Rattle.syscall_drain.specs.Arguments.{first_argument, call_number}
use Rattle.syscall_drain.specs.ReadCall.{read_phase, read_next}
use Rattle.syscall_drain.specs.WriteCall.{write_phase, write_next, gathered_by}
use Rattle.syscall_drain.specs.declared.end.End.TheVariants.{Exit}
use Rattle.syscall_drain.specs.declared.phase.Phase.{Phase}
use Rattle.syscall_drain.specs.declared.phase.Phase.TheVariants.{Running, Reading, Writing, Breaking, Returning}
use Rattle.syscall_drain.specs.declared.decision.Decision.{Decision}
use Rattle.syscall_drain.specs.declared.decision.Decision.TheVariants.{Leave, Enter}
use Rattle.syscall_drain.specs.declared.decision.TheConstants.{NO_CALL}

-- the two exit calls end the core with the low byte of their argument; every other call goes to a phase
abbrev pub decision : Program → HartState → Decision
decision program h =
    if call_number h == READ then Enter (read_phase program h) else
    if call_number h == WRITE then Enter (write_phase program h) else
    if call_number h == BREAK then Enter Breaking else
    if (call_number h == EXIT) || (call_number h == EXIT_GROUP) then Leave (first_argument h % 256) else
    Enter (Returning NO_CALL)

-- a write call that is not decided at once begins to gather
abbrev pub gathered_at : Phase → List ℕ → List ℕ
gathered_at (Writing stage) gathered = []
gathered_at _ gathered = gathered

abbrev pub decided : Decision → Local → Local
decided (Leave status) l = ended (Exit status) l
decided (Enter phase) l = record l { phase = phase; gathered = gathered_at phase l.gathered }

-- a core in a phase of a call, after the phase's access found this
abbrev pub call_after : Program → Local → Op → Taken → Phase → Local
call_after program l op t Running = l
call_after program l op t (Reading stage) = in_phase (read_next program l.hart stage t.old) l
call_after program l op t (Writing stage) =
    record l { phase = write_next l.hart stage; gathered = gathered_by l.hart stage t.old l.gathered }
call_after program l op t Breaking = in_phase (Returning (changed op t.number t.old)) l
call_after program l op t (Returning result) = l
