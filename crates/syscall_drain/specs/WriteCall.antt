-- The call write: its decision, and its units, a read of each word that holds a byte of the buffer, the verdict on what was gathered, and a claim on the output
-- (results as on RISC-V Linux; the units are this project's own).
use Rattle.std.specs.Prelude.{ℕ, ◌+◌, ◌||◌, not, ◌==◌, nat_lt, List, ◌++◌, if◌then◌else◌}
use Rattle.rv_execute.specs.declared.op.Op.TheVariants.{Read, Place}
use Rattle.rv_execute.specs.Harts.{HartState}
use Rattle.record_lane.specs.declared.record.MeetKind.TheVariants.{Verdict}
use Rattle.syscall_drain.specs.Programs.{Program}
use Rattle.syscall_drain.specs.Arguments.{first_argument, buffer_start, byte_count, fails_at, is_mapped_at}
use Rattle.syscall_drain.specs.Buffers.{word_count, buffer_word, buffer_bytes, gather}
use Rattle.syscall_drain.specs.declared.phase.Phase.{Phase}
use Rattle.syscall_drain.specs.declared.phase.Phase.TheVariants.{Writing, Returning}
use Rattle.syscall_drain.specs.declared.write_call.WriteStage.{WriteStage}
use Rattle.syscall_drain.specs.declared.write_call.WriteStage.TheVariants.{Gathering, Judging, Placing}
use Rattle.syscall_drain.specs.declared.task.Task.{Task}
use Rattle.syscall_drain.specs.declared.task.Task.TheVariants.{Access, Meeting}
use Rattle.syscall_drain.specs.declared.task.AccessReason.TheVariants.{Gather, Claim}
use Rattle.syscall_drain.specs.declared.decision.TheConstants.{BAD_DESCRIPTOR, BAD_ADDRESS}
use Rattle.elf_image.specs.declared.device.TheConstants.{OUTPUT_WORD}

abbrev pub write_phase : Program → HartState → Phase
write_phase program h =
    if not ((first_argument h == 1) || (first_argument h == 2)) then Returning BAD_DESCRIPTOR else
    if byte_count h == 0 then Returning 0 else
    if fails_at (is_mapped_at program.layout) (buffer_start h) (byte_count h) then Returning BAD_ADDRESS else
    Writing (Gathering 0)

abbrev pub write_task : Program → HartState → WriteStage → Task
write_task program h (Gathering index) =
    Access (buffer_word program.layout (buffer_start h) index) Read (Gather (buffer_bytes (buffer_start h) (byte_count h) index))
write_task program h Judging = Meeting Verdict
write_task program h Placing = Access OUTPUT_WORD (Place (byte_count h)) Claim

-- the phase after an access of the call
abbrev pub write_next : HartState → WriteStage → Phase
write_next h (Gathering index) =
    if nat_lt (index + 1) (word_count (buffer_start h) (byte_count h)) then Writing (Gathering (index + 1)) else Writing Judging
write_next h Judging = Writing Judging
write_next h Placing = Returning (byte_count h)

-- what a call has gathered after an access that found this
abbrev pub gathered_by : HartState → WriteStage → ℕ → List ℕ → List ℕ
gathered_by h (Gathering index) found gathered = gathered ++ gather (buffer_start h) (byte_count h) index found
gathered_by h Judging found gathered = gathered
gathered_by h Placing found gathered = gathered
