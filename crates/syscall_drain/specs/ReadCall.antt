-- The call read: its decision, and its units, a claim on the input and a store for each word that holds a byte taken
-- (results as on RISC-V Linux; the units are this project's own).
use Rattle.std.specs.Prelude.{ℕ, ◌+◌, ◌-◌, min, not, ◌==◌, nat_lt, length, if◌then◌else◌}
use Rattle.elf_image.specs.Layout.{is_writable}
use Rattle.rv_execute.specs.declared.op.Op.TheVariants.{TakeInput}
use Rattle.rv_execute.specs.Harts.{HartState}
use Rattle.syscall_drain.specs.Programs.{Program}
use Rattle.syscall_drain.specs.Arguments.{first_argument, buffer_start, byte_count, fails_at}
use Rattle.syscall_drain.specs.Buffers.{word_count, buffer_word, buffer_bytes, fill}
use Rattle.syscall_drain.specs.declared.phase.Phase.{Phase}
use Rattle.syscall_drain.specs.declared.phase.Phase.TheVariants.{Reading, Returning}
use Rattle.syscall_drain.specs.declared.read_call.ReadStage.{ReadStage}
use Rattle.syscall_drain.specs.declared.read_call.ReadStage.TheVariants.{Claiming, Storing}
use Rattle.syscall_drain.specs.declared.task.Task.{Task}
use Rattle.syscall_drain.specs.declared.task.Task.TheVariants.{Access}
use Rattle.syscall_drain.specs.declared.task.AccessReason.TheVariants.{Fill, Claim}
use Rattle.syscall_drain.specs.declared.decision.TheConstants.{BAD_DESCRIPTOR, BAD_ADDRESS}
use Rattle.elf_image.specs.declared.device.TheConstants.{INPUT_WORD}

abbrev pub read_phase : Program → HartState → Phase
read_phase program h =
    if not (first_argument h == 0) then Returning BAD_DESCRIPTOR else
    if byte_count h == 0 then Returning 0 else
    if fails_at (is_writable program.layout) (buffer_start h) (byte_count h) then Returning BAD_ADDRESS else
    Reading Claiming

abbrev pub read_task : Program → HartState → ReadStage → Task
read_task program h Claiming = Access INPUT_WORD (TakeInput (byte_count h) (length program.input)) Claim
read_task program h (Storing index start count) =
    Access
    (buffer_word program.layout (buffer_start h) index)
    (fill (buffer_start h) count index program.input start)
    (Fill (buffer_bytes (buffer_start h) count index))

-- how many bytes a claim takes that finds this position
abbrev pub bytes_taken : Program → HartState → ℕ → ℕ
bytes_taken program h position = min (byte_count h) (length program.input - position)

abbrev pub store_phase : ℕ → ℕ → Phase
store_phase position count = if count == 0 then Returning 0 else Reading (Storing 0 position count)

abbrev pub store_after : HartState → ℕ → ℕ → ℕ → Phase
store_after h index start count =
    if nat_lt (index + 1) (word_count (buffer_start h) count) then Reading (Storing (index + 1) start count) else Returning count

-- the phase after an access of the call that found this
abbrev pub read_next : Program → HartState → ReadStage → ℕ → Phase
read_next program h Claiming position = store_phase position (bytes_taken program h position)
read_next program h (Storing index start count) found = store_after h index start count
