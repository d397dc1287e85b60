-- Proof form: what holds of a core at every moment, and of its next unit. A call in the middle goes with its arguments, and has gathered as many bytes as it is far.
use Rattle.std.specs.Prelude.{◌≡◌, ℕ, ◌+◌, ◌-◌, ◌*◌, ◌%◌, ◌<◌, ◌≤◌, List, length, Some, None}
use Rattle.rv_decode.specs.Rows.{IsTouching}
use Rattle.rv_execute.specs.declared.op.Taken.{Taken}
use Rattle.rv_execute.specs.Harts.{HartState}
use Rattle.rv_execute.specs.Instructions.{asked, IsFinishedBy}
use Rattle.record_lane.specs.Sound.{IsUnit}
use Rattle.syscall_drain.specs.Locals.{Local}
use Rattle.syscall_drain.specs.Arguments.{buffer_start, byte_count}
use Rattle.syscall_drain.specs.Buffers.{word_count}
use Rattle.syscall_drain.specs.declared.phase.Phase.{Phase}
use Rattle.syscall_drain.specs.declared.phase.Phase.TheVariants.{Running, Reading, Writing, Breaking, Returning}
use Rattle.syscall_drain.specs.declared.read_call.ReadStage.{ReadStage}
use Rattle.syscall_drain.specs.declared.read_call.ReadStage.TheVariants.{Claiming, Storing}
use Rattle.syscall_drain.specs.declared.write_call.WriteStage.{WriteStage}
use Rattle.syscall_drain.specs.declared.write_call.WriteStage.TheVariants.{Gathering, Judging, Placing}
use Rattle.syscall_drain.specs.declared.task.Task.{Task}
use Rattle.syscall_drain.specs.declared.task.Task.TheVariants.{Over, Quiet, Access, Meeting}
use Rattle.syscall_drain.specs.declared.task.QuietReason.{QuietReason}
use Rattle.syscall_drain.specs.declared.task.QuietReason.TheVariants.{Blank, Faulted, Plain, Return}
use Rattle.syscall_drain.specs.declared.task.AccessReason.{AccessReason}
use Rattle.syscall_drain.specs.declared.task.AccessReason.TheVariants.{Insn as ByInsn, Fill, Gather, Claim}

-- the call has some bytes to move, and none of them passes 2^32
abbrev pub HasBuffer : HartState → Type 0
HasBuffer h = (0 < byte_count h) × (buffer_start h + byte_count h ≤ 4294967296)

-- a word of the buffer is next
abbrev pub IsSoundRead : HartState → ReadStage → Type 0
IsSoundRead h Claiming = HasBuffer h
IsSoundRead h (Storing index start count) = HasBuffer h × ((count ≤ byte_count h) × (index < word_count (buffer_start h) count))

-- a write call has gathered the bytes before its next word, and in the end all of them
abbrev pub IsSoundWrite : HartState → List ℕ → WriteStage → Type 0
IsSoundWrite h gathered (Gathering index) =
    HasBuffer h × ((index < word_count (buffer_start h) (byte_count h)) × ((length gathered < byte_count h) × (length gathered ≡ 4 * index - buffer_start h % 4)))
IsSoundWrite h gathered Judging = length gathered ≡ byte_count h
IsSoundWrite h gathered Placing = length gathered ≡ byte_count h

abbrev pub IsSoundPhase : HartState → List ℕ → Phase → Type 0
IsSoundPhase h gathered Running = Unit {0}
IsSoundPhase h gathered (Reading stage) = IsSoundRead h stage
IsSoundPhase h gathered (Writing stage) = IsSoundWrite h gathered stage
IsSoundPhase h gathered Breaking = Unit {0}
IsSoundPhase h gathered (Returning result) = Unit {0}

pub record IsSound (l : Local) : Type 0 where
  pub phase : IsSoundPhase l.hart l.gathered l.phase

-- how many bytes are gathered and not yet placed
abbrev pub due_in : Phase → ℕ → ℕ
due_in (Writing stage) gathered = gathered
due_in _ gathered = 0

abbrev pub due : Local → ℕ
due l = due_in l.phase (length l.gathered)

-- an instruction that needs no access has asked for none
abbrev pub IsSoundQuiet : HartState → QuietReason → Type 0
IsSoundQuiet h (Blank fault) = Unit {0}
IsSoundQuiet h (Faulted fault insn) = IsUnit insn
IsSoundQuiet h (Plain insn) = IsUnit insn × IsFinishedBy (asked h insn) None × (¬ IsTouching insn)
IsSoundQuiet h (Return result) = Unit {0}

-- one that has an access has asked for it
abbrev pub IsSoundAccess : HartState → AccessReason → Type 0
IsSoundAccess h (ByInsn insn) = IsUnit insn × IsTouching insn × ((t : Taken) → IsFinishedBy (asked h insn) (Some t))
IsSoundAccess h (Fill bytes) = bytes < 16
IsSoundAccess h (Gather bytes) = bytes < 16
IsSoundAccess h Claim = Unit {0}

abbrev pub IsSoundTask : ℕ → HartState → Task → Type 0
IsSoundTask words h Over = Unit {0}
IsSoundTask words h (Quiet reason) = IsSoundQuiet h reason
IsSoundTask words h (Access word op reason) = (word < words) × IsSoundAccess h reason
IsSoundTask words h (Meeting kind) = Unit {0}
