-- The next unit of a core and the core after it hold words, where the core does: registers, results of calls and what is asked of memory.
use Rattle.std.proofs.Common.{ℕ, ◌+◌, ◌%◌, ◌^◌, ◌<◌, ◌≤◌, Bool, true, false, ◌||◌, not, Option, Some, None, List, length, arith, if◌then◌else◌}
use Rattle.std.specs.Prelude.{◌==◌, nat_lt}
use Rattle.std.specs.Option.{IfSome}
use Rattle.rv_decode.specs.declared.insn.Insn.{Insn}
use Rattle.rv_decode.specs.Ranges.{Fits}
use Rattle.rv_decode.specs.Rows.{decoded}
use Rattle.rv_decode.proofs.InRange.{decoded_fits}
use Rattle.rv_execute.specs.declared.op.Op.{Op}
use Rattle.rv_execute.specs.declared.op.Taken.{Taken}
use Rattle.rv_execute.specs.declared.fault.Fault.{Fault}
use Rattle.rv_execute.specs.declared.fault.Fault.TheVariants.{Illegal, FetchMisaligned, FetchOutside, LoadMisaligned, LoadOutside, StoreMisaligned, StoreOutside, StoreReadOnly, Break}
use Rattle.rv_execute.specs.declared.ask.Ask.{Ask}
use Rattle.rv_execute.specs.declared.ask.Ask.TheVariants.{Quiet as AsksNothing, Touch, Ecall, Fault as AsksFault}
use Rattle.rv_execute.specs.Harts.{HartState}
use Rattle.rv_execute.specs.Instructions.{asked, found_by, resumed}
use Rattle.elf_image.specs.Layout.{Layout, word_of, is_writable, fetched}
use Rattle.record_lane.specs.declared.record.MeetKind.{MeetKind}
use Rattle.record_lane.specs.declared.record.MeetKind.TheVariants.{Call, Verdict}
use Rattle.syscall_drain.specs.Programs.{Program}
use Rattle.syscall_drain.specs.Locals.{Local}
use Rattle.syscall_drain.specs.Arguments.{first_argument, buffer_start, byte_count, fails_at, is_mapped_at, call_number}
use Rattle.syscall_drain.specs.Buffers.{covers, word_count, word_address, buffer_word, buffer_mask}
use Rattle.syscall_drain.specs.ReadCall.{read_phase, bytes_taken}
use Rattle.syscall_drain.specs.WriteCall.{write_phase}
use Rattle.syscall_drain.specs.Calls.{decision, decided, call_after}
use Rattle.syscall_drain.specs.Tasks.{only_loads, access_task, fault_task, asked_task, decoded_task, fetched_task, phase_task, task_of}
use Rattle.syscall_drain.specs.Units.{after_quiet, after_access, after_meeting, after_task, taken_of, stop_of, budget_end, answered}
use Rattle.syscall_drain.specs.Sound.{IsSoundPhase, IsSound}
use Rattle.syscall_drain.specs.declared.end.End.{End}
use Rattle.syscall_drain.specs.declared.end.End.TheVariants.{Exit, Trapped, Fault as ByFault, Spent}
use Rattle.syscall_drain.specs.declared.phase.Phase.{Phase}
use Rattle.syscall_drain.specs.declared.phase.Phase.TheVariants.{Running, Reading, Writing, Breaking, Returning}
use Rattle.syscall_drain.specs.declared.read_call.ReadStage.TheVariants.{Claiming, Storing}
use Rattle.syscall_drain.specs.declared.write_call.WriteStage.TheVariants.{Gathering, Judging, Placing}
use Rattle.record_lane.specs.declared.call.TheConstants.{READ, WRITE, EXIT, EXIT_GROUP, BREAK}
use Rattle.syscall_drain.specs.declared.task.Task.{Task}
use Rattle.syscall_drain.specs.declared.task.Task.TheVariants.{Over, Quiet, Access, Meeting}
use Rattle.syscall_drain.specs.declared.task.QuietReason.{QuietReason}
use Rattle.syscall_drain.specs.declared.task.QuietReason.TheVariants.{Blank, Faulted, Plain, Return}
use Rattle.syscall_drain.specs.declared.task.AccessReason.{AccessReason}
use Rattle.syscall_drain.specs.declared.task.AccessReason.TheVariants.{Insn as ByInsn, Fill, Gather, Claim}
use Rattle.syscall_drain.specs.declared.ask.Answer.{Answer}
use Rattle.machine.proofs.ResultRanges.{IsWord, IsOfWords, changed_word}
use Rattle.machine.proofs.HartRanges.{AreWords, set_words, registers_after, AsksWords, asked_words}
use Rattle.machine.proofs.ImageRanges.{AreBytes, IsWordIf, fetched_word, word_of_word, unwrapped_word}

-- ---- a core

abbrev pub IsPhaseOfWords : Phase → Type 0
IsPhaseOfWords Running = Unit {0}
IsPhaseOfWords (Reading Claiming) = Unit {0}
IsPhaseOfWords (Reading (Storing index start count)) = IsWord count
IsPhaseOfWords (Writing stage) = Unit {0}
IsPhaseOfWords Breaking = Unit {0}
IsPhaseOfWords (Returning result) = IsWord result

-- a status is a byte
abbrev pub IsByteEnd : End → Type 0
IsByteEnd (Exit status) = status < 2 ^ 8
IsByteEnd _ = Unit {0}

abbrev pub IsByteEndIf : Option End → Type 0
IsByteEndIf None = Unit {0}
IsByteEndIf (Some end) = IsByteEnd end

pub record HoldsWords (l : Local) : Type 0 where
  pub registers : AreWords l.hart.regs
  pub phase : IsPhaseOfWords l.phase
  pub ending : IsByteEndIf l.ending

-- ---- its next unit

abbrev pub IsFitReason : AccessReason → Type 0
IsFitReason (ByInsn insn) = Fits insn
IsFitReason (Fill bytes) = Unit {0}
IsFitReason (Gather bytes) = Unit {0}
IsFitReason Claim = Unit {0}

abbrev pub IsQuietOfWords : QuietReason → Type 0
IsQuietOfWords (Blank fault) = Unit {0}
IsQuietOfWords (Faulted fault insn) = Unit {0}
IsQuietOfWords (Plain insn) = Fits insn
IsQuietOfWords (Return result) = IsWord result

abbrev pub IsTaskOfWords : Task → Type 0
IsTaskOfWords Over = Unit {0}
IsTaskOfWords (Quiet reason) = IsQuietOfWords reason
IsTaskOfWords (Access word op reason) = IsWord word × IsOfWords op × IsFitReason reason
IsTaskOfWords (Meeting kind) = Unit {0}

pick : {A : Type 0} (P : A → Type 0) (b : Bool) (x y : A) → P x → P y → P (if b then x else y)
pick P true x y h k = h
pick P false x y h k = k

access_of_words : (layout : Layout) (insn : Insn) (addr : ℕ) (op : Op) (word : Option ℕ) → IsWordIf word → IsOfWords op → Fits insn → IsTaskOfWords (access_task layout insn addr op word)
access_of_words layout insn addr op None small words fits = tt
access_of_words layout insn addr op (Some word) small words fits =
    pick IsTaskOfWords (only_loads insn) _ _ (small, words, fits) (pick IsTaskOfWords (is_writable layout addr) _ _ (small, words, fits) tt)

fault_of_words : (insn : Insn) (fault : Fault) → IsTaskOfWords (fault_task insn fault)
fault_of_words insn Illegal = tt
fault_of_words insn FetchMisaligned = tt
fault_of_words insn FetchOutside = tt
fault_of_words insn LoadMisaligned = tt
fault_of_words insn LoadOutside = tt
fault_of_words insn StoreMisaligned = tt
fault_of_words insn StoreOutside = tt
fault_of_words insn StoreReadOnly = tt
fault_of_words insn Break = tt

asked_of_words : (layout : Layout) (insn : Insn) (ask : Ask) → AsksWords ask → Fits insn → IsTaskOfWords (asked_task layout insn ask)
asked_of_words layout insn AsksNothing words fits = fits
asked_of_words layout insn (Touch addr op) words fits = access_of_words layout insn addr op (word_of layout addr) (word_of_word layout addr (omega (arith, words.0))) words.1 fits
asked_of_words layout insn Ecall words fits = tt
asked_of_words layout insn (AsksFault fault) words fits = fault_of_words insn fault

decoded_of_words : (layout : Layout) (h : HartState) (insn : Option Insn) → AreWords h.regs → IfSome insn Fits → IsTaskOfWords (decoded_task layout h insn)
decoded_of_words layout h None all fits = tt
decoded_of_words layout h (Some insn) all fits = asked_of_words layout insn (asked h insn) (asked_words h insn all) fits

fetched_of_words : (layout : Layout) (h : HartState) (word : Option ℕ) → AreWords h.regs → IsWordIf word → IsTaskOfWords (fetched_task layout h word)
fetched_of_words layout h None all small = tt
fetched_of_words layout h (Some word) all small = decoded_of_words layout h (decoded word) all (decoded_fits word small)

-- the words of a buffer
buffer_small : (layout : Layout) (start index : ℕ) → IsWord start → index < 2048 → IsWord (buffer_word layout start index)
buffer_small layout start index low near =
    unwrapped_word (word_of layout (word_address start index)) (word_of_word layout (word_address start index) (omega arith))

mask_byte : (b : Bool) → (if b then 255 else 0) ≤ 255
mask_byte true = omega arith
mask_byte false = omega arith

mask_word : (start count index : ℕ) → IsWord (buffer_mask start count index)
mask_word start count index =
    omega (arith, mask_byte (covers start count index 0), mask_byte (covers start count index 1), mask_byte (covers start count index 2), mask_byte (covers start count index 3))

-- what each phase has as its next unit
phase_of_words : (program : Program) (h : HartState) (gathered : List ℕ) (phase : Phase) → AreBytes program.layout.bytes → length program.input ≤ 16777216
    → AreWords h.regs → IsPhaseOfWords phase → IsSoundPhase h gathered phase → IsTaskOfWords (phase_task program h phase)
phase_of_words program h gathered Running bytes short all words sound =
    fetched_of_words program.layout h (fetched program.layout h.pc) all (fetched_word program.layout h.pc bytes)
phase_of_words program h gathered (Reading Claiming) bytes short all words sound = (omega arith, omega arith, tt)
phase_of_words program h gathered (Reading (Storing index start count)) bytes short all words sound =
    (buffer_small program.layout (buffer_start h) index (all 11) (omega (arith, sound.1.0, sound.1.1)), mask_word (buffer_start h) count index, tt)
phase_of_words program h gathered (Writing (Gathering index)) bytes short all words sound =
    (buffer_small program.layout (buffer_start h) index (all 11) (omega (arith, sound.1.0)), tt, tt)
phase_of_words program h gathered (Writing Judging) bytes short all words sound = tt
phase_of_words program h gathered (Writing Placing) bytes short all words sound = (omega arith, tt, tt)
phase_of_words program h gathered Breaking bytes short all words sound = (omega arith, all 10, tt)
phase_of_words program h gathered (Returning result) bytes short all words sound = words

unit_by : (program : Program) (h : HartState) (phase : Phase) (gathered : List ℕ) (units : ℕ) (ending : Option End) → AreBytes program.layout.bytes → length program.input ≤ 16777216
    → AreWords h.regs → IsPhaseOfWords phase → IsSoundPhase h gathered phase → IsTaskOfWords (task_of program (record { hart = h; phase = phase; gathered = gathered; units = units; ending = ending }))
unfolding task_of
unit_by program h phase gathered units (Some end) bytes short all words sound = tt
unit_by program h phase gathered units None bytes short all words sound = phase_of_words program h gathered phase bytes short all words sound

pub unit_of_words : (program : Program) (l : Local) → AreBytes program.layout.bytes → length program.input ≤ 16777216 → HoldsWords l → IsSound l → IsTaskOfWords (task_of program l)
unit_of_words program l bytes short words sound = unit_by program l.hart l.phase l.gathered l.units l.ending bytes short words.registers words.phase sound.phase

-- ---- the core after it

entered_words : (l : Local) (phase : Phase) (gathered : List ℕ) → IsPhaseOfWords phase → HoldsWords l → HoldsWords (record l { phase = phase; gathered = gathered })
entered_words l phase gathered small words = record { registers = words.registers; phase = small; ending = words.ending }

exited_words : (l : Local) (status : ℕ) → status < 2 ^ 8 → HoldsWords l → HoldsWords (record l { ending = Some (Exit status) })
exited_words l status small words = record { registers = words.registers; phase = words.phase; ending = small }

read_phase_words : (program : Program) (h : HartState) → IsPhaseOfWords (read_phase program h)
read_phase_words program h =
    pick IsPhaseOfWords (not (first_argument h == 0)) _ _ (omega arith)
    (pick IsPhaseOfWords (byte_count h == 0) _ _ (omega arith)
    (pick IsPhaseOfWords (fails_at (is_writable program.layout) (buffer_start h) (byte_count h)) _ _ (omega arith) tt))

write_phase_words : (program : Program) (h : HartState) → IsPhaseOfWords (write_phase program h)
write_phase_words program h =
    pick IsPhaseOfWords (not ((first_argument h == 1) || (first_argument h == 2))) _ _ (omega arith)
    (pick IsPhaseOfWords (byte_count h == 0) _ _ (omega arith)
    (pick IsPhaseOfWords (fails_at (is_mapped_at program.layout) (buffer_start h) (byte_count h)) _ _ (omega arith) tt))

decided_words : (program : Program) (l : Local) → HoldsWords l → HoldsWords (decided (decision program l.hart) l)
decided_words program l words =
    pick (λ d. HoldsWords (decided d l)) (call_number l.hart == READ) _ _ (entered_words l (read_phase program l.hart) _ (read_phase_words program l.hart) words)
    (pick (λ d. HoldsWords (decided d l)) (call_number l.hart == WRITE) _ _ (entered_words l (write_phase program l.hart) _ (write_phase_words program l.hart) words)
    (pick (λ d. HoldsWords (decided d l)) (call_number l.hart == BREAK) _ _ (entered_words l Breaking _ tt words)
    (pick (λ d. HoldsWords (decided d l)) ((call_number l.hart == EXIT) || (call_number l.hart == EXIT_GROUP)) _ _
    (exited_words l (first_argument l.hart % 256) (omega arith) words)
    (entered_words l _ _ (omega arith) words))))

call_words : (program : Program) (l : Local) (op : Op) (t : Taken) (phase : Phase) → HoldsWords l → IsPhaseOfWords phase → IsOfWords op → IsWord t.old → HoldsWords (call_after program l op t phase)
call_words program l op t Running words small asked found = words
call_words program l op t (Reading Claiming) words small asked found =
    record { registers = words.registers; phase = pick IsPhaseOfWords (bytes_taken program l.hart t.old == 0) _ _ (omega arith) (omega arith); ending = words.ending }
call_words program l op t (Reading (Storing index start count)) words small asked found =
    record { registers = words.registers; phase = pick IsPhaseOfWords (nat_lt (index + 1) (word_count (buffer_start l.hart) count)) _ _ small small; ending = words.ending }
call_words program l op t (Writing (Gathering index)) words small asked found =
    record { registers = words.registers; phase = pick IsPhaseOfWords (nat_lt (index + 1) (word_count (buffer_start l.hart) (byte_count l.hart))) _ _ tt tt; ending = words.ending }
call_words program l op t (Writing Judging) words small asked found = record { registers = words.registers; phase = tt; ending = words.ending }
call_words program l op t (Writing Placing) words small asked found = record { registers = words.registers; phase = omega arith; ending = words.ending }
call_words program l op t Breaking words small asked found =
    record { registers = words.registers; phase = changed_word op t.number t.old asked found; ending = words.ending }
call_words program l op t (Returning result) words small asked found = words

insn_words : (l : Local) (insn : Insn) (t : Option Taken) → HoldsWords l → Fits insn → IsWord (found_by t) → HoldsWords (record l { hart = resumed l.hart insn t })
unfolding resumed
insn_words l insn t words fits found = record { registers = registers_after l.hart insn t fits words.registers found; phase = words.phase; ending = words.ending }

ended_words : (l : Local) (end : End) → HoldsWords l → IsByteEnd end → HoldsWords (record l { ending = Some end })
ended_words l end words small = record { registers = words.registers; phase = words.phase; ending = small }

quiet_words : (l : Local) (reason : QuietReason) → HoldsWords l → IsQuietOfWords reason → HoldsWords (after_quiet l reason)
quiet_words l (Blank fault) words small = ended_words l (ByFault fault) words tt
quiet_words l (Faulted fault insn) words small = ended_words l (ByFault fault) words tt
quiet_words l (Plain insn) words fits = insn_words l insn None words fits (omega arith)
quiet_words l (Return result) words small = record { registers = set_words l.hart.regs 10 result words.registers small; phase = tt; ending = words.ending }

access_words : (program : Program) (l : Local) (op : Op) (t : Taken) (reason : AccessReason) → HoldsWords l → IsOfWords op → IsFitReason reason → IsWord t.old → HoldsWords (after_access program l op t reason)
access_words program l op t (ByInsn insn) words asked fits found = insn_words l insn (Some t) words fits found
access_words program l op t (Fill bytes) words asked fits found = call_words program l op t l.phase words words.phase asked found
access_words program l op t (Gather bytes) words asked fits found = call_words program l op t l.phase words words.phase asked found
access_words program l op t Claim words asked fits found = call_words program l op t l.phase words words.phase asked found

meeting_words : (program : Program) (l : Local) (kind : MeetKind) → HoldsWords l → HoldsWords (after_meeting program l kind)
meeting_words program l Call words = decided_words program l words
meeting_words program l Verdict words = record { registers = words.registers; phase = tt; ending = words.ending }

task_words : (program : Program) (l : Local) (task : Task) (answer : Answer) → HoldsWords l → IsTaskOfWords task → IsWord (taken_of answer).old → HoldsWords (after_task program l task answer)
task_words program l Over answer words small found = words
task_words program l (Quiet reason) answer words small found = quiet_words l reason words small
task_words program l (Access word op reason) answer words small found =
    pick HoldsWords (taken_of answer).spent _ _ (ended_words l Spent words tt) (access_words program l op (taken_of answer) reason words small.1 small.2 found)
task_words program l (Meeting kind) answer words small found =
    pick HoldsWords (stop_of answer) _ _ (ended_words l Trapped words tt) (meeting_words program l kind words)

budget_words : (budget units : ℕ) (ending : Option End) → IsByteEndIf ending → IsByteEndIf (budget_end budget units ending)
budget_words budget units (Some end) small = small
budget_words budget units None small = pick IsByteEndIf (units == budget) _ _ tt tt

pub answered_words : (program : Program) (budget : ℕ) (l : Local) (answer : Answer) → HoldsWords l → IsTaskOfWords (task_of program l) → IsWord (taken_of answer).old → HoldsWords (answered program budget l answer)
unfolding answered
answered_words program budget l answer words small found =
    let after = task_words program l (task_of program l) answer words small found in
    record { registers = after.registers; phase = after.phase; ending = budget_words budget _ _ after.ending }
