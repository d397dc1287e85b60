-- The next unit of a core in no call: an instruction's, which is no unit of a call, and whose access is to no device.
use Rattle.std.proofs.Common.{◌≡◌, ℕ, ◌≤◌, Option, Some, None, Bool, true, false, refl, if◌then◌else◌}
use Rattle.elf_image.specs.Layout.{Layout, word_of, is_writable, fetched}
use Rattle.rv_decode.specs.declared.insn.Insn.{Insn}
use Rattle.rv_decode.specs.Rows.{decoded}
use Rattle.rv_execute.specs.declared.op.Op.{Op}
use Rattle.rv_execute.specs.declared.fault.Fault.{Fault}
use Rattle.rv_execute.specs.declared.fault.Fault.TheVariants.{Illegal, FetchMisaligned, FetchOutside, LoadMisaligned, LoadOutside, StoreMisaligned, StoreOutside, StoreReadOnly, Break}
use Rattle.rv_execute.specs.declared.ask.Ask.{Ask}
use Rattle.rv_execute.specs.declared.ask.Ask.TheVariants.{Quiet as AsksNothing, Touch, Ecall, Fault as AsksFault}
use Rattle.rv_execute.specs.Harts.{HartState}
use Rattle.rv_execute.specs.Instructions.{asked}
use Rattle.record_lane.specs.declared.record.MeetKind.TheVariants.{Call, Verdict}
use Rattle.syscall_drain.specs.Tasks.{only_loads, access_task, fault_task, asked_task, decoded_task, fetched_task}
use Rattle.syscall_drain.specs.declared.task.Task.{Task}
use Rattle.syscall_drain.specs.declared.task.Task.TheVariants.{Over, Quiet, Access, Meeting}
use Rattle.syscall_drain.specs.declared.task.QuietReason.TheVariants.{Faulted, Return}
use Rattle.syscall_drain.specs.declared.task.AccessReason.TheVariants.{Insn as ByInsn}
use Rattle.syscall_drain.proofs.Within.{word_above}

abbrev pub IsInsnTask : Task → Type 0
IsInsnTask Over = ⊥
IsInsnTask (Quiet (Return result)) = ⊥
IsInsnTask (Quiet _) = Unit {0}
IsInsnTask (Access word op (ByInsn insn)) = 3 ≤ word
IsInsnTask (Access word op _) = ⊥
IsInsnTask (Meeting Call) = Unit {0}
IsInsnTask (Meeting Verdict) = ⊥

access_choice : (insn : Insn) (word : ℕ) (op : Op) (loads may : Bool) → 3 ≤ word → IsInsnTask (if loads then Access word op (ByInsn insn) else if may then Access word op (ByInsn insn) else Quiet (Faulted StoreReadOnly insn))
access_choice insn word op true may above = above
access_choice insn word op false true above = above
access_choice insn word op false false above = tt

access_of_insn : (layout : Layout) (insn : Insn) (addr : ℕ) (op : Op) (word : Option ℕ) → word_of layout addr ≡ word → IsInsnTask (access_task layout insn addr op word)
access_of_insn layout insn addr op None is = tt
access_of_insn layout insn addr op (Some word) is = access_choice insn word op (only_loads insn) (is_writable layout addr) (word_above layout addr word is)

fault_of_insn : (insn : Insn) (fault : Fault) → IsInsnTask (fault_task insn fault)
fault_of_insn insn Illegal = tt
fault_of_insn insn FetchMisaligned = tt
fault_of_insn insn FetchOutside = tt
fault_of_insn insn LoadMisaligned = tt
fault_of_insn insn LoadOutside = tt
fault_of_insn insn StoreMisaligned = tt
fault_of_insn insn StoreOutside = tt
fault_of_insn insn StoreReadOnly = tt
fault_of_insn insn Break = tt

asked_of_insn : (layout : Layout) (insn : Insn) (ask : Ask) → IsInsnTask (asked_task layout insn ask)
asked_of_insn layout insn AsksNothing = tt
asked_of_insn layout insn (Touch addr op) = access_of_insn layout insn addr op (word_of layout addr) refl
asked_of_insn layout insn Ecall = tt
asked_of_insn layout insn (AsksFault fault) = fault_of_insn insn fault

decoded_of_insn : (layout : Layout) (h : HartState) (insn : Option Insn) → IsInsnTask (decoded_task layout h insn)
decoded_of_insn layout h None = tt
decoded_of_insn layout h (Some insn) = asked_of_insn layout insn (asked h insn)

word_of_insn : (layout : Layout) (h : HartState) (word : Option ℕ) → IsInsnTask (fetched_task layout h word)
word_of_insn layout h None = tt
word_of_insn layout h (Some word) = decoded_of_insn layout h (decoded word)

pub fetched_of_insn : (layout : Layout) (h : HartState) → IsInsnTask (fetched_task layout h (fetched layout h.pc))
fetched_of_insn layout h = word_of_insn layout h (fetched layout h.pc)
