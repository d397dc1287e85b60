-- The record of a sound unit is sound for a lane.
use Rattle.std.proofs.Common.{◌≡◌, ℕ, ◌+◌, ◌%◌, ◌<◌, ◌≤◌, ◌&&◌, nat_le, nat_lt, Option, Bool, true, false, if◌then◌else◌, refl, sym, subst, arith}
use Rattle.std.specs.Prelude.{IfSome}
use Rattle.rv_decode.specs.declared.insn.Insn.{Insn}
use Rattle.rv_decode.specs.declared.insn.Insn.TheVariants.{Lui, Auipc, Jal, Jalr, Branch, Load, Store, Imm, Reg, Fence, Ecall, Ebreak, Lr, Sc, Amo}
use Rattle.rv_decode.specs.Four.{bit_value, four}
use Rattle.rv_execute.specs.declared.op.Op.{Op}
use Rattle.rv_execute.specs.declared.op.Taken.{Taken}
use Rattle.rv_execute.specs.Harts.{HartState}
use Rattle.rv_execute.specs.Instructions.{address}
use Rattle.rv_execute.specs.Payloads.{load_size, store_size}
use Rattle.rv_execute.specs.Touched.{bytes_from, bytes_touched}
use Rattle.record_lane.specs.declared.record.Why.{Why}
use Rattle.record_lane.specs.declared.record.Why.TheVariants.{Spent as BySpent}
use Rattle.record_lane.specs.declared.record.Record.{Record}
use Rattle.record_lane.specs.Sound.{IsSoundWhy, IsSoundRecord}
use Rattle.syscall_drain.specs.Locals.{Local}
use Rattle.syscall_drain.specs.Records.{why_of, task_record}
use Rattle.syscall_drain.specs.Sound.{IsSoundAccess, IsSoundTask}
use Rattle.syscall_drain.specs.Seen.{item_made}
use Rattle.syscall_drain.specs.declared.task.Task.{Task}
use Rattle.syscall_drain.specs.declared.task.Task.TheVariants.{Over, Quiet, Access, Meeting}
use Rattle.syscall_drain.specs.declared.task.QuietReason.TheVariants.{Blank, Faulted, Plain, Return}
use Rattle.syscall_drain.specs.declared.task.AccessReason.{AccessReason}
use Rattle.syscall_drain.specs.declared.task.AccessReason.TheVariants.{Insn as ByInsn, Fill, Gather, Claim}
use Rattle.syscall_drain.specs.declared.ask.CoreAsk.{CoreAsk}
use Rattle.syscall_drain.specs.declared.ask.CoreAsk.TheVariants.{Quiet as AsksNothing, Touch as Touches, Meet as Meets, Ended}

bit_small : (b : Bool) → bit_value b ≤ 1
bit_small true = omega arith
bit_small false = omega arith

four_small : (f : ℕ → Bool) → four f < 16
four_small f =
    let a = bit_small (f 0) in
    let b = bit_small (f 1) in
    let c = bit_small (f 2) in
    let d = bit_small (f 3) in
    omega (arith, a, b, c, d)

from_small : (offset size : ℕ) → bytes_from offset size < 16
from_small offset size = four_small (λ j. nat_le offset j && nat_lt j (offset + size))

bytes_small : (h : HartState) (insn : Insn) → bytes_touched h insn < 16
unfolding bytes_touched
bytes_small h (Lui rd imm) = omega arith
bytes_small h (Auipc rd imm) = omega arith
bytes_small h (Jal rd imm) = omega arith
bytes_small h (Jalr rd rs1 imm) = omega arith
bytes_small h (Branch kind rs1 rs2 imm) = omega arith
bytes_small h (Load kind rd rs1 imm) = from_small (address h rs1 imm % 4) (load_size kind)
bytes_small h (Store kind rs1 rs2 imm) = from_small (address h rs1 imm % 4) (store_size kind)
bytes_small h (Imm kind rd rs1 imm) = omega arith
bytes_small h (Reg kind rd rs1 rs2) = omega arith
bytes_small h Fence = omega arith
bytes_small h Ecall = omega arith
bytes_small h Ebreak = omega arith
bytes_small h (Lr rd rs1) = omega arith
bytes_small h (Sc rd rs1 rs2) = omega arith
bytes_small h (Amo kind rd rs1 rs2) = omega arith

why_sound : (l : Local) (op : Op) (number : ℕ) (reason : AccessReason) → IsSoundAccess l.hart reason → IsSoundWhy (why_of l op number reason)
why_sound l op number (ByInsn insn) sound = (sound.0, sound.1, bytes_small l.hart insn)
why_sound l op number (Fill bytes) sound = sound
why_sound l op number (Gather bytes) sound = sound
why_sound l op number Claim sound = tt

spent_why : (spent : Bool) (why : Why) → IsSoundWhy why → IsSoundWhy (if spent then BySpent else why)
spent_why true why sound = tt
spent_why false why sound = sound

pub record_sound : (words top : ℕ) (l : Local) (task : Task) (t : Taken) → IsSoundTask words l.hart task → t.number < top → IsSoundRecord words top (task_record l task t)
record_sound words top l Over t sound below = tt
record_sound words top l (Quiet (Blank fault)) t sound below = tt
record_sound words top l (Quiet (Faulted fault insn)) t sound below = (sound, λ _. refl)
record_sound words top l (Quiet (Plain insn)) t sound below = (sound.0, λ touches. absurd (sound.2 touches))
record_sound words top l (Quiet (Return result)) t sound below = tt
record_sound words top l (Access word op reason) t sound below = (sound.0, below, spent_why t.spent _ (why_sound l op t.number reason sound.1))
record_sound words top l (Meeting kind) t sound below = tt

-- and so is what a unit hands over
item_by : (words top : ℕ) (ask : CoreAsk) (item : Record) → IsSoundRecord words top item → IfSome (item_made ask item) (IsSoundRecord words top)
item_by words top AsksNothing item sound = sound
item_by words top (Touches word op) item sound = sound
item_by words top (Meets met) item sound = tt
item_by words top Ended item sound = sound

pub item_sound : (words top : ℕ) (l : Local) (task : Task) (t : Taken) (ask : CoreAsk) (made : Option Record) → made ≡ item_made ask (task_record l task t) → IsSoundTask words l.hart task → t.number < top → IfSome made (IsSoundRecord words top)
item_sound words top l task t ask made is sound below =
    let P : Option Record → Type 0 = λ o. IfSome o (IsSoundRecord words top) in
    subst P (sym is) (item_by words top ask (task_record l task t) (record_sound words top l task t sound below))
