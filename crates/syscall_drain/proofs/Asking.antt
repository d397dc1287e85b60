-- The next unit of an instruction goes with what the instruction asked.
use Rattle.std.proofs.Common.{◌≡◌, ℕ, Some, None, Bool, true, false, refl, sym, subst, if◌then◌else◌}
use Rattle.rv_decode.specs.declared.insn.Insn.{Insn}
use Rattle.rv_decode.specs.declared.insn.Insn.TheVariants.{Lui, Auipc, Jal, Jalr, Branch, Load, Store, Imm, Reg, Fence, Ecall, Ebreak, Lr, Sc, Amo}
use Rattle.rv_decode.specs.Ranges.{Fits}
use Rattle.rv_decode.specs.Rows.{IsSystem, IsTouching}
use Rattle.rv_execute.specs.declared.op.Op.{Op}
use Rattle.rv_execute.specs.declared.fault.Fault.{Fault}
use Rattle.rv_execute.specs.declared.fault.Fault.TheVariants.{Illegal, FetchMisaligned, FetchOutside, LoadMisaligned, LoadOutside, StoreMisaligned, StoreOutside, StoreReadOnly, Break}
use Rattle.rv_execute.specs.declared.ask.Ask.{Ask}
use Rattle.rv_execute.specs.declared.ask.Ask.TheVariants.{Quiet as AsksNothing, Touch, Ecall as Environment, Fault as AsksFault}
use Rattle.rv_execute.specs.Harts.{HartState, reg}
use Rattle.rv_execute.specs.Results.{is_taken}
use Rattle.rv_execute.specs.Instructions.{asked, IsFinishedBy}
use Rattle.record_lane.specs.Sound.{IsUnit}
use Rattle.syscall_drain.specs.Tasks.{fault_task}
use Rattle.syscall_drain.specs.Sound.{IsSoundTask, IsSoundQuiet, IsSoundAccess}
use Rattle.syscall_drain.specs.declared.task.QuietReason.TheVariants.{Plain}
use Rattle.syscall_drain.specs.declared.task.AccessReason.TheVariants.{Insn as ByInsn}

-- what only the environment calls ask
abbrev IsOfSystem : Ask → Type 0
IsOfSystem Environment = Unit {0}
IsOfSystem (AsksFault Break) = Unit {0}
IsOfSystem _ = ⊥

system_asks : (h : HartState) (insn : Insn) → IsSystem insn → IsOfSystem (asked h insn)
unfolding asked
system_asks h (Lui rd imm) is = cc
system_asks h (Auipc rd imm) is = cc
system_asks h (Jal rd imm) is = cc
system_asks h (Jalr rd rs1 imm) is = cc
system_asks h (Branch kind rs1 rs2 imm) is = cc
system_asks h (Load kind rd rs1 imm) is = cc
system_asks h (Store kind rs1 rs2 imm) is = cc
system_asks h (Imm kind rd rs1 imm) is = cc
system_asks h (Reg kind rd rs1 rs2) is = cc
system_asks h Fence is = cc
system_asks h Ecall is = tt
system_asks h Ebreak is = tt
system_asks h (Lr rd rs1) is = cc
system_asks h (Sc rd rs1 rs2) is = cc
system_asks h (Amo kind rd rs1 rs2) is = cc

no_system : (h : HartState) (insn : Insn) (ask : Ask) → asked h insn ≡ ask → (IsOfSystem ask → ⊥) → ¬ IsSystem insn
no_system h insn ask is other = λ system. other (let P : Ask → Type 0 = λ a. IsOfSystem a in subst P is (system_asks h insn system))

-- an access of an instruction is asked by one that touches memory, and by no other
abbrev IsOfMemory : Ask → Type 0
IsOfMemory AsksNothing = ⊥
IsOfMemory _ = Unit {0}

access_of_memory : (b : Bool) (addr : ℕ) (op : Op) (fault : Fault) → IsOfMemory (if b then Touch addr op else AsksFault fault)
access_of_memory true addr op fault = tt
access_of_memory false addr op fault = tt

touching_asks : (h : HartState) (insn : Insn) → IsTouching insn → IsOfMemory (asked h insn)
unfolding asked
touching_asks h (Lui rd imm) is = cc
touching_asks h (Auipc rd imm) is = cc
touching_asks h (Jal rd imm) is = cc
touching_asks h (Jalr rd rs1 imm) is = cc
touching_asks h (Branch kind rs1 rs2 imm) is = cc
touching_asks h (Load kind rd rs1 imm) is = access_of_memory _ _ _ _
touching_asks h (Store kind rs1 rs2 imm) is = access_of_memory _ _ _ _
touching_asks h (Imm kind rd rs1 imm) is = cc
touching_asks h (Reg kind rd rs1 rs2) is = cc
touching_asks h Fence is = cc
touching_asks h Ecall is = tt
touching_asks h Ebreak is = tt
touching_asks h (Lr rd rs1) is = access_of_memory _ _ _ _
touching_asks h (Sc rd rs1 rs2) is = access_of_memory _ _ _ _
touching_asks h (Amo kind rd rs1 rs2) is = access_of_memory _ _ _ _

jump_no_touch : (b : Bool) (addr : ℕ) (op : Op) → (if b then AsksNothing else AsksFault FetchMisaligned) ≡ Touch addr op → ⊥
jump_no_touch true addr op e = cc
jump_no_touch false addr op e = cc

branch_no_touch : (taken b : Bool) (addr : ℕ) (op : Op) → (if taken then (if b then AsksNothing else AsksFault FetchMisaligned) else AsksNothing) ≡ Touch addr op → ⊥
branch_no_touch true b addr op e = jump_no_touch b addr op e
branch_no_touch false b addr op e = cc

touch_touches : (h : HartState) (insn : Insn) (addr : ℕ) (op : Op) → asked h insn ≡ Touch addr op → IsTouching insn
unfolding asked
touch_touches h (Lui rd imm) addr op e = absurd (cc)
touch_touches h (Auipc rd imm) addr op e = absurd (cc)
touch_touches h (Jal rd imm) addr op e = absurd (jump_no_touch _ addr op e)
touch_touches h (Jalr rd rs1 imm) addr op e = absurd (jump_no_touch _ addr op e)
touch_touches h (Branch kind rs1 rs2 imm) addr op e = absurd (branch_no_touch (is_taken kind (reg h rs1) (reg h rs2)) _ addr op e)
touch_touches h (Load kind rd rs1 imm) addr op e = refl
touch_touches h (Store kind rs1 rs2 imm) addr op e = refl
touch_touches h (Imm kind rd rs1 imm) addr op e = absurd (cc)
touch_touches h (Reg kind rd rs1 rs2) addr op e = absurd (cc)
touch_touches h Fence addr op e = absurd (cc)
touch_touches h Ecall addr op e = absurd (cc)
touch_touches h Ebreak addr op e = absurd (cc)
touch_touches h (Lr rd rs1) addr op e = refl
touch_touches h (Sc rd rs1 rs2) addr op e = refl
touch_touches h (Amo kind rd rs1 rs2) addr op e = refl

-- an instruction that asks for nothing
pub plain_sound : (h : HartState) (insn : Insn) → asked h insn ≡ AsksNothing → Fits insn → IsSoundQuiet h (Plain insn)
plain_sound h insn e fits = (
  (fits, no_system h insn AsksNothing e (λ no. no)),
  let P : Ask → Type 0 = λ a. IsFinishedBy a None in subst P (sym e) tt,
  λ touches. let Q : Ask → Type 0 = λ a. IsOfMemory a in subst Q e (touching_asks h insn touches),
)

-- one that asks for an access fits and is no environment call, and is finished by what the access finds
pub touch_unit : (h : HartState) (insn : Insn) (addr : ℕ) (op : Op) → asked h insn ≡ Touch addr op → Fits insn → IsUnit insn
touch_unit h insn addr op e fits = (fits, no_system h insn (Touch addr op) e (λ no. no))

pub touch_sound : (h : HartState) (insn : Insn) (addr : ℕ) (op : Op) → asked h insn ≡ Touch addr op → Fits insn → IsSoundAccess h (ByInsn insn)
touch_sound h insn addr op e fits =
    (touch_unit h insn addr op e fits, touch_touches h insn addr op e, λ t. let P : Ask → Type 0 = λ a. IsFinishedBy a (Some t) in subst P (sym e) tt)

-- one that faults
pub fault_sound : (words : ℕ) (h : HartState) (insn : Insn) (fault : Fault) → asked h insn ≡ AsksFault fault → Fits insn → IsSoundTask words h (fault_task insn fault)
fault_sound words h insn Illegal e fits = (fits, no_system h insn _ e (λ no. no))
fault_sound words h insn FetchMisaligned e fits = (fits, no_system h insn _ e (λ no. no))
fault_sound words h insn FetchOutside e fits = (fits, no_system h insn _ e (λ no. no))
fault_sound words h insn LoadMisaligned e fits = (fits, no_system h insn _ e (λ no. no))
fault_sound words h insn LoadOutside e fits = (fits, no_system h insn _ e (λ no. no))
fault_sound words h insn StoreMisaligned e fits = (fits, no_system h insn _ e (λ no. no))
fault_sound words h insn StoreOutside e fits = (fits, no_system h insn _ e (λ no. no))
fault_sound words h insn StoreReadOnly e fits = (fits, no_system h insn _ e (λ no. no))
fault_sound words h insn Break e fits = tt
