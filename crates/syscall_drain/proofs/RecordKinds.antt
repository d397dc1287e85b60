-- The kind of a unit's record, by what the unit asked.
use Rattle.std.proofs.Common.{◌≡◌, ℕ, Bool, true, false, if◌then◌else◌, refl, sym, ap}
use Rattle.rv_execute.specs.declared.op.Op.{Op}
use Rattle.rv_execute.specs.declared.op.Taken.{Taken}
use Rattle.record_lane.specs.declared.record.Why.{Why}
use Rattle.record_lane.specs.declared.record.Why.TheVariants.{Spent as BySpent}
use Rattle.record_lane.specs.declared.record.MeetKind.{MeetKind}
use Rattle.record_lane.specs.declared.record.Record.{Record}
use Rattle.record_lane.specs.declared.record.Record.TheVariants.{Touch, Meet}
use Rattle.syscall_drain.specs.Programs.{Program}
use Rattle.syscall_drain.specs.Locals.{Local}
use Rattle.syscall_drain.specs.Arguments.{call_number}
use Rattle.syscall_drain.specs.Tasks.{task_of}
use Rattle.syscall_drain.specs.Units.{task_ask, next_ask, taken_of}
use Rattle.syscall_drain.specs.Records.{task_record, unit_record, why_of, IsStill}
use Rattle.syscall_drain.specs.declared.task.Task.{Task}
use Rattle.syscall_drain.specs.declared.task.Task.TheVariants.{Over, Quiet, Access, Meeting}
use Rattle.syscall_drain.specs.declared.task.QuietReason.TheVariants.{Blank, Faulted, Plain, Return}
use Rattle.syscall_drain.specs.declared.ask.CoreAsk.TheVariants.{Quiet as AsksNothing, Touch as Touches, Meet as Meets}
use Rattle.syscall_drain.specs.declared.ask.Answer.{Answer}
use Rattle.syscall_drain.specs.declared.ask.Answer.TheVariants.{Taken as Took}

still_by : (l : Local) (task : Task) (t : Taken) → task_ask l task ≡ AsksNothing → IsStill (task_record l task t)
still_by l Over t e = cc
still_by l (Quiet (Blank fault)) t e = tt
still_by l (Quiet (Faulted fault insn)) t e = tt
still_by l (Quiet (Plain insn)) t e = tt
still_by l (Quiet (Return result)) t e = tt
still_by l (Access word op reason) t e = cc
still_by l (Meeting kind) t e = cc

pub still_record : (program : Program) (l : Local) (answer : Answer) → next_ask program l ≡ AsksNothing → IsStill (unit_record program l answer)
unfolding next_ask unit_record
still_record program l answer e = still_by l (task_of program l) (taken_of answer) e

-- the record of a meeting is the one that the unit asked with
record IsMeetingOf (l : Local) (item : Record) : Type 0 where
  kind : MeetKind
  is : item ≡ Meet l.units l.hart.pc (call_number l.hart) kind

meeting_by : (l : Local) (task : Task) (t : Taken) (item : Record) → task_ask l task ≡ Meets item → (task_record l task t ≡ item) × IsMeetingOf l item
meeting_by l Over t item e = cc
meeting_by l (Quiet reason) t item e = cc
meeting_by l (Access word op reason) t item e = cc
meeting_by l (Meeting kind) t item e = let same : Meet l.units l.hart.pc (call_number l.hart) kind ≡ item = cc in (same, record { kind = kind; is = sym same })

pub meeting_record : (program : Program) (l : Local) (answer : Answer) (item : Record) → next_ask program l ≡ Meets item → unit_record program l answer ≡ item
unfolding next_ask unit_record
meeting_record program l answer item e = (meeting_by l (task_of program l) (taken_of answer) item e).0

pub meeting_is : (program : Program) (l : Local) (item : Record) → next_ask program l ≡ Meets item → (kind : MeetKind) × (item ≡ Meet l.units l.hart.pc (call_number l.hart) kind)
unfolding next_ask
meeting_is program l item e =
    let meeting = (meeting_by l (task_of program l) (record { number = 0; old = 0; spent = false }) item e).1 in
    (meeting.kind, meeting.is)

-- the record of an access has its word and its number, and says where it is spent
pub record IsTouchOf (l : Local) (word : ℕ) (t : Taken) (item : Record) : Type 0 where
  pub why : Why
  pub is : item ≡ Touch l.units l.hart.pc word t.number why
  pub spent : t.spent ≡ true → why ≡ BySpent

spent_choice : (b : Bool) (why : Why) → b ≡ true → (if b then BySpent else why) ≡ BySpent
spent_choice true why e = refl
spent_choice false why e = cc

touch_by : (l : Local) (task : Task) (t : Taken) (word : ℕ) (op : Op) → task_ask l task ≡ Touches word op → IsTouchOf l word t (task_record l task t)
touch_by l Over t word op e = cc
touch_by l (Quiet reason) t word op e = cc
touch_by l (Access own own_op reason) t word op e =
    let same : own ≡ word = cc in
    record {
      why = if t.spent then BySpent else why_of l own_op t.number reason;
      is = ap (λ (n : ℕ). Touch l.units l.hart.pc n t.number (if t.spent then BySpent else why_of l own_op t.number reason)) same;
      spent = spent_choice t.spent (why_of l own_op t.number reason);
    }
touch_by l (Meeting kind) t word op e = cc

pub touch_record : (program : Program) (l : Local) (t : Taken) (word : ℕ) (op : Op) → next_ask program l ≡ Touches word op → IsTouchOf l word t (unit_record program l (Took t))
unfolding next_ask unit_record
touch_record program l t word op e = touch_by l (task_of program l) t word op e
