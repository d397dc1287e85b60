-- Proof form: what holds of a hart actor between two moves.
use Rattle.std.specs.Prelude.{◌≡◌, ℕ, ◌+◌, ◌*◌, ◌<◌, ◌≤◌, false, None, IsSome, IfSome, List, ◌++◌, length, option_to_list}
use Rattle.elf_image.specs.Layout.{words_of}
use Rattle.record_lane.specs.declared.record.Record.{Record}
use Rattle.record_lane.specs.Sound.{IsSoundRecord}
use Rattle.record_lane.specs.Rings.{sent_by}
use Rattle.record_lane.specs.Lanes.{taken_by}
use Rattle.ticket_table.specs.Passes.{is_spent}
use Rattle.syscall_drain.specs.declared.limits.TheConstants.{MOST_BUDGET}
use Rattle.syscall_drain.specs.Programs.{Program}
use Rattle.syscall_drain.specs.Locals.{Local}
use Rattle.syscall_drain.specs.Units.{next_ask}
use Rattle.syscall_drain.specs.Sound.{due}
use Rattle.syscall_drain.specs.declared.ask.Answer.{Answer}
use Rattle.syscall_drain.specs.declared.ask.CoreAsk.TheVariants.{Meet as Meets}
use Rattle.actor_lists.specs.Walked.{HasRun}
use Rattle.hart_actor.specs.declared.stage.Stage.{Stage}
use Rattle.hart_actor.specs.declared.stage.Stage.TheVariants.{Going, Meeting, Closed}
use Rattle.hart_actor.specs.Harts.{Hart, ahead, cut, cut_length}

-- a bound on the numbers that its accesses draw
abbrev pub top_of : Hart → ℕ
top_of h = h.pass.terms.limit + h.pass.terms.callers

abbrev pub AtStage : Program → Local → Stage → Type 0
AtStage program l Going = Unit {0}
AtStage program l (Meeting item) = next_ask program l ≡ Meets item
AtStage program l Closed = IsSome l.ending

-- what it keeps has room for all units of the budget
pub record HasRoom (h : Hart) : Type 0 where
  pub spent : h.local.units ≤ h.budget
  pub most : h.budget ≤ MOST_BUDGET
  pub log : (length h.log.items ≡ h.local.units) × (h.log.room ≡ h.budget)
  pub notes : (length h.notes.items ≤ h.local.units) × (h.notes.room ≡ h.budget)
  pub pieces : (length h.pieces.items ≤ h.local.units) × (h.pieces.room ≡ h.budget)
  pub output : (length h.output.items + due h.local ≤ 4 * h.local.units) × (h.output.room ≡ 4 * h.budget)

-- its lists are those of a local run; what it sent are the records of its units, and those ahead of them
pub record IsHart (h : Hart) : Type 0 where
  pub answers : List Answer
  pub records : List Record
  pub has_run : HasRun h.program h.budget h.core h.pass.terms h.local h.log.items h.pass.changes records (taken_by h.taker) h.notes.items (cut h.pieces.items h.output.items) answers
  pub count : length records ≡ h.local.units
  pub sent_is : sent_by h.sender ++ option_to_list h.unsent ≡ records ++ ahead h.stage
  pub at_stage : AtStage h.program h.local h.stage
  pub caller : h.pass.caller ≡ h.core
  pub unspent : h.local.ending ≡ None → is_spent h.pass ≡ false
  pub sound : IfSome h.unsent (IsSoundRecord (words_of h.program.layout) (top_of h))
  pub some_number : 0 < top_of h
  pub whole : cut_length h.pieces.items ≡ length h.output.items
  pub room : HasRoom h
