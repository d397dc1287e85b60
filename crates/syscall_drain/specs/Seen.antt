-- What a contract sees of a core, of its next unit and of what a unit made (this project's own).
use Rattle.std.specs.Prelude.{◌≡◌, ℕ, ◌<◌, Option, Some, None, List, [], ◌∷◌, ◌++◌}
use Rattle.elf_image.specs.Layout.{words_of}
use Rattle.rv_execute.specs.Harts.{state_of}
use Rattle.record_lane.specs.declared.record.Record.{Record}
use Rattle.syscall_drain.specs.Programs.{Program}
use Rattle.syscall_drain.specs.Locals.{Local, opening_local}
use Rattle.syscall_drain.specs.Tasks.{task_of}
use Rattle.syscall_drain.specs.Units.{next_ask, answered}
use Rattle.syscall_drain.specs.Runs.{local_after, IsLocalRun}
use Rattle.syscall_drain.specs.Sound.{IsSoundTask}
use Rattle.syscall_drain.specs.declared.ask.CoreAsk.{CoreAsk}
use Rattle.syscall_drain.specs.declared.ask.CoreAsk.TheVariants.{Quiet, Touch, Meet, Ended}
use Rattle.syscall_drain.specs.declared.ask.Answer.{Answer}
use Rattle.syscall_drain.specs.declared.ask.NextUnit.{NextUnit}
use Rattle.syscall_drain.specs.declared.local_core.LocalCore.{LocalCore}
use Rattle.syscall_drain.specs.declared.core_state.CoreState.{CoreState}

abbrev pub local_seen : LocalCore → Local
local_seen c = record { hart = state_of c.hart; phase = c.phase; gathered = c.gathered; units = c.units; ending = c.end }

abbrev pub local_of : CoreState → Local
local_of c = local_seen c.local

abbrev pub budget_of : CoreState → ℕ
budget_of c = c.budget

abbrev pub core_of : CoreState → ℕ
core_of c = c.core

-- the next unit of a core, with what it asks
abbrev pub next_unit : Program → Local → NextUnit
next_unit program l = record { ask = next_ask program l; task = task_of program l }

-- the word that an ask touches is below a count of words
abbrev pub TouchesBelow : ℕ → CoreAsk → Type 0
TouchesBelow words Quiet = Unit {0}
TouchesBelow words (Touch word op) = word < words
TouchesBelow words (Meet item) = Unit {0}
TouchesBelow words Ended = Unit {0}

-- a unit is the next one of a core, its word is one of the image, and what it is goes with the core
pub record IsNextUnit (program : Program) (l : Local) (unit : NextUnit) : Type 0 where
  pub is : unit ≡ next_unit program l
  pub below : TouchesBelow (words_of program.layout) unit.ask
  pub sound : IsSoundTask (words_of program.layout) l.hart unit.task

-- the record of a meeting has already stood in what the unit asked
abbrev pub item_made : CoreAsk → Record → Option Record
item_made Quiet item = Some item
item_made (Touch word op) item = Some item
item_made (Meet met) item = None
item_made Ended item = Some item

-- the answers are a local run of the core from its opening on, and it is where they lead
pub record StandsAt (program : Program) (c : CoreState) (answers : List Answer) : Type 0 where
  pub run : IsLocalRun program (budget_of c) (opening_local program (core_of c)) answers
  pub local : local_of c ≡ local_after program (budget_of c) (opening_local program (core_of c)) answers

-- a core after its next unit, with this answer; whatever its answers were so far, it stands after them and this one
pub record HasSpent (program : Program) (old new : CoreState) (given : Answer) : Type 0 where
  pub step : local_of new ≡ answered program (budget_of old) (local_of old) given
  pub budget : budget_of new ≡ budget_of old
  pub core : core_of new ≡ core_of old
  pub stands : (answers : List Answer) → StandsAt program old answers → StandsAt program new (answers ++ given ∷ [])
