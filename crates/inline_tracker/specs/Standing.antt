-- Proof form: where a tracker stands, at the state along its order, core by core and word by word.
use Rattle.std.specs.Prelude.{◌≡◌, ℕ, ◌*◌, ◌<◌, None, List, [], length, slice_index_or}
use Rattle.elf_image.specs.Layout.{words_of}
use Rattle.order_core.specs.declared.entry.Entry.{Entry}
use Rattle.syscall_drain.specs.declared.ask.NextUnit.{NextUnit}
use Rattle.syscall_drain.specs.Seen.{IsNextUnit}
use Rattle.machine.specs.Setups.{Setup, IsSetup, core_count}
use Rattle.machine.specs.States.{Core, opening_core}
use Rattle.machine.specs.Runs.{along, log_along, IsPlayable}
use Rattle.machine.specs.Outcomes.{bytes_in}
use Rattle.inline_tracker.specs.declared.memory.Cell.{Cell}
use Rattle.inline_tracker.specs.declared.seat.Seat.{Seat}
use Rattle.inline_tracker.specs.declared.run.Run.{Run}
use Rattle.inline_tracker.specs.Cells.{cell_of, cell_at}
use Rattle.inline_tracker.specs.Seats.{core_in, IsSeated}
use Rattle.inline_tracker.specs.Seen.{TrackerSeen}

-- a seat is this core, with this log
pub record Sits (budget : ℕ) (core : Core) (log : List Entry) (seat : Seat) : Type 0 where
  pub core_is : core_in seat ≡ core
  pub log_is : seat.log.items ≡ log
  pub seated : IsSeated budget seat

pub record StandsAlong (s : Setup) (order : List ℕ) (seats : List Seat) (cells : List Cell) (output : List ℕ) : Type 0 where
  pub playable : IsPlayable s order
  pub setup : IsSetup s
  pub count : length seats ≡ core_count s
  pub seats_are : (c : ℕ) (other : Seat) → c < length seats → Sits s.budget ((along s order).cores c) (log_along s order c) (slice_index_or seats c other)
  pub size : length cells ≡ words_of s.program.layout
  pub cells_are : (n : ℕ) → n < length cells → cell_of cells n ≡ cell_at ((along s order).words n)
  pub output_is : output ≡ bytes_in ((along s order).words 1).pieces

-- a run stands along its order, and has room for all units of all cores
pub record Stands (s : Setup) (run : Run) : Type 0 where
  pub along_order : StandsAlong s run.order.items run.seats.items run.cells.items run.output.items
  pub order_room : run.order.room ≡ core_count s * s.budget
  pub output_room : run.output.room ≡ 4 * (core_count s * s.budget)
  pub log_room : run.logs.room ≡ core_count s
  pub outcome_room : run.outcomes.room ≡ core_count s
  pub no_logs : run.logs.items ≡ []
  pub no_outcomes : run.outcomes.items ≡ []

-- core c at the end of the order so far
abbrev pub core_along : Setup → Run → ℕ → Core
core_along s run c = (along s run.order.items).cores c

abbrev pub tracker_at : Setup → Run → TrackerSeen
tracker_at s run = record { setup = s; order = run.order.items }

-- the first cores of a run, before their first units
pub record AreFirstSeats (s : Setup) (count : ℕ) (seats : List Seat) : Type 0 where
  pub count_is : length seats ≡ count
  pub sit : (c : ℕ) (other : Seat) → c < count → Sits s.budget (opening_core s c) [] (slice_index_or seats c other)

-- a unit that a core is to spend
pub record IsTurnOf (s : Setup) (run : Run) (c : ℕ) (unit : NextUnit) : Type 0 where
  pub core : c < length run.seats.items
  pub running : (core_along s run c).local.ending ≡ None
  pub next : IsNextUnit s.program (core_along s run c).local unit
