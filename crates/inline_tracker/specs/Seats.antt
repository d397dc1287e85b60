-- Proof form: one core of the tracker, the core of the machine that it stands for, and the room that it has.
use Rattle.std.specs.Prelude.{◌≡◌, ℕ, ◌<◌, IsSome, slice_index_or, List, [], ◌∷◌, ◌++◌, length, Option, Some, None, option_to_list}
use Rattle.bounded_list.specs.Bounded.{Bounded}
use Rattle.record_lane.specs.declared.note.CallNote.{CallNote}
use Rattle.record_lane.specs.declared.record.Record.{Record}
use Rattle.record_lane.specs.declared.record.Record.TheVariants.{Meet}
use Rattle.record_lane.specs.declared.reply.Reply.{Reply}
use Rattle.record_lane.specs.declared.reply.Trap.{Trap}
use Rattle.tag_registers.specs.Files.{tags_in}
use Rattle.syscall_drain.specs.declared.end.End.{End}
use Rattle.syscall_drain.specs.Locals.{Local}
use Rattle.syscall_drain.specs.Seen.{local_of, budget_of}
use Rattle.order_core.specs.declared.entry.Entry.{Entry}
use Rattle.machine.specs.States.{Core}
use Rattle.inline_tracker.specs.declared.finished.CoreOutcome.{CoreOutcome}
use Rattle.inline_tracker.specs.declared.seat.Seat.{Seat}

abbrev pub local_in : Seat → Local
local_in seat = local_of seat.state

-- the notes stand with the core until it ends, and then in its outcome
abbrev pub notes_held : Option (Bounded CallNote) → Option CoreOutcome → List CallNote
notes_held (Some notes) outcome = notes.items
notes_held None (Some outcome) = outcome.notes.items
notes_held None None = []

abbrev pub core_in : Seat → Core
core_in seat = record { local = local_in seat; tags = tags_in seat.tags; notes = notes_held seat.notes seat.outcome }

-- a core that goes on has its notes, with room for its budget, and one that has ended its outcome
abbrev pub Holds : ℕ → ℕ → Option Trap → Option End → Option (Bounded CallNote) → Option CoreOutcome → Type 0
Holds budget units trap None (Some notes) None = notes.room ≡ budget
Holds budget units trap (Some end) None (Some outcome) = (outcome.end ≡ end) × (outcome.units ≡ units) × (outcome.trap ≡ trap)
Holds budget units trap ending notes outcome = ⊥

pub record IsSeated (budget : ℕ) (seat : Seat) : Type 0 where
  pub budget_is : budget_of seat.state ≡ budget
  pub log_room : seat.log.room ≡ budget
  pub log_size : length seat.log.items ≡ (local_in seat).units
  pub holds : Holds budget (local_in seat).units (tags_in seat.tags).trap (local_in seat).ending seat.notes seat.outcome

-- every core has ended, and some core has not
abbrev pub HaveEnded : List Seat → Type 0
HaveEnded seats = (c : ℕ) (other : Seat) → c < length seats → IsSome (local_in (slice_index_or seats c other)).ending

-- so each has its outcome
abbrev pub AreOver : List Seat → Type 0
AreOver seats = (c : ℕ) (other : Seat) → c < length seats → IsSome (slice_index_or seats c other).outcome

pub record SomeGoesOn (seats : List Seat) : Type 0 where
  pub core : ℕ
  pub within : core < length seats
  pub running : (other : Seat) → (local_in (slice_index_or seats core other)).ending ≡ None

-- ---- what becomes of a seat in one unit

-- a core that goes on has its notes, with this room
abbrev pub IsOpen : ℕ → Option (Bounded CallNote) → Option CoreOutcome → Type 0
IsOpen budget (Some notes) None = notes.room ≡ budget
IsOpen budget notes outcome = ⊥

-- its unit is spent and logged, and the rest is as it was
pub record SameButSpent (old new : Seat) (entry : Entry) : Type 0 where
  pub log : new.log ≡ record old.log { items = old.log.items ++ entry ∷ [] }
  pub tags : new.tags ≡ old.tags
  pub notes : new.notes ≡ old.notes
  pub outcome : new.outcome ≡ old.outcome

-- its notes may have gone into its outcome
pub record SameButClosed (old new : Seat) : Type 0 where
  pub state : new.state ≡ old.state
  pub tags : new.tags ≡ old.tags
  pub log : new.log ≡ old.log
  pub notes : notes_held new.notes new.outcome ≡ notes_held old.notes old.outcome

-- the note of a meeting with this reply
abbrev pub note_by : Record → Reply → List CallNote
note_by (Meet step pc call kind) reply =
    record { step = step; pc = pc; call = call; kind = kind; tags = reply.tags; buffer = reply.buffer; stop = reply.stop } ∷ []
note_by _ reply = []

abbrev pub noted : Option (Bounded CallNote) → Option CallNote → Option (Bounded CallNote)
noted None added = None
noted (Some notes) added = Some (record notes { items = notes.items ++ option_to_list added })
