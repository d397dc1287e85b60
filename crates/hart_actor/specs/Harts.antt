-- What a contract sees of a hart actor, and of its parts at the end (this project's own).
use Rattle.std.specs.Prelude.{◌≡◌, ℕ, ◌+◌, Option, Some, None, List, [], ◌∷◌, ◌++◌, take, drop, length, option_to_list}
use Rattle.bounded_list.specs.Bounded.{Bounded}
use Rattle.record_lane.specs.declared.record.Record.{Record}
use Rattle.record_lane.specs.declared.record.Record.TheVariants.{End as EndRecord}
use Rattle.record_lane.specs.declared.reply.Reply.{Reply}
use Rattle.record_lane.specs.declared.note.CallNote.{CallNote}
use Rattle.record_lane.specs.declared.ring_token.RingSender.{RingSender}
use Rattle.record_lane.specs.declared.lane_token.Taker.{Taker}
use Rattle.ticket_table.specs.Passes.{PassSeen}
use Rattle.syscall_drain.specs.Programs.{Program}
use Rattle.syscall_drain.specs.Locals.{Local}
use Rattle.syscall_drain.specs.Pieces.{Piece}
use Rattle.order_core.specs.declared.entry.Entry.{Entry}
use Rattle.record_lane.specs.Rings.{sent_by}
use Rattle.record_lane.specs.Lanes.{taken_by}
use Rattle.syscall_drain.specs.declared.ask.Answer.{Answer}
use Rattle.actor_lists.specs.Walked.{HasRun}
use Rattle.hart_actor.specs.declared.parts.HartParts.{HartParts}
use Rattle.hart_actor.specs.declared.stage.Stage.{Stage}
use Rattle.hart_actor.specs.declared.stage.Stage.TheVariants.{Going, Meeting, Closed}

-- its program, budget and core, where the core is, the record that is ready and not sent, what it keeps, and its tokens
pub record Hart : Type 0 where
  pub program : Program
  pub budget : ℕ
  pub core : ℕ
  pub local : Local
  pub stage : Stage
  pub unsent : Option Record
  pub log : Bounded Entry
  pub notes : Bounded CallNote
  pub output : Bounded ℕ
  pub pieces : Bounded (ℕ × ℕ)
  pub pass : PassSeen
  pub sender : RingSender Record
  pub taker : Taker Reply

-- the record that is made ready before its unit is over, or after all units
abbrev pub ahead : Stage → List Record
ahead Going = []
ahead (Meeting item) = item ∷ []
ahead Closed = EndRecord ∷ []

-- bytes that lie end to end, cut into pieces by their places and lengths
unfoldable pub cut : List (ℕ × ℕ) → List ℕ → List Piece
cut [] bytes = []
cut (piece ∷ rest) bytes = record { place = piece.0; bytes = take piece.1 bytes } ∷ cut rest (drop piece.1 bytes)

-- the place and the length of the bytes that a unit put out
abbrev pub size_placed : Option ℕ → List ℕ → List (ℕ × ℕ)
size_placed None bytes = []
size_placed (Some place) bytes = (place, length bytes) ∷ []

-- how many bytes the pieces have together
unfoldable pub cut_length : List (ℕ × ℕ) → ℕ
cut_length [] = 0
cut_length (piece ∷ rest) = piece.1 + cut_length rest

-- the last record has been sent
pub record HasEnded (h : Hart) : Type 0 where
  pub closed : h.stage ≡ Closed
  pub sent : h.unsent ≡ None

-- its lists so far are those of a local run; what it has sent, and its unsent record behind that, are the records of its units and the one ahead of them
pub record GoesAlong (h : Hart) : Type 0 where
  pub answers : List Answer
  pub records : List Record
  pub has_run : HasRun h.program h.budget h.core h.pass.terms h.local h.log.items h.pass.changes records (taken_by h.taker) h.notes.items (cut h.pieces.items h.output.items) answers
  pub sent_is : sent_by h.sender ++ option_to_list h.unsent ≡ records ++ ahead h.stage
  pub whole : cut_length h.pieces.items ≡ length h.output.items

-- what an ended actor leaves: the lists of its whole local run, whose records and one last it has sent
pub record HartLeaves (h : Hart) (parts : HartParts) : Type 0 where
  pub answers : List Answer
  pub records : List Record
  pub has_run : HasRun h.program h.budget h.core h.pass.terms h.local parts.entries.items parts.pass.changes records (taken_by parts.taker) parts.notes.items (cut parts.pieces.items parts.output.items) answers
  pub sent : sent_by parts.sender ≡ records ++ EndRecord ∷ []
  pub ending : h.local.ending ≡ Some parts.end
  pub units : parts.units ≡ h.local.units
  pub whole : cut_length parts.pieces.items ≡ length parts.output.items
  pub caller : parts.pass.caller ≡ h.core
  pub kept : (parts.entries ≡ h.log) × (parts.notes ≡ h.notes) × (parts.output ≡ h.output) × (parts.pieces ≡ h.pieces)
  pub tokens : (parts.pass ≡ h.pass) × (parts.sender ≡ h.sender) × (parts.taker ≡ h.taker)
