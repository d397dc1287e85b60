-- What the units of one core give along a list of answers: its log, its records, what it drew, the replies that it took, its notes, and its pieces of output (this project's own).
use Rattle.std.specs.Prelude.{◌≡◌, ℕ, nat_le, All, Option, Some, None, List, [], ◌∷◌, ◌++◌}
use Rattle.record_lane.specs.declared.record.Record.{Record}
use Rattle.record_lane.specs.declared.record.Record.TheVariants.{Meet}
use Rattle.record_lane.specs.declared.reply.Reply.{Reply}
use Rattle.record_lane.specs.declared.note.CallNote.{CallNote}
use Rattle.ticket_table.specs.declared.change.Terms.{Terms}
use Rattle.ticket_table.specs.declared.change.Change.{Change}
use Rattle.ticket_table.specs.History.{made}
use Rattle.syscall_drain.specs.Programs.{Program}
use Rattle.syscall_drain.specs.Locals.{Local, opening_local}
use Rattle.syscall_drain.specs.Units.{next_ask, answered, placed}
use Rattle.syscall_drain.specs.Records.{unit_record}
use Rattle.syscall_drain.specs.Runs.{local_after, IsLocalRun}
use Rattle.syscall_drain.specs.Pieces.{Piece, piece_at}
use Rattle.syscall_drain.specs.declared.ask.CoreAsk.{CoreAsk}
use Rattle.syscall_drain.specs.declared.ask.CoreAsk.TheVariants.{Touch as Touches, Meet as Meets}
use Rattle.syscall_drain.specs.declared.ask.Answer.{Answer}
use Rattle.syscall_drain.specs.declared.ask.Answer.TheVariants.{Nothing, Taken as Took, Reply as Replied}
use Rattle.order_core.specs.declared.entry.Access.{Access}
use Rattle.order_core.specs.declared.entry.Entry.{Entry}

-- ---- one unit

-- the access of a unit that asked this and was answered so
abbrev pub access_by : CoreAsk → Answer → Option Access
access_by (Touches word op) (Took t) = Some (record { word = word; number = t.number; found = t.old })
access_by _ _ = None

-- the change that it made of its word, as this caller
abbrev pub draw_by : Terms → ℕ → CoreAsk → Answer → List Change
draw_by terms caller (Touches word op) (Took t) = made terms caller word t.number op t.old ∷ []
draw_by terms caller _ _ = []

abbrev pub reply_in : Answer → List Reply
reply_in Nothing = []
reply_in (Took t) = []
reply_in (Replied reply) = reply ∷ []

-- the note of a meeting with this record
abbrev pub note_of : Record → Reply → List CallNote
note_of (Meet step pc call kind) reply = record { step = step; pc = pc; call = call; kind = kind; tags = reply.tags; buffer = reply.buffer; stop = reply.stop } ∷ []
note_of _ reply = []

abbrev pub note_by : CoreAsk → Answer → List CallNote
note_by (Meets item) (Replied reply) = note_of item reply
note_by _ _ = []

-- an access was told that it is spent exactly where its number is at or above the limit
abbrev pub SaysSpent : ℕ → Answer → Type 0
SaysSpent limit Nothing = Unit {0}
SaysSpent limit (Took t) = t.spent ≡ nat_le limit t.number
SaysSpent limit (Replied reply) = Unit {0}

-- ---- all units

-- what each unit gives, of the core before it and its answer
unfoldable pub walked : {A : Type 0} → (Program → Local → Answer → List A) → Program → ℕ → Local → List Answer → List A
walked each program budget l [] = []
walked each program budget l (answer ∷ rest) = each program l answer ++ walked each program budget (answered program budget l answer) rest

-- one entry for each unit
abbrev pub log_by : Program → ℕ → Local → List Answer → List Entry
log_by = walked (λ program l answer. record { touch = access_by (next_ask program l) answer } ∷ [])

-- one record for each unit
abbrev pub records_by : Program → ℕ → Local → List Answer → List Record
records_by = walked (λ program l answer. unit_record program l answer ∷ [])

-- one change of a word for each access
abbrev pub draws_by : Terms → ℕ → Program → ℕ → Local → List Answer → List Change
draws_by terms caller = walked (λ program l answer. draw_by terms caller (next_ask program l) answer)

-- one reply and one note for each meeting
abbrev pub replies_by : Program → ℕ → Local → List Answer → List Reply
replies_by = walked (λ program l answer. reply_in answer)

abbrev pub notes_by : Program → ℕ → Local → List Answer → List CallNote
notes_by = walked (λ program l answer. note_by (next_ask program l) answer)

-- one piece for each claim on the output that is not spent
abbrev pub claims_by : Program → ℕ → Local → List Answer → List Piece
claims_by = walked (λ program l answer. piece_at (placed program l answer) l.gathered)

-- the lists of a core's local run along these answers: it draws as its own number under these terms, and stands at `local`
pub record HasRun (program : Program) (budget core : ℕ) (terms : Terms) (local : Local) (log : List Entry) (drawn : List Change) (records : List Record) (replies : List Reply) (notes : List CallNote) (claims : List Piece) (answers : List Answer) : Type 0 where
  pub run : IsLocalRun program budget (opening_local program core) answers
  pub told : All (SaysSpent terms.limit) answers
  pub local_is : local ≡ local_after program budget (opening_local program core) answers
  pub log_is : log ≡ log_by program budget (opening_local program core) answers
  pub drawn_is : drawn ≡ draws_by terms core program budget (opening_local program core) answers
  pub records_are : records ≡ records_by program budget (opening_local program core) answers
  pub replies_are : replies ≡ replies_by program budget (opening_local program core) answers
  pub notes_are : notes ≡ notes_by program budget (opening_local program core) answers
  pub claims_are : claims ≡ claims_by program budget (opening_local program core) answers
