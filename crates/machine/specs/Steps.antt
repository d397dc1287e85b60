-- The step: one unit of one core, which reads and writes that core and at most one word, data and tags together
-- (this project's own; memory is sequentially consistent, which RVWMO of the RISC-V Unprivileged ISA permits).
use Rattle.std.specs.Prelude.{ℕ, ◌+◌, Option, Some, None, List, [], ◌∷◌, ◌++◌, nat_le, if◌then◌else◌}
use Rattle.rv_execute.specs.declared.op.Op.{Op}
use Rattle.rv_execute.specs.declared.op.Op.TheVariants.{Read}
use Rattle.rv_execute.specs.declared.op.Taken.{Taken}
use Rattle.rv_execute.specs.Payloads.{changed}
use Rattle.record_lane.specs.declared.record.Record.{Record}
use Rattle.record_lane.specs.declared.record.Record.TheVariants.{Meet}
use Rattle.record_lane.specs.declared.note.CallNote.{CallNote}
use Rattle.tag_registers.specs.Tags.{Tags, tags_after, word_tag, reply_of}
use Rattle.syscall_drain.specs.declared.ask.CoreAsk.{CoreAsk}
use Rattle.syscall_drain.specs.declared.ask.CoreAsk.TheVariants.{Quiet as AsksNothing, Touch as Touches, Meet as Meets, Ended}
use Rattle.syscall_drain.specs.declared.ask.Answer.{Answer}
use Rattle.syscall_drain.specs.declared.ask.Answer.TheVariants.{Nothing, Taken as Took, Reply as Replied}
use Rattle.syscall_drain.specs.Units.{next_ask, answered, placed}
use Rattle.syscall_drain.specs.Records.{unit_record}
use Rattle.syscall_drain.specs.Pieces.{piece_at}
use Rattle.order_core.specs.SetAt.{set_at}
use Rattle.machine.specs.Setups.{Setup}
use Rattle.machine.specs.States.{Core, Word, State}

-- ---- one core by itself

-- what a unit finds outside its core: nothing, or what its access found and the tag there
pub data Finding : Type 0 where
  NoAccess : Finding
  Accessed : Taken → ℕ → Finding

abbrev pub access_answer : Finding → Answer
access_answer NoAccess = Nothing
access_answer (Accessed t tag) = Took t

abbrev pub tag_found : Finding → ℕ
tag_found NoAccess = 0
tag_found (Accessed t tag) = tag

abbrev pub record_given : Setup → Core → Finding → Record
record_given s c finding = unit_record s.program c.local (access_answer finding)

abbrev pub tags_given : Setup → Core → Finding → Tags
tags_given s c finding = tags_after s.policy c.tags (record_given s c finding) (tag_found finding)

-- the answer to what a unit asks: its access, or the reply of the tags after its row
abbrev pub answer_to : CoreAsk → Finding → Tags → Answer
answer_to AsksNothing finding after = Nothing
answer_to (Touches word op) finding after = access_answer finding
answer_to (Meets item) finding after = Replied (reply_of after)
answer_to Ended finding after = Nothing

-- a meeting leaves a note
abbrev pub note_of : Record → Tags → List CallNote
note_of (Meet step pc call kind) after =
    record { step = step; pc = pc; call = call; kind = kind; tags = (reply_of after).tags; buffer = (reply_of after).buffer; stop = (reply_of after).stop } ∷ []
note_of _ after = []

abbrev pub notes_of : CoreAsk → Tags → List CallNote
notes_of AsksNothing after = []
notes_of (Touches word op) after = []
notes_of (Meets item) after = note_of item after
notes_of Ended after = []

unfoldable pub core_given : Setup → Core → Finding → Core
core_given s c finding = record {
  local = answered s.program s.budget c.local (answer_to (next_ask s.program c.local) finding (tags_given s c finding));
  tags = tags_given s c finding;
  notes = c.notes ++ notes_of (next_ask s.program c.local) (tags_given s c finding);
}

-- ---- one core and one word

-- what an access to a word finds: its number is the count of accesses, and from the limit on it is spent
abbrev pub found_in : Setup → Word → Taken
found_in s w = record { number = w.count; old = w.payload; spent = nat_le s.limit w.count }

abbrev pub word_asked : CoreAsk → Option ℕ
word_asked AsksNothing = None
word_asked (Touches word op) = Some word
word_asked (Meets item) = None
word_asked Ended = None

abbrev pub op_asked : CoreAsk → Op
op_asked AsksNothing = Read
op_asked (Touches word op) = op
op_asked (Meets item) = Read
op_asked Ended = Read

-- the word that the next unit of a core touches
unfoldable pub touched : Setup → Core → Option ℕ
touched s c = word_asked (next_ask s.program c.local)

-- the core after a unit that touches none, and after one that finds this word
unfoldable pub quiet : Setup → Core → Core
quiet s c = core_given s c NoAccess

unfoldable pub took : Setup → Core → Word → Core
took s c w = core_given s c (Accessed (found_in s w) w.tag)

abbrev pub word_changed : Setup → Core → Word → Word
word_changed s c w = record {
  count = w.count + 1;
  payload = changed (op_asked (next_ask s.program c.local)) w.count w.payload;
  tag = word_tag s.policy c.tags (record_given s c (Accessed (found_in s w) w.tag)) w.tag;
  pieces = w.pieces ++ piece_at (placed s.program c.local (Took (found_in s w))) c.local.gathered;
}

-- the word after the access: a spent one raises the count alone
unfoldable pub left : Setup → Core → Word → Word
left s c w = if (found_in s w).spent then record w { count = w.count + 1 } else word_changed s c w

-- ---- the machine

abbrev pub step_by : Setup → State → ℕ → Option ℕ → State
step_by s t c None = record t { cores = set_at t.cores c (quiet s (t.cores c)) }
step_by s t c (Some n) = record {
  cores = set_at t.cores c (took s (t.cores c) (t.words n));
  words = set_at t.words n (left s (t.cores c) (t.words n));
}

unfoldable pub step : Setup → State → ℕ → State
step s t c = step_by s t c (touched s (t.cores c))
