-- A run in parts: each core as a local run and as a fold of its records, and each word as a history of payloads and one of tags.
use Rattle.std.proofs.Common.{◌≡◌, ℕ, suc, List, [], ◌∷◌, ◌++◌, All, if◌then◌else◌, nat_le}
use Rattle.rv_execute.specs.declared.op.Op.{Op}
use Rattle.rv_execute.specs.declared.op.Taken.{Taken}
use Rattle.rv_execute.specs.Payloads.{changed}
use Rattle.record_lane.specs.declared.note.CallNote.{CallNote}
use Rattle.tag_policy.specs.Rules.{PolicySeen}
use Rattle.tag_registers.specs.Tags.{Tags, tags_after, word_tag, reply_of}
use Rattle.tag_registers.specs.Folds.{Given, tags_fold, folded}
use Rattle.syscall_drain.specs.declared.ask.CoreAsk.{CoreAsk}
use Rattle.syscall_drain.specs.declared.ask.CoreAsk.TheVariants.{Touch as Touches}
use Rattle.syscall_drain.specs.declared.ask.Answer.{Answer}
use Rattle.syscall_drain.specs.declared.ask.Answer.TheVariants.{Nothing, Taken as Took, Reply as Replied}
use Rattle.syscall_drain.specs.Units.{FitsAsk, next_ask, answered, placed}
use Rattle.syscall_drain.specs.Records.{unit_record}
use Rattle.syscall_drain.specs.Runs.{local_after}
use Rattle.syscall_drain.specs.Pieces.{Piece, piece_at}
use Rattle.order_core.specs.declared.entry.Entry.{Entry}
use Rattle.actor_lists.specs.Walked.{access_by}
use Rattle.machine.specs.Setups.{Setup}
use Rattle.machine.specs.States.{Core, Word}
use Rattle.machine.specs.Steps.{Finding, NoAccess, Accessed, note_of}
use Rattle.machine.proofs.Histories.{History, IsAlike}

-- ---- one unit of a core

-- what a unit with this answer finds, where its access found this tag
abbrev pub finding_of : Answer → ℕ → Finding
finding_of Nothing found = NoAccess
finding_of (Took t) found = Accessed t found
finding_of (Replied reply) found = NoAccess

-- with no access the tag found is 0, and a reply is that of the tags after the unit
abbrev pub AgreesWith : Answer → ℕ → Tags → Type 0
AgreesWith Nothing found after = found ≡ 0
AgreesWith (Took t) found after = Unit {0}
AgreesWith (Replied reply) found after = (found ≡ 0) × (reply ≡ reply_of after)

-- an answer to the unit of a core, and its record with the tag found
pub record AreParts (s : Setup) (core : Core) (answer : Answer) (given : Given) : Type 0 where
  pub fits : FitsAsk (next_ask s.program core.local) answer
  pub item : given.item ≡ unit_record s.program core.local answer
  pub agrees : AgreesWith answer given.found (tags_after s.policy core.tags given.item given.found)

-- the core after the unit: its local part by the answer, its tags and its note by the record
abbrev pub core_of_parts : Setup → Core → Answer → Given → Core
core_of_parts s core answer given = record {
  local = answered s.program s.budget core.local answer;
  tags = tags_after s.policy core.tags given.item given.found;
  notes = core.notes ++ note_of given.item (tags_after s.policy core.tags given.item given.found);
}

-- ---- one access to a word

-- a history of payloads and one of tags, of the same numbers
pub record WordParts : Type 0 where
  pub payloads : ℕ → ℕ → ℕ
  pub tags : ℕ → ℕ → ℕ

abbrev pub history_in : WordParts → History
history_in words n k = record { count = k; payload = words.payloads n k; tag = words.tags n k; pieces = [] }

-- a word of the machine beside it: alike, and each piece claimed on it stands in the output
pub record IsNear (InOutput : Piece → Type 0) (word other : Word) : Type 0 where
  pub alike : IsAlike word other
  pub pieces : All InOutput word.pieces

-- both histories have what the access found and what it left
pub record StandsInBoth (s : Setup) (words : WordParts) (InOutput : Piece → Type 0) (core : Core) (given : Given) (word : ℕ) (op : Op) (t : Taken) : Type 0 where
  pub spent : t.spent ≡ nat_le s.limit t.number
  pub payload : words.payloads word t.number ≡ t.old
  pub payload_left : words.payloads word (suc t.number) ≡ (if t.spent then t.old else changed op t.number t.old)
  pub tag : words.tags word t.number ≡ given.found
  pub tag_left : words.tags word (suc t.number) ≡ word_tag s.policy core.tags given.item given.found
  pub pieces : All InOutput (piece_at (placed s.program core.local (Took t)) core.local.gathered)

abbrev pub StandsBy : Setup → WordParts → (Piece → Type 0) → Core → Given → CoreAsk → Answer → Type 0
StandsBy s words InOutput core given (Touches word op) (Took t) = StandsInBoth s words InOutput core given word op t
StandsBy s words InOutput core given _ _ = Unit {0}

-- ---- all units of a core

pub record IsPartedUnit (s : Setup) (words : WordParts) (InOutput : Piece → Type 0) (core : Core) (answer : Answer) (given : Given) (entry : Entry) : Type 0 where
  pub parts : AreParts s core answer given
  pub stands : StandsBy s words InOutput core given (next_ask s.program core.local) answer
  pub touch : entry.touch ≡ access_by (next_ask s.program core.local) answer

-- the answers, the records and the log of a core, unit by unit
unfoldable pub IsPartedRun : Setup → WordParts → (Piece → Type 0) → Core → List Answer → List Given → List Entry → Type 0
IsPartedRun s words InOutput core [] [] [] = Unit {0}
IsPartedRun s words InOutput core (answer ∷ answers) (given ∷ givens) (entry ∷ entries) =
    IsPartedUnit s words InOutput core answer given entry × IsPartedRun s words InOutput (core_of_parts s core answer given) answers givens entries
IsPartedRun s words InOutput core _ _ _ = ⊥

-- the notes of a list of records
abbrev pub notes_by : PolicySeen → Tags → List Given → List CallNote
notes_by = folded (λ policy tags given. note_of given.item (tags_after policy tags given.item given.found))

-- the core at the end of its lists
abbrev pub core_of_lists : Setup → Core → List Answer → List Given → Core
core_of_lists s core answers givens = record {
  local = local_after s.program s.budget core.local answers;
  tags = tags_fold s.policy core.tags givens;
  notes = core.notes ++ notes_by s.policy core.tags givens;
}
