-- Runs by histories: a history says what each word is when so many accesses of it came before, and a core goes along its own log over what its accesses find there.
use Rattle.std.proofs.Common.{◌≡◌, ℕ, suc, ◌<◌, Option, Some, None, IfSome, List, [], ◌∷◌}
use Rattle.order_core.specs.declared.entry.Access.{Access}
use Rattle.order_core.specs.declared.entry.Entry.{Entry}
use Rattle.order_core.specs.Marked.{Marked, marks_of, part_of}
use Rattle.machine.specs.Setups.{Setup, core_count}
use Rattle.machine.specs.States.{Core, Word, State}
use Rattle.machine.specs.Steps.{Finding, NoAccess, Accessed, core_given, found_in, touched, left}
use Rattle.machine.specs.Runs.{run, IsPlayableFrom, entries_from}

-- the word with this number, when this many accesses of it came before
abbrev pub History : Type 0
History = ℕ → ℕ → Word

-- what a unit with this access finds
abbrev pub found_at : Setup → History → Option Access → Finding
found_at s history None = NoAccess
found_at s history (Some a) = Accessed (found_in s (history a.word a.number)) (history a.word a.number).tag

abbrev pub core_next : Setup → History → Core → Entry → Core
core_next s history core entry = core_given s core (found_at s history entry.touch)

-- the core at the end of a log
unfoldable pub core_after : Setup → History → Core → List Entry → Core
core_after s history core [] = core
core_after s history core (entry ∷ entries) = core_after s history (core_next s history core entry) entries

-- ---- which logs a core can go along; below, `Same` says how near a word of a run is to that of the history

-- what a unit of this core finds is in the history, and what it leaves comes next there
pub record IsInHistory (s : Setup) (Same : Word → Word → Type 0) (history : History) (core : Core) (a : Access) : Type 0 where
  pub count : (history a.word a.number).count ≡ a.number
  pub payload : (history a.word a.number).payload ≡ a.found
  pub after : (word : Word) → Same word (history a.word a.number) → Same (left s core word) (history a.word (suc a.number))

abbrev pub word_in : Option Access → Option ℕ
word_in None = None
word_in (Some a) = Some a.word

-- the next unit of a core that has not ended makes this entry
pub record MakesEntry (s : Setup) (Same : Word → Word → Type 0) (history : History) (c : ℕ) (core : Core) (entry : Entry) : Type 0 where
  pub within : c < core_count s
  pub running : core.local.ending ≡ None
  pub touches : touched s core ≡ word_in entry.touch
  pub found : IfSome entry.touch (IsInHistory s Same history core)

unfoldable pub IsCoreRun : Setup → (Word → Word → Type 0) → History → ℕ → Core → List Entry → Type 0
IsCoreRun s Same history c core [] = Unit {0}
IsCoreRun s Same history c core (entry ∷ entries) =
    MakesEntry s Same history c core entry × IsCoreRun s Same history c (core_next s history core entry) entries

-- ---- a run over a history

-- two words that a unit cannot tell apart
pub record IsAlike (word other : Word) : Type 0 where
  pub count : word.count ≡ other.count
  pub payload : word.payload ≡ other.payload
  pub tag : word.tag ≡ other.tag

-- each word of the state is that of the history
abbrev pub StandsIn : (Word → Word → Type 0) → History → State → Type 0
StandsIn Same history t = (n : ℕ) → Same (t.words n) (history n (t.words n).count)

-- the marked entries are those of a run from this state, which leads each core along its part
pub record IsComposed (s : Setup) (Same : Word → Word → Type 0) (history : History) (t : State) (marked : List Marked) : Type 0 where
  pub playable : IsPlayableFrom s t (marks_of marked)
  pub entries : entries_from s t (marks_of marked) ≡ marked
  pub cores : (c : ℕ) → (run s t (marks_of marked)).cores c ≡ core_after s history (t.cores c) (part_of c marked)
  pub stands : StandsIn Same history (run s t (marks_of marked))
