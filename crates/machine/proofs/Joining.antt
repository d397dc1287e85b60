-- The parts of all cores, over one history of payloads and one of tags, make one run of the setup with its output.
use Rattle.std.proofs.Common.{◌≡◌, ◌⊎◌, ℕ, suc, ◌+◌, ◌-◌, ◌<◌, ◌≤◌, List, [], ◌∷◌, All, length, refl, sym, ap, ◌∙◌, inl, inr, arith, length-append, ext_get_or}
use Rattle.std.specs.Prelude.{slice_index}
use Rattle.std.proofs.lemmas.Bool.{cases_lt}
use Rattle.std.proofs.lemmas.List.{get_or_append_left, get_or-append_right}
use Rattle.elf_image.specs.Layout.{first_word}
use Rattle.tag_registers.specs.Folds.{Given}
use Rattle.syscall_drain.specs.declared.ask.Answer.{Answer}
use Rattle.syscall_drain.specs.Pieces.{Piece}
use Rattle.order_core.specs.declared.entry.Entry.{Entry}
use Rattle.order_core.specs.Marked.{Marked, marks_of, part_of, numbers_of}
use Rattle.order_core.specs.LegalMerge.{CountUpFrom}
use Rattle.machine.specs.Setups.{Setup, IsSetup, core_count}
use Rattle.machine.specs.States.{Core, Word, opening, opening_core}
use Rattle.machine.specs.Runs.{along, entries, IsPlayable}
use Rattle.machine.specs.Outcomes.{bytes_in, output}
use Rattle.machine.proofs.Output.{FollowFrom, output_joined}
use Rattle.machine.proofs.Along.{at_along}
use Rattle.machine.proofs.Histories.{IsCoreRun, IsComposed}
use Rattle.machine.proofs.Composing.{compose}
use Rattle.machine.proofs.Parts.{WordParts, history_in, IsNear, IsPartedRun, core_of_lists}
use Rattle.machine.proofs.Splitting.{parted_run, opening_stands}

-- ---- the run

-- the lists of each core
pub record CoreParts : Type 0 where
  pub answers : ℕ → List Answer
  pub givens : ℕ → List Given

-- marked entries whose parts are the logs of cores that go along both histories
pub record AreParted (s : Setup) (words : WordParts) (InOutput : Piece → Type 0) (cores : CoreParts) (marked : List Marked) : Type 0 where
  pub first : (n : ℕ) → words.payloads n 0 ≡ first_word s.program.layout n
  pub untagged : (n : ℕ) → words.tags n 0 ≡ 0
  pub numbers : (n : ℕ) → CountUpFrom 0 (numbers_of n marked)
  pub runs : (c : ℕ) → c < core_count s → IsPartedRun s words InOutput (opening_core s c) (cores.answers c) (cores.givens c) (part_of c marked)
  pub others : (c : ℕ) → core_count s ≤ c → part_of c marked ≡ []

-- the run along their cores
pub record AreRun (s : Setup) (words : WordParts) (InOutput : Piece → Type 0) (cores : CoreParts) (marked : List Marked) : Type 0 where
  pub playable : IsPlayable s (marks_of marked)
  pub entries_are : entries s (marks_of marked) ≡ marked
  pub cores_are : (c : ℕ) → c < core_count s → (along s (marks_of marked)).cores c ≡ core_of_lists s (opening_core s c) (cores.answers c) (cores.givens c)
  pub words_are : (n : ℕ) → IsNear InOutput ((along s (marks_of marked)).words n) (history_in words n ((along s (marks_of marked)).words n).count)

no_run : (s : Setup) (Same : Word → Word → Type 0) (history : ℕ → ℕ → Word) (c : ℕ) (core : Core) (entries : List Entry) → entries ≡ []
    → IsCoreRun s Same history c core entries
unfolding IsCoreRun
no_run s Same history c core [] none = tt
no_run s Same history c core (entry ∷ entries) none = absurd (cc)

pub parts_run : (s : Setup) (words : WordParts) (InOutput : Piece → Type 0) (cores : CoreParts) (marked : List Marked)
    → AreParted s words InOutput cores marked → AreRun s words InOutput cores marked
parts_run s words InOutput cores marked parted = record {
  playable = composed.playable;
  entries_are = composed.entries;
  cores_are =
      λ c below. composed.cores c ∙ (parted_run s words InOutput c (opening_core s c) (cores.answers c) (cores.givens c) (part_of c marked) below (parted.runs c below)).after;
  words_are = composed.stands;
}
  where
    going : (c : ℕ) → (c < core_count s) ⊎ (core_count s ≤ c) → IsCoreRun s (IsNear InOutput) (history_in words) c (opening_core s c) (part_of c marked)
    going c (inl below) = (parted_run s words InOutput c (opening_core s c) (cores.answers c) (cores.givens c) (part_of c marked) below (parted.runs c below)).going
    going c (inr past) = no_run s (IsNear InOutput) (history_in words) c (opening_core s c) (part_of c marked) (parted.others c past)

    composed : IsComposed s (IsNear InOutput) (history_in words) (opening s) marked
    composed =
        compose s (IsNear InOutput) (λ word other near. near.alike) (history_in words) marked (opening s) (opening_stands s words InOutput parted.first parted.untagged) parted.numbers (λ c. going c (cases_lt c (core_count s)))

-- ---- its output

-- the bytes of the piece stand at its place
abbrev pub IsPieceOf : List ℕ → Piece → Type 0
IsPieceOf out piece = (k : ℕ) → k < length piece.bytes → slice_index out (piece.place + k) ≡ slice_index piece.bytes k

piece_byte : (out : List ℕ) (piece : Piece) (pieces : List Piece) (place k : ℕ) → piece.place ≡ place → IsPieceOf out piece → k < length piece.bytes
    → slice_index out (place + k) ≡ slice_index (bytes_in (piece ∷ pieces)) k
piece_byte out piece pieces place k e stands below =
    ap (λ (p : ℕ). slice_index out (p + k)) (sym e) ∙ stands k below ∙ sym (get_or_append_left piece.bytes (bytes_in pieces) 0 k below)

later_byte : (out : List ℕ) (piece : Piece) (pieces : List Piece) (place k : ℕ) → length piece.bytes ≤ k
    → slice_index out (place + length piece.bytes + (k - length piece.bytes)) ≡ slice_index (bytes_in pieces) (k - length piece.bytes)
    → slice_index out (place + k) ≡ slice_index (bytes_in (piece ∷ pieces)) k
later_byte out piece pieces place k past rest =
    let same : place + k ≡ place + length piece.bytes + (k - length piece.bytes) = omega arith in
    ap (slice_index out) same ∙ rest ∙ sym (get_or-append_right piece.bytes (bytes_in pieces) (length piece.bytes) k 0 refl past)

byte_of_piece : (out : List ℕ) (pieces : List Piece) (place k : ℕ) → FollowFrom place pieces → All (IsPieceOf out) pieces → k < length (bytes_in pieces)
    → slice_index out (place + k) ≡ slice_index (bytes_in pieces) k
byte_of_piece out [] place k follow all below = absurd (omega arith)
byte_of_piece out (piece ∷ pieces) place k follow all below =
    by_place (cases_lt k (length piece.bytes))
    (λ past. byte_of_piece out pieces (place + length piece.bytes) (k - length piece.bytes) follow.1 (λ j d within. all (suc j) d (omega arith)) (omega (arith, length-append piece.bytes (bytes_in pieces))))
  where
    by_place : (k < length piece.bytes) ⊎ (length piece.bytes ≤ k)
        → (length piece.bytes ≤ k → slice_index out (place + length piece.bytes + (k - length piece.bytes)) ≡ slice_index (bytes_in pieces) (k - length piece.bytes))
        → slice_index out (place + k) ≡ slice_index (bytes_in (piece ∷ pieces)) k
    by_place (inl here) rest = piece_byte out piece pieces place k follow.0 (all 0 piece (omega arith)) here
    by_place (inr past) rest = later_byte out piece pieces place k past (rest past)

-- bytes as long as the output in which each of its pieces stands are the output
pub output_is : (s : Setup) → IsSetup s → (order : List ℕ) → IsPlayable s order → (out : List ℕ) → All (IsPieceOf out) ((along s order).words 1).pieces
    → length out ≡ ((along s order).words 1).payload → output (along s order) ≡ out
unfolding output
output_is s setup order playable out all size =
    let word : Word = (along s order).words 1 in
    let written = (at_along s setup order playable).written in
    output_joined word written.follow written.written
    ∙ ext_get_or 0 (bytes_in word.pieces) out (sym written.written ∙ sym size) (λ k below. sym (at_place k below))
  where
    at_place : (k : ℕ) → k < length (bytes_in ((along s order).words 1).pieces) → slice_index out k ≡ slice_index (bytes_in ((along s order).words 1).pieces) k
    at_place k below =
        let none : k ≡ 0 + k = omega arith in
        ap (slice_index out) none ∙ byte_of_piece out ((along s order).words 1).pieces 0 k ((at_along s setup order playable).written).follow all below
