-- Pieces of output that follow one another make the output: their bytes end to end.
use Rattle.std.proofs.Common.{◌≡◌, ℕ, ◌+◌, ◌-◌, ◌<◌, ◌≤◌, true, false, List, [], ◌∷◌, ◌++◌, length, get_or, refl, sym, ◌∙◌, arith, add-zero, append_assoc, append-nil, length-append, ⊎_elim}
use Rattle.std.proofs.lemmas.List.{get_or_append_left, get_or-append_right}
use Rattle.std.proofs.lemmas.List.FromFn.{fill_by_all}
use Rattle.std.proofs.lemmas.Bool.{cases_lt}
use Rattle.std.proofs.lemmas.Bool.Decides.{nat_tests}
use Rattle.syscall_drain.specs.Pieces.{Piece}
use Rattle.machine.specs.States.{Word}
use Rattle.machine.specs.Outcomes.{has_place, bytes_in, output_byte, output_of}

-- the first piece stands at this place, and each other where the one before ends
abbrev pub FollowFrom : ℕ → List Piece → Type 0
FollowFrom place [] = Unit {0}
FollowFrom place (piece ∷ pieces) = (piece.place ≡ place) × FollowFrom (place + length piece.bytes) pieces

pub bytes_in_more : (pieces : List Piece) (piece : Piece) → bytes_in (pieces ++ piece ∷ []) ≡ bytes_in pieces ++ piece.bytes
bytes_in_more [] piece = append-nil piece.bytes
bytes_in_more (first ∷ pieces) piece = rw (bytes_in_more pieces piece) (sym (append_assoc first.bytes (bytes_in pieces) piece.bytes))

pub follow_more : (pieces : List Piece) (place : ℕ) (piece : Piece) → FollowFrom place pieces → piece.place ≡ place + length (bytes_in pieces) → FollowFrom place (pieces ++ piece ∷ [])
follow_more [] place piece f e = (e ∙ add-zero place, tt)
follow_more (first ∷ pieces) place piece f e =
    (f.0, follow_more pieces (place + length first.bytes) piece f.1 (omega (arith, e, length-append first.bytes (bytes_in pieces))))

holds_here : (piece : Piece) (place k : ℕ) → piece.place ≡ place → k < length piece.bytes → has_place piece (place + k) ≡ true
holds_here piece place k e h = grind (arith, nat_tests)

holds_later : (piece : Piece) (place k : ℕ) → piece.place ≡ place → length piece.bytes ≤ k → has_place piece (place + k) ≡ false
holds_later piece place k e h = grind (arith, nat_tests)

abbrev ByteIs : List Piece → ℕ → ℕ → Type 0
ByteIs pieces place k = output_byte pieces (place + k) ≡ get_or (bytes_in pieces) k 0

byte_here : (piece : Piece) (pieces : List Piece) (place k : ℕ) → piece.place ≡ place → k < length piece.bytes → ByteIs (piece ∷ pieces) place k
byte_here piece pieces place k e h =
    let same : place + k - piece.place ≡ k = omega (arith, e) in
    rw (holds_here piece place k e h, same, get_or_append_left piece.bytes (bytes_in pieces) 0 k h) refl

byte_later : (piece : Piece) (pieces : List Piece) (place k : ℕ) → piece.place ≡ place → length piece.bytes ≤ k → ByteIs pieces (place + length piece.bytes) (k - length piece.bytes) → ByteIs (piece ∷ pieces) place k
byte_later piece pieces place k e h rest =
    let same : place + length piece.bytes + (k - length piece.bytes) ≡ place + k = omega arith in
    rw (holds_later piece place k e h, get_or-append_right piece.bytes (bytes_in pieces) (length piece.bytes) k 0 refl h) (rw same at rest)

byte_joined : (pieces : List Piece) (place k : ℕ) → FollowFrom place pieces → k < length (bytes_in pieces) → ByteIs pieces place k
byte_joined [] place k f h = absurd (omega arith)
byte_joined (piece ∷ pieces) place k f h =
    ⊎_elim
    (λ (here : k < length piece.bytes). byte_here piece pieces place k f.0 here)
    (λ (later : length piece.bytes ≤ k). byte_later piece pieces place k f.0 later
    (byte_joined pieces (place + length piece.bytes) (k - length piece.bytes) f.1 (omega (arith, length-append piece.bytes (bytes_in pieces)))))
    (cases_lt k (length piece.bytes))

pub output_joined : (w : Word) → FollowFrom 0 w.pieces → w.payload ≡ length (bytes_in w.pieces) → output_of w ≡ bytes_in w.pieces
output_joined w f e =
    rw e (sym (fill_by_all (output_byte w.pieces) (bytes_in w.pieces) (length (bytes_in w.pieces)) 0 refl (λ k h. sym (at_place k h))))
  where
    at_place : (k : ℕ) → k < length (bytes_in w.pieces) → output_byte w.pieces k ≡ get_or (bytes_in w.pieces) k 0
    at_place k h = let zero_add : 0 + k ≡ k = omega arith in rw zero_add at (byte_joined w.pieces 0 k f h)
