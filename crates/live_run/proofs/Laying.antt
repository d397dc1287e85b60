-- Pieces that lie apart all stand where they are put, in whatever order that is done.
use Rattle.std.proofs.Common.{◌≡◌, ℕ, suc, ◌+◌, ◌-◌, ◌<◌, ◌≤◌, List, [], ◌∷◌, ◌++◌, take, drop, length, refl, sym, ap, ap₂, ◌∙◌, subst, inl, inr, arith, length-append, length-drop}
use Rattle.std.specs.Prelude.{slice_index, slice_index_or}
use Rattle.std.proofs.Math.Seq.{drop-cons}
use Rattle.std.specs.List.{AllByRecursion}
use Rattle.std.proofs.lemmas.List.{get_or_append_left, get_or-append_right, get_or-take, get_or-drop, length-take-le}
use Rattle.bounded_list.specs.Bounded.{Bounded, overwritten}
use Rattle.syscall_drain.specs.Pieces.{Piece}
use Rattle.hart_actor.specs.Harts.{cut, cut_length}
use Rattle.live_run.specs.Assembled.{StandsIn}
use Rattle.live_run.specs.Laying.{laid, LiesWithin, LieApart, AreApart}

-- ---- one piece

module _ (old : List ℕ) (place : ℕ) (bytes : List ℕ) (within : place + length bytes ≤ length old) where
  before : length (take place old) ≡ place
  before = length-take-le place old (omega arith)

  pub overwritten_length : length (overwritten old place bytes) ≡ length old
  overwritten_length =
      omega (arith, length-append (take place old) (bytes ++ drop (place + length bytes) old), before, length-append bytes (drop (place + length bytes) old), length-drop (place + length bytes) old)

  read_inside : (k : ℕ) → k < length bytes → slice_index (overwritten old place bytes) (place + k) ≡ slice_index bytes k
  read_inside k below =
      let here : place + k - length (take place old) ≡ k = omega (arith, before) in
      get_or-append_right (take place old) (bytes ++ drop (place + length bytes) old) (length (take place old)) (place + k) 0 refl (omega (arith, before))
      ∙ ap (slice_index (bytes ++ drop (place + length bytes) old)) here
      ∙ get_or_append_left bytes (drop (place + length bytes) old) 0 k below

  read_before : (k : ℕ) → k < place → slice_index (overwritten old place bytes) k ≡ slice_index old k
  read_before k below =
      get_or_append_left (take place old) (bytes ++ drop (place + length bytes) old) 0 k (omega (arith, before)) ∙ get_or-take place old k 0 below

  read_behind : (k : ℕ) → place + length bytes ≤ k → slice_index (overwritten old place bytes) k ≡ slice_index old k
  read_behind k past =
      let rest : k - length (take place old) ≡ k - place = omega (arith, before) in
      let there : place + length bytes + (k - place - length bytes) ≡ k = omega arith in
      get_or-append_right (take place old) (bytes ++ drop (place + length bytes) old) (length (take place old)) k 0 refl (omega (arith, before))
      ∙ ap (slice_index (bytes ++ drop (place + length bytes) old)) rest
      ∙ get_or-append_right bytes (drop (place + length bytes) old) (length bytes) (k - place) 0 refl (omega arith)
      ∙ get_or-drop (place + length bytes) old (k - place - length bytes) 0
      ∙ ap (slice_index old) there

-- it stands where it is put, and so do those from which it lies apart
piece_stands : (old : List ℕ) (piece : Piece) → LiesWithin (length old) piece → StandsIn (overwritten old piece.place piece.bytes) piece
piece_stands old piece within k below = read_inside old piece.place piece.bytes within k below

other_stands : (old : List ℕ) (piece other : Piece) → LiesWithin (length old) piece → LieApart other piece → StandsIn old other → StandsIn (overwritten old piece.place piece.bytes) other
other_stands old piece other within apart stands k below = by_side apart ∙ stands k below
  where
    by_side : LieApart other piece → slice_index (overwritten old piece.place piece.bytes) (other.place + k) ≡ slice_index old (other.place + k)
    by_side (inl first) = read_before old piece.place piece.bytes within (other.place + k) (omega arith)
    by_side (inr last) = read_behind old piece.place piece.bytes within (other.place + k) (omega arith)

-- ---- all pieces

same_bound : (size other : ℕ) (pieces : List Piece) → other ≡ size → AllByRecursion (LiesWithin size) pieces → AllByRecursion (LiesWithin other) pieces
same_bound size other pieces same within = subst (λ (n : ℕ). AllByRecursion (LiesWithin n) pieces) (sym same) within

pub laid_length : (bytes : List ℕ) (pieces : List Piece) → AllByRecursion (LiesWithin (length bytes)) pieces → length (laid bytes pieces) ≡ length bytes
unfolding laid
laid_length bytes [] within = refl
laid_length bytes (piece ∷ pieces) within =
    let same : length (overwritten bytes piece.place piece.bytes) ≡ length bytes = overwritten_length bytes piece.place piece.bytes within.0 in
    laid_length (overwritten bytes piece.place piece.bytes) pieces (same_bound (length bytes) _ pieces same within.1) ∙ same

laid_keeps : (bytes : List ℕ) (pieces : List Piece) (other : Piece) → AllByRecursion (LiesWithin (length bytes)) pieces → AllByRecursion (LieApart other) pieces → StandsIn bytes other → StandsIn (laid bytes pieces) other
unfolding laid
laid_keeps bytes [] other within apart stands = stands
laid_keeps bytes (piece ∷ pieces) other within apart stands =
    let same : length (overwritten bytes piece.place piece.bytes) ≡ length bytes = overwritten_length bytes piece.place piece.bytes within.0 in
    laid_keeps (overwritten bytes piece.place piece.bytes) pieces other (same_bound (length bytes) _ pieces same within.1) apart.1
    (other_stands bytes piece other within.0 apart.0 stands)

pub laid_stands : (bytes : List ℕ) (pieces : List Piece) → AllByRecursion (LiesWithin (length bytes)) pieces → AreApart pieces → AllByRecursion (StandsIn (laid bytes pieces)) pieces
unfolding laid
laid_stands bytes [] within apart = tt
laid_stands bytes (piece ∷ pieces) within apart =
    let next : List ℕ = overwritten bytes piece.place piece.bytes in
    let same : length next ≡ length bytes = overwritten_length bytes piece.place piece.bytes within.0 in
    let bound : AllByRecursion (LiesWithin (length next)) pieces = same_bound (length bytes) (length next) pieces same within.1 in (
      laid_keeps next pieces piece bound apart.0 (piece_stands bytes piece within.0),
      laid_stands next pieces bound apart.1,
    )

pub laid_append : (bytes : List ℕ) (pieces more : List Piece) → laid bytes (pieces ++ more) ≡ laid (laid bytes pieces) more
unfolding laid
laid_append bytes [] more = refl
laid_append bytes (piece ∷ pieces) more = laid_append (overwritten bytes piece.place piece.bytes) pieces more

-- ---- piece by piece

-- some pieces of a core are put down; the others are left, with their bytes
pub record IsLaying (old : Bounded ℕ) (all : List Piece) (now : Bounded ℕ) (rest : List (ℕ × ℕ)) (bytes : List ℕ) : Type 0 where
  pub room : now.room ≡ old.room
  pub size : length now.items ≡ length old.items
  pub whole : cut_length rest ≡ length bytes
  pub within : AllByRecursion (LiesWithin (length old.items)) (cut rest bytes)
  pub laid_is : laid now.items (cut rest bytes) ≡ laid old.items all

-- the next piece has its bytes, and there is room for it at its place
pub record HasNext (now : Bounded ℕ) (piece : ℕ × ℕ) (bytes : List ℕ) : Type 0 where
  pub enough : piece.1 ≤ length bytes
  pub fits : piece.0 + length (take piece.1 bytes) ≤ length now.items

pub next_piece : (old : Bounded ℕ) (all : List Piece) (now : Bounded ℕ) (piece : ℕ × ℕ) (rest : List (ℕ × ℕ)) (bytes : List ℕ) → IsLaying old all now (piece ∷ rest) bytes → HasNext now piece bytes
unfolding cut cut_length
next_piece old all now piece rest bytes laying = record {
  enough = omega (arith, laying.whole);
  fits = let here : piece.0 + length (take piece.1 bytes) ≤ length old.items = laying.within.0 in omega (arith, here, laying.size);
}

pub laying_more : (old : Bounded ℕ) (all : List Piece) (now : Bounded ℕ) (piece : ℕ × ℕ) (rest : List (ℕ × ℕ)) (bytes : List ℕ) → IsLaying old all now (piece ∷ rest) bytes
    → IsLaying old all (record now { items = overwritten now.items piece.0 (take piece.1 bytes) }) rest (drop piece.1 bytes)
unfolding cut cut_length laid
laying_more old all now piece rest bytes laying =
    let next = next_piece old all now piece rest bytes laying in
    record {
      room = laying.room;
      size = overwritten_length now.items piece.0 (take piece.1 bytes) next.fits ∙ laying.size;
      whole = omega (arith, laying.whole, next.enough, length-drop piece.1 bytes);
      within = laying.within.1;
      laid_is = laying.laid_is;
    }

pub laying_over : (old : Bounded ℕ) (all : List Piece) (now : Bounded ℕ) (bytes : List ℕ) → IsLaying old all now [] bytes → now ≡ record old { items = laid old.items all }
unfolding cut laid
laying_over old all now bytes laying = ap₂ (λ (items : List ℕ) (room : ℕ). record { items = items; room = room }) laying.laid_is laying.room

-- the piece at a place is the next one of those behind
pub next_at : (old : Bounded ℕ) (all : List Piece) (now : Bounded ℕ) (slice pieces : List (ℕ × ℕ)) (index : ℕ) (bytes : List ℕ) → slice ≡ pieces → index < length slice
    → IsLaying old all now (drop index pieces) bytes → IsLaying old all now (slice_index_or slice index (0, 0) ∷ drop (index + 1) pieces) bytes
next_at old all now slice pieces index bytes same within laying =
    let one : index + 1 ≡ suc index = omega arith in
    let behind : drop index pieces ≡ slice_index_or pieces index (0, 0) ∷ drop (suc index) pieces = drop-cons pieces index (0, 0) (rw same at within) in
    rw (same, one) (rw behind at laying)
