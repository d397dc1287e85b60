-- The pieces of all cores lie apart, where their spans do.
use Rattle.std.proofs.Common.{◌≡◌, ◌≢◌, ℕ, zero, suc, ◌+◌, ◌<◌, Some, List, [], ◌∷◌, ◌++◌, map, slice_get, refl, ap, ◌∙◌, subst, arith}
use Rattle.std.specs.List.{AllByRecursion}
use Rattle.std.proofs.lemmas.List.{map-append}
use Rattle.syscall_drain.specs.Pieces.{Piece}
use Rattle.live_run.specs.declared.pair.Claims.{Claims}
use Rattle.live_run.specs.Laying.{LiesWithin, LieApart, AreApart, pieces_in, pieces_of}
use Rattle.live_run.proofs.Claiming.{piece_span}
use Rattle.live_run.proofs.Spans.{EndsBy, SpansApart, AllApart, EachApart, all_split, apart_none, apart_right, each_append}

-- ---- pieces and their spans

pub within_by : (size : ℕ) (pieces : List Piece) → AllByRecursion (EndsBy size) (map piece_span pieces) → AllByRecursion (LiesWithin size) pieces
within_by size [] ends = tt
within_by size (piece ∷ pieces) ends = (ends.0, within_by size pieces ends.1)

apart_by : (piece : Piece) (pieces : List Piece) → AllByRecursion (SpansApart (piece_span piece)) (map piece_span pieces) → AllByRecursion (LieApart piece) pieces
apart_by piece [] apart = tt
apart_by piece (other ∷ pieces) apart = (apart.0, apart_by piece pieces apart.1)

pub each_by : (pieces : List Piece) → EachApart (map piece_span pieces) → AreApart pieces
each_by [] apart = tt
each_by (piece ∷ pieces) apart = (apart_by piece pieces apart.0, each_by pieces apart.1)

-- ---- core by core

module _ (claimed : ℕ → List (ℕ × ℕ)) (own : (c : ℕ) → EachApart (claimed c)) (others : (c d : ℕ) → c ≢ d → AllApart (claimed c) (claimed d)) where
  -- the pieces from this core on lie apart, and apart from those of each core before
  record ArePlaced (first : ℕ) (rest : List Claims) : Type 0 where
    each : EachApart (map piece_span (pieces_of rest))
    before : (c : ℕ) → c < first → AllApart (claimed c) (map piece_span (pieces_of rest))

  placed_from : (first : ℕ) (rest : List Claims) → ((k : ℕ) (claims : Claims) → slice_get rest k ≡ Some claims → map piece_span (pieces_in claims) ≡ claimed (first + k)) → ArePlaced first rest
  placed_from first [] same = record { each = tt; before = λ c below. apart_none (claimed c) }
  placed_from first (claims ∷ rest) same =
      let none : first + 0 ≡ first = omega arith in
      let here : map piece_span (pieces_in claims) ≡ claimed first = same 0 claims refl ∙ ap claimed none in
      let later : ArePlaced (suc first) rest = placed_from (suc first) rest (λ k found at. same (suc k) found at ∙ ap claimed (omega arith)) in
      let all : map piece_span (pieces_in claims ++ pieces_of rest) ≡ claimed first ++ map piece_span (pieces_of rest) =
      map-append piece_span (pieces_in claims) (pieces_of rest) ∙ ap (λ (xs : List (ℕ × ℕ)). xs ++ map piece_span (pieces_of rest)) here in
      record {
        each = rw all (each_append (claimed first) (map piece_span (pieces_of rest)) (own first) later.each (later.before first (omega arith)));
        before = λ c below.
            rw all (apart_right (claimed c) (claimed first) (map piece_span (pieces_of rest)) (others c first (λ e. absurd (omega (arith, e, below)))) (later.before c (omega arith)));
      }

  pub pieces_apart : (all : List Claims) → ((k : ℕ) (claims : Claims) → slice_get all k ≡ Some claims → map piece_span (pieces_in claims) ≡ claimed k) → AreApart (pieces_of all)
  pieces_apart all same = each_by (pieces_of all) (placed_from 0 all (λ k claims at. same k claims at ∙ ap claimed (omega arith))).each

-- what holds of all pieces holds of those of each core, and what of each of all
pub of_core : (P : Piece → Type 0) (all : List Claims) (core : ℕ) (claims : Claims) → slice_get all core ≡ Some claims → AllByRecursion P (pieces_of all) → AllByRecursion P (pieces_in claims)
of_core P [] core claims at holds = absurd (cc)
of_core P (first ∷ all) zero claims at holds =
    let same : first ≡ claims = cc in
    subst (λ (c : Claims). AllByRecursion P (pieces_in c)) same (all_split P (pieces_in first) (pieces_of all) holds).0
of_core P (first ∷ all) (suc core) claims at holds = of_core P all core claims at (all_split P (pieces_in first) (pieces_of all) holds).1
