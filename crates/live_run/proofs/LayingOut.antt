-- The pieces of one core after another are put into the output.
use Rattle.std.proofs.Common.{◌≡◌, ℕ, suc, ◌+◌, ◌<◌, List, [], ◌∷◌, drop, length, replicate, sym, ap, ap₂, ◌∙◌, subst, arith}
use Rattle.std.specs.Prelude.{slice_index_or}
use Rattle.std.specs.List.{AllByRecursion}
use Rattle.std.proofs.Math.Seq.{drop-cons}
use Rattle.bounded_list.specs.Bounded.{Bounded}
use Rattle.live_run.specs.declared.pair.Claims.{Claims}
use Rattle.live_run.specs.Laying.{laid, pieces_in, pieces_of, AreLayable}
use Rattle.live_run.proofs.Laying.{laid_length, laid_append}

-- the pieces of some cores are put down; those of the others are left
pub record IsLayingOut (size : ℕ) (old : Bounded ℕ) (all : List Claims) (now : Bounded ℕ) (rest : List Claims) : Type 0 where
  pub room : now.room ≡ old.room
  pub length_is : length now.items ≡ size
  pub layable : AllByRecursion (AreLayable size) rest
  pub laid_is : laid now.items (pieces_of rest) ≡ laid (replicate size 0) (pieces_of all)

pub claims_fit : (size : ℕ) (old : Bounded ℕ) (all : List Claims) (now : Bounded ℕ) (claims : Claims) (rest : List Claims) → IsLayingOut size old all now (claims ∷ rest) → AreLayable (length now.items) claims
claims_fit size old all now claims rest laying = subst (λ (n : ℕ). AreLayable n claims) (sym laying.length_is) laying.layable.0

pub claims_more : (size : ℕ) (old : Bounded ℕ) (all : List Claims) (now : Bounded ℕ) (claims : Claims) (rest : List Claims) → IsLayingOut size old all now (claims ∷ rest)
    → IsLayingOut size old all (record now { items = laid now.items (pieces_in claims) }) rest
claims_more size old all now claims rest laying = record {
  room = laying.room;
  length_is = laid_length now.items (pieces_in claims) (claims_fit size old all now claims rest laying).within ∙ laying.length_is;
  layable = laying.layable.1;
  laid_is = sym (laid_append now.items (pieces_in claims) (pieces_of rest)) ∙ laying.laid_is;
}

pub claims_over : (size : ℕ) (old : Bounded ℕ) (all : List Claims) (now : Bounded ℕ) → IsLayingOut size old all now [] → now ≡ record old { items = laid (replicate size 0) (pieces_of all) }
unfolding laid
claims_over size old all now laying = ap₂ (λ (items : List ℕ) (room : ℕ). record { items = items; room = room }) laying.laid_is laying.room

pub claims_at : (size : ℕ) (old : Bounded ℕ) (all : List Claims) (now : Bounded ℕ) (index : ℕ) (claims : Claims) → claims ≡ slice_index_or all index claims → index < length all
    → IsLayingOut size old all now (drop index all) → IsLayingOut size old all now (claims ∷ drop (index + 1) all)
claims_at size old all now index claims is within laying =
    let one : index + 1 ≡ suc index = omega arith in
    let behind : drop index all ≡ claims ∷ drop (suc index) all = drop-cons all index claims within ∙ ap (λ (c : Claims). c ∷ drop (suc index) all) (sym is) in
    rw one (rw behind at laying)
