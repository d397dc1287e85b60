-- Lists read at a place, in the three ways in which the crates below read them.
use Rattle.std.proofs.Common.{◌≡◌, ◌⊎◌, ℕ, zero, suc, List, [], ◌∷◌, ◌++◌, length, get_or, slice_get, Some, refl, sym, ap, inl, inr, ⊎_elim}
use mathlib.Core.Option.{some, some-injective, some-ne-none}
use lib.ListN.{get_elem?}

-- what stands at a place is what is read there
pub index_found : (xs : List ℕ) (i x : ℕ) → get_elem? xs i ≡ some x → x ≡ get_or xs i 0
index_found [] i x e = absurd (some-ne-none x (sym e))
index_found (y ∷ xs) zero x e = sym (some-injective y x e)
index_found (y ∷ xs) (suc i) x e = index_found xs i x e

-- what stands in a list with one item more at its end
pub at_end : {A : Type 0} (xs : List A) (x y : A) (i : ℕ) → get_elem? (xs ++ x ∷ []) i ≡ some y → (get_elem? xs i ≡ some y) ⊎ ((i ≡ length xs) × (x ≡ y))
at_end [] x y zero e = inr (refl, some-injective x y e)
at_end [] x y (suc i) e = absurd (some-ne-none y (sym e))
at_end (z ∷ xs) x y zero e = inl e
at_end (z ∷ xs) x y (suc i) e = ⊎_elim (λ t. inl t) (λ t. inr (ap suc t.0, t.1)) (at_end xs x y i e)

-- the same of a slice
pub get_at_end : {A : Type 0} (xs : List A) (x y : A) (i : ℕ) → slice_get (xs ++ x ∷ []) i ≡ Some y → (slice_get xs i ≡ Some y) ⊎ ((i ≡ length xs) × (x ≡ y))
get_at_end [] x y zero e = inr (refl, cc)
get_at_end [] x y (suc i) e = absurd (cc)
get_at_end (z ∷ xs) x y zero e = inl e
get_at_end (z ∷ xs) x y (suc i) e = ⊎_elim (λ t. inl t) (λ t. inr (ap suc t.0, t.1)) (get_at_end xs x y i e)
