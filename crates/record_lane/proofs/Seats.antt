-- What holds of each place of a list after one place is changed, or one is added at the end.
use Rattle.std.proofs.Common.{◌≡◌, ◌≢◌, ◌⊎◌, inl, inr, arith, ℕ, ◌<◌, replicate, zero, suc, List, [], ◌∷◌, ◌++◌, length, set, sym, refl, ap, subst, ⊎_elim}
use mathlib.Core.Option.{some, some-ne-none, some-injective}
use lib.ListN.{get_elem?}
use Rattle.atomic_table.proofs.Lists.{at_set}

module _ {A : Type 0} where
  -- what stands in the longer list stood there before, or at the end
  pub at_more : (l : List A) (a b : A) (j : ℕ) → get_elem? (l ++ a ∷ []) j ≡ some b → (get_elem? l j ≡ some b) ⊎ ((j ≡ length l) × (a ≡ b))
  at_more [] a b zero e = inr (refl, some-injective a b e)
  at_more [] a b (suc j) e = absurd (some-ne-none b (sym e))
  at_more (x ∷ xs) a b zero e = inl e
  at_more (x ∷ xs) a b (suc j) e = ⊎_elim (λ t. inl t) (λ t. inr (ap suc t.0, t.1)) (at_more xs a b j e)

  pub at_below : (l : List A) (a : A) (j : ℕ) → get_elem? l j ≡ some a → j < length l
  at_below [] a j e = absurd (some-ne-none a (sym e))
  at_below (x ∷ xs) a zero e = omega arith
  at_below (x ∷ xs) a (suc j) e = let below = at_below xs a j e in omega arith

  pub at_replicate : (n : ℕ) (a : A) (j : ℕ) → j < n → get_elem? (replicate n a) j ≡ some a
  at_replicate zero a j below = absurd (omega arith)
  at_replicate (suc n) a zero below = refl
  at_replicate (suc n) a (suc j) below = at_replicate n a j (omega arith)

  abbrev pub Each : (ℕ → A → Type 0) → List A → Type 0
  Each F l = (j : ℕ) (a : A) → get_elem? l j ≡ some a → F j a

  pub each_set : (F : ℕ → A → Type 0) (l : List A) (i : ℕ) (w : A) → F i w → ((j : ℕ) (u : A) → j ≢ i → get_elem? l j ≡ some u → F j u) → Each F (set l i w)
  each_set F l i w mine others j u e =
      ⊎_elim (λ (x : (j ≡ i) × (w ≡ u)). subst (λ (y : ℕ × A). F y.0 y.1) (λ k. (sym x.0 k, x.1 k)) mine)
      (λ (x : (j ≢ i) × (get_elem? l j ≡ some u)). others j u x.0 x.1) (at_set l i j w u e)

  -- what is at another place was there before the change
  pub at_other : (l : List A) (i j : ℕ) (w u : A) → j ≢ i → get_elem? (set l i w) j ≡ some u → get_elem? l j ≡ some u
  at_other l i j w u ne e =
      ⊎_elim (λ (x : (j ≡ i) × (w ≡ u)). absurd (ne x.0)) (λ (x : (j ≢ i) × (get_elem? l j ≡ some u)). x.1) (at_set l i j w u e)

  -- one more at the end
  pub each_snoc : (F : ℕ → A → Type 0) (l : List A) (r : A) → Each F l → F (length l) r → Each F (l ++ r ∷ [])
  each_snoc F l r old mine j u e =
      ⊎_elim (λ (x : get_elem? l j ≡ some u). old j u x)
      (λ (x : (j ≡ length l) × (r ≡ u)). subst (λ (y : ℕ × A). F y.0 y.1) (λ k. (sym x.0 k, x.1 k)) mine) (at_more l r u j e)

  pub each_one : (F : ℕ → A → Type 0) (a : A) → F 0 a → Each F (a ∷ [])
  each_one F a mine j u e =
      ⊎_elim (λ (x : get_elem? [] j ≡ some u). absurd (some-ne-none u (sym x)))
      (λ (x : (j ≡ 0) × (a ≡ u)). subst (λ (y : ℕ × A). F y.0 y.1) (λ k. (sym x.0 k, x.1 k)) mine) (at_more [] a u j e)
