-- A function changed at one number, read at that number, at others, and one number on.
use Rattle.std.proofs.Common.{◌≡◌, ◌≢◌, ℕ, zero, suc, ◌<◌, ◌⊎◌, List, length, get_or, set, cond, Bool, true, false, eqb, refl, sym, ap, ◌∙◌, inl, inr, eq-eqb, ne_eqb, get_or-set_same, get_or-set_other}
use Rattle.std.proofs.Math.Dec.{eqb-suc-suc, eqb-suc-zero}
use Rattle.std.proofs.lemmas.Bool.Decides.{eqb_tells}
use mathlib.Core.Path.{fun_ext}
use Rattle.order_core.specs.SetAt.{set_at}

-- a function from its second number on
abbrev pub shifted : {A : Type 0} → (ℕ → A) → ℕ → A
shifted f = λ j. f (suc j)

-- a list read as a function
abbrev pub read_or : {A : Type 0} → A → List A → ℕ → A
read_or d xs = λ j. get_or xs j d

module _ {A : Type 0} (f : ℕ → A) where
  pub set_at_same : (i : ℕ) (a : A) → set_at f i a i ≡ a
  set_at_same i a = ap (λ (b : Bool). cond b a (f i)) (eq-eqb i i refl)

  pub set_at_other : (i j : ℕ) (a : A) → j ≢ i → set_at f i a j ≡ f j
  set_at_other i j a h = ap (λ (b : Bool). cond b a (f j)) (ne_eqb j i h)

  pub shifted_set_at_zero : (a : A) → shifted (set_at f zero a) ≡ shifted f
  shifted_set_at_zero a = fun_ext (λ j. ap (λ (b : Bool). cond b a (f (suc j))) (eqb-suc-zero j))

  pub shifted_set_at_suc : (i : ℕ) (a : A) → shifted (set_at f (suc i) a) ≡ set_at (shifted f) i a
  shifted_set_at_suc i a = fun_ext (λ j. ap (λ (b : Bool). cond b a (f (suc j))) (eqb-suc-suc j i))

-- a list changed at a place, read as a function
pub read_or_set : {A : Type 0} (d : A) (xs : List A) (i : ℕ) (a : A) → i < length xs → read_or d (set xs i a) ≡ set_at (read_or d xs) i a
read_or_set {A} d xs i a h = fun_ext (λ j. at j (eqb_tells j i))
  where
    at : (j : ℕ) → ((eqb j i ≡ true) × (j ≡ i)) ⊎ ((eqb j i ≡ false) × (j ≢ i)) → get_or (set xs i a) j d ≡ set_at (read_or d xs) i a j
    at j (inl same) = ap (λ (k : ℕ). get_or (set xs i a) k d) same.1 ∙ get_or-set_same xs i a d h ∙ sym (ap (λ (b : Bool). cond b a (get_or xs j d)) same.0)
    at j (inr other) = get_or-set_other xs i j a d other.1 ∙ sym (ap (λ (b : Bool). cond b a (get_or xs j d)) other.0)
