-- A function with one value replaced: what holds of it, and sums of its values.
use Rattle.std.proofs.Common.{◌≡◌, ℕ, zero, suc, ◌+◌, ◌*◌, ◌<◌, ◌≤◌, true, false, refl, arith, eqb, if◌then◌else◌, ⊎_elim}
use Rattle.std.proofs.lemmas.Bool.{cases_lt}
use Rattle.std.proofs.lemmas.Bool.Decides.{nat_tests}
use Rattle.order_core.specs.SetAt.{set_at}

pub set_at_here : {A : Type 0} (f : ℕ → A) (i : ℕ) (a : A) → set_at f i a i ≡ a
set_at_here f i a = let e : eqb i i ≡ true = grind (arith, nat_tests) in rw e refl

pub set_at_there : {A : Type 0} (f : ℕ → A) (i : ℕ) (a : A) (j : ℕ) → (j ≡ i → ⊥) → set_at f i a j ≡ f j
set_at_there f i a j h = let e : eqb j i ≡ false = grind (arith, nat_tests) in rw e refl

-- what holds of each value, and of the new one, holds of each value afterwards
pub set_at_keeps : {A : Type 0} (P : A → Type 0) (f : ℕ → A) (i : ℕ) (a : A) → ((j : ℕ) → P (f j)) → P a → (j : ℕ) → P (set_at f i a j)
set_at_keeps P f i a all new j = elim (eqb j i) as (λ b. P (if b then a else f j)) [ true ↦ new | false ↦ all j ]

-- the sum of what f says of the values below n
unfoldable pub total : {A : Type 0} → (A → ℕ) → (ℕ → A) → ℕ → ℕ
total f values zero = 0
total f values (suc n) = total f values n + f (values n)

total_above : {A : Type 0} (f : A → ℕ) (values : ℕ → A) (i : ℕ) (a : A) (n : ℕ) → n ≤ i → total f (set_at values i a) n ≡ total f values n
unfolding total
total_above f values i a zero h = refl
total_above f values i a (suc n) h =
    let apart : n ≡ i → ⊥ = λ e. omega arith in
    rw (total_above f values i a n (omega arith), set_at_there values i a n apart) refl

-- one value replaced
pub total_set : {A : Type 0} (f : A → ℕ) (values : ℕ → A) (i : ℕ) (a : A) (n : ℕ) → i < n → total f (set_at values i a) n + f (values i) ≡ total f values n + f a
unfolding total
total_set f values i a zero h = absurd (omega arith)
total_set f values i a (suc n) h =
    ⊎_elim
    (λ (below : i < n). let apart : n ≡ i → ⊥ = λ e. omega arith in rw (set_at_there values i a n apart) (omega (arith, total_set f values i a n below)))
    (λ (last : n ≤ i). let same : n ≡ i = omega arith in
    rw (same, total_above f values i a i (omega arith), set_at_here values i a) (omega arith))
    (cases_lt i n)

pub total_at_most : {A : Type 0} (f : A → ℕ) (values : ℕ → A) (most n : ℕ) → ((j : ℕ) → j < n → f (values j) ≤ most) → total f values n ≤ n * most
unfolding total
total_at_most f values most zero h = omega arith
total_at_most f values most (suc n) h =
    let here : f (values n) ≤ most = h n (omega arith) in
    let below : total f values n ≤ n * most = total_at_most f values most n (λ j less. h j (omega arith)) in
    omega arith

-- where one of them is below the bound, so is the sum
pub total_below : {A : Type 0} (f : A → ℕ) (values : ℕ → A) (most n i : ℕ) → i < n → f (values i) < most → ((j : ℕ) → j < n → f (values j) ≤ most) → total f values n < n * most
unfolding total
total_below f values most zero i h less all = absurd (omega arith)
total_below f values most (suc n) i h less all =
    ⊎_elim
    (λ (below : i < n). let here : f (values n) ≤ most = all n (omega arith) in
    let rest : total f values n < n * most = total_below f values most n i below less (λ j l. all j (omega arith)) in omega arith)
    (λ (last : n ≤ i). let same : i ≡ n = omega arith in
    let here : f (values n) < most = rw same at less in
    let rest : total f values n ≤ n * most = total_at_most f values most n (λ j l. all j (omega arith)) in omega arith)
    (cases_lt i n)
