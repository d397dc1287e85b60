-- Marked entries without the first entry of one core: the parts of the cores and the numbers of the words.
use Rattle.std.proofs.Common.{◌≡◌, ◌≢◌, ◌⊎◌, ℕ, List, [], ◌∷◌, ◌++◌, drop, cond, Bool, true, false, eqb, Some, refl, sym, ap, ◌∙◌, inl, inr, eq-eqb, ne_eqb}
use Rattle.std.proofs.lemmas.Bool.Decides.{eqb_tells}
use Rattle.order_core.specs.declared.entry.Access.{Access}
use Rattle.order_core.specs.declared.entry.Entry.{Entry}
use Rattle.order_core.specs.Marked.{Marked, part_of, number_at, numbers_of}

-- without the first entry of the core
abbrev pub without : ℕ → List Marked → List Marked
without core [] = []
without core (m ∷ marked) = cond (eqb m.0 core) marked (m ∷ without core marked)

-- a part with one more entry in front
pub part_of_same : {A : Type 0} (core : ℕ) (m : ℕ × A) (marked : List (ℕ × A)) → m.0 ≡ core → part_of core (m ∷ marked) ≡ m.1 ∷ part_of core marked
part_of_same core m marked e = ap (λ (b : Bool). cond b (m.1 ∷ part_of core marked) (part_of core marked)) (eq-eqb m.0 core e)

pub part_of_other : {A : Type 0} (core : ℕ) (m : ℕ × A) (marked : List (ℕ × A)) → m.0 ≢ core → part_of core (m ∷ marked) ≡ part_of core marked
part_of_other core m marked e = ap (λ (b : Bool). cond b (m.1 ∷ part_of core marked) (part_of core marked)) (ne_eqb m.0 core e)

without_same : (core : ℕ) (m : Marked) (marked : List Marked) → m.0 ≡ core → without core (m ∷ marked) ≡ marked
without_same core m marked e = ap (λ (b : Bool). cond b marked (m ∷ without core marked)) (eq-eqb m.0 core e)

without_other : (core : ℕ) (m : Marked) (marked : List Marked) → m.0 ≢ core → without core (m ∷ marked) ≡ m ∷ without core marked
without_other core m marked e = ap (λ (b : Bool). cond b marked (m ∷ without core marked)) (ne_eqb m.0 core e)

pub part_of_without_same : (core : ℕ) (marked : List Marked) → part_of core (without core marked) ≡ drop 1 (part_of core marked)
part_of_without_same core [] = refl
part_of_without_same core (m ∷ marked) =
    elim (eqb_tells m.0 core) [
      | inl same ↦ ap (part_of core) (without_same core m marked same.1) ∙ sym (ap (λ (part : List Entry). drop 1 part) (part_of_same core m marked same.1))
      | inr apart ↦ ap (part_of core) (without_other core m marked apart.1) ∙ part_of_other core m (without core marked) apart.1 ∙ part_of_without_same core marked ∙ sym (ap (λ (part : List Entry). drop 1 part) (part_of_other core m marked apart.1))
    ]

pub part_of_without_other : (core other : ℕ) (marked : List Marked) → other ≢ core → part_of other (without core marked) ≡ part_of other marked
part_of_without_other core other [] h = refl
part_of_without_other core other (m ∷ marked) h =
    elim (eqb_tells m.0 core) [
      | inl same ↦ ap (part_of other) (without_same core m marked same.1) ∙ sym (part_of_other other m marked (λ e. h (sym e ∙ same.1)))
      | inr apart ↦ ap (part_of other) (without_other core m marked apart.1) ∙ step (eqb_tells m.0 other) (part_of_without_other core other marked h)
    ]
  where
    step : ((eqb m.0 other ≡ true) × (m.0 ≡ other)) ⊎ ((eqb m.0 other ≡ false) × (m.0 ≢ other)) → part_of other (without core marked) ≡ part_of other marked
        → part_of other (m ∷ without core marked) ≡ part_of other (m ∷ marked)
    step (inl same) e = part_of_same other m (without core marked) same.1 ∙ ap (λ (part : List Entry). m.1 ∷ part) e ∙ sym (part_of_same other m marked same.1)
    step (inr apart) e = part_of_other other m (without core marked) apart.1 ∙ e ∙ sym (part_of_other other m marked apart.1)

-- an entry has a number at the word, or none
pub number_at_some : (word : ℕ) (access : Access) → access.word ≡ word → number_at word (Some access) ≡ access.number ∷ []
number_at_some word access e = ap (λ (b : Bool). cond b (access.number ∷ []) []) (eq-eqb access.word word e)

pub number_at_apart : (word : ℕ) (access : Access) → access.word ≢ word → number_at word (Some access) ≡ []
number_at_apart word access e = ap (λ (b : Bool). cond b (access.number ∷ []) []) (ne_eqb access.word word e)

-- an entry that has no number at the word may be left out
pub numbers_of_without : (word core : ℕ) (entry : Entry) (entries : List Entry) (marked : List Marked) → part_of core marked ≡ entry ∷ entries → number_at word entry.touch ≡ [] → numbers_of word (without core marked) ≡ numbers_of word marked
numbers_of_without word core entry entries [] e h = cc
numbers_of_without word core entry entries (m ∷ marked) e h = step (eqb_tells m.0 core) (numbers_of_without word core entry entries marked)
  where
    step : ((eqb m.0 core ≡ true) × (m.0 ≡ core)) ⊎ ((eqb m.0 core ≡ false) × (m.0 ≢ core))
        → (part_of core marked ≡ entry ∷ entries → number_at word entry.touch ≡ [] → numbers_of word (without core marked) ≡ numbers_of word marked)
        → numbers_of word (without core (m ∷ marked)) ≡ numbers_of word (m ∷ marked)
    step (inl same) rest =
        let first : m.1 ≡ entry = cc (sym (part_of_same core m marked same.1) ∙ e) in
        ap (numbers_of word) (without_same core m marked same.1) ∙ ap (λ (numbers : List ℕ). numbers ++ numbers_of word marked) (sym (ap (λ (y : Entry). number_at word y.touch) first ∙ h))
    step (inr apart) rest =
        ap (numbers_of word) (without_other core m marked apart.1) ∙ ap (λ (numbers : List ℕ). number_at word (m.1).touch ++ numbers) (rest (sym (part_of_other core m marked apart.1) ∙ e) h)
