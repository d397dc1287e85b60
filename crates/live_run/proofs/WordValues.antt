-- What a word holds after its first k changes in a history; each change finds and leaves there what it says.
use Rattle.std.proofs.Common.{◌≡◌, ◌≢◌, ◌⊎◌, ℕ, zero, suc, ◌+◌, ◌<◌, ◌==◌, Bool, cond, eqb, if◌then◌else◌, List, [], ◌∷◌, ◌++◌, length, refl, sym, ap, subst, ◌∙◌, inl, inr, arith, append_assoc, eq-eqb, ne_eqb}
use Rattle.std.specs.Prelude.{All, slice_index, Some}
use Rattle.std.proofs.lemmas.Bool.{cases_eq}
use Rattle.std.proofs.lemmas.List.Elements.{All-nil, All-cons, All-head, All-tail, All-pop}
use Rattle.std.proofs.lemmas.List.Sums.{sum_by-cons}
use Rattle.rv_execute.specs.Payloads.{changed}
use Rattle.ticket_table.specs.declared.change.Role.TheVariants.{Serve}
use Rattle.ticket_table.specs.declared.change.Role.{Role}
use Rattle.ticket_table.specs.declared.change.Change.{Change}
use Rattle.ticket_table.specs.History.{Basis, IsHistory, MayFollow, count_at, left_at, left_by}
use Rattle.ticket_table.proofs.Histories.{earlier, by_steps, count_at_same, left_at_same, left_at_other}

-- the value of this word after its first k changes, of its first value
unfoldable pub value_after : ℕ → ℕ → ℕ → List Change → ℕ
value_after first word zero changes = first
value_after first word (suc k) [] = first
value_after first word (suc k) (e ∷ changes) = if e.word == word then value_after e.new word k changes else value_after first word (suc k) changes

-- ---- the words along a history

value_same : (first word k : ℕ) (e : Change) (changes : List Change) → e.word ≡ word → value_after first word (suc k) (e ∷ changes) ≡ value_after e.new word k changes
unfolding value_after
value_same first word k e changes same = ap (λ (b : Bool). cond b (value_after e.new word k changes) (value_after first word (suc k) changes)) (eq-eqb e.word word same)

value_other : (first word k : ℕ) (e : Change) (changes : List Change) → e.word ≢ word → value_after first word k (e ∷ changes) ≡ value_after first word k changes
unfolding value_after
value_other first word zero e changes other = refl
value_other first word (suc k) e changes other = ap (λ (b : Bool). cond b (value_after e.new word k changes) (value_after first word (suc k) changes)) (ne_eqb e.word word other)

count_same : (e : Change) (changes : List Change) (word : ℕ) → e.word ≡ word → count_at word (e ∷ changes) ≡ suc (count_at word changes)
count_same e changes word same =
    let step = sum_by-cons (λ (x : Change). cond (eqb x.word word) 1 0) e changes
    ∙ ap (λ (b : Bool). cond b 1 0 + count_at word changes) (eq-eqb e.word word same) in
    omega (arith, step)

count_other : (e : Change) (changes : List Change) (word : ℕ) → e.word ≢ word → count_at word (e ∷ changes) ≡ count_at word changes
count_other e changes word other =
    let step = sum_by-cons (λ (x : Change). cond (eqb x.word word) 1 0) e changes
    ∙ ap (λ (b : Bool). cond b 1 0 + count_at word changes) (ne_eqb e.word word other) in
    omega (arith, step)

-- after as many changes as a front of the history has of the word, it holds what the front leaves
pub value_at_front : (first word : ℕ) (before rest : List Change) → value_after first word (count_at word before) (before ++ rest) ≡ left_at first word before
unfolding value_after
value_at_front first word [] rest = refl
value_at_front first word (e ∷ before) rest = by_word (cases_eq e.word word) (value_at_front e.new word before rest) (value_at_front first word before rest)
  where
    by_word : (e.word ≡ word) ⊎ (e.word ≢ word) → value_after e.new word (count_at word before) (before ++ rest) ≡ left_at e.new word before
        → value_after first word (count_at word before) (before ++ rest) ≡ left_at first word before
        → value_after first word (count_at word (e ∷ before)) ((e ∷ before) ++ rest) ≡ left_at first word (e ∷ before)
    by_word (inl same) here there =
        ap (λ (k : ℕ). value_after first word k (e ∷ (before ++ rest))) (count_same e before word same)
        ∙ value_same first word (count_at word before) e (before ++ rest) same
        ∙ here
        ∙ sym (ap (λ (b : Bool). left_at (cond b e.new first) word before) (eq-eqb e.word word same))
    by_word (inr apart) here there =
        ap (λ (k : ℕ). value_after first word k (e ∷ (before ++ rest))) (count_other e before word apart)
        ∙ value_other first word (count_at word before) e (before ++ rest) apart
        ∙ there
        ∙ sym (ap (λ (b : Bool). left_at (cond b e.new first) word before) (ne_eqb e.word word apart))

-- the word holds what the change found before it, and what it left after it
pub record IsStep (first : ℕ) (history : List Change) (e : Change) : Type 0 where
  pub old : value_after first e.word e.number history ≡ e.old
  pub new : value_after first e.word (suc e.number) history ≡ e.new

-- what holds of each item wherever it stands holds of all
pub all_by_places : {A : Type 0} (P : A → Type 0) (front xs : List A) → ((before after : List A) (x : A) → front ++ xs ≡ before ++ x ∷ after → P x) → All P xs
all_by_places P front [] here = All-nil P
all_by_places P front (x ∷ xs) here =
    All-cons P x xs (here front xs x refl)
    (all_by_places P (front ++ x ∷ []) xs (λ before after y same. here before after y (sym (append_assoc front (x ∷ []) xs) ∙ same)))

-- the two parts of a list of which each item is so
pub front_all : {A : Type 0} (P : A → Type 0) (xs ys : List A) → All P (xs ++ ys) → All P xs
front_all P [] ys all = All-nil P
front_all P (x ∷ xs) ys all = All-cons P x xs (All-head P x (xs ++ ys) all) (front_all P xs ys (All-tail P x (xs ++ ys) all))

pub back_all : {A : Type 0} (P : A → Type 0) (xs ys : List A) → All P (xs ++ ys) → All P ys
back_all P [] ys all = all
back_all P (x ∷ xs) ys all = back_all P xs ys (All-tail P x (xs ++ ys) all)

-- a change of this history is one of its table's, and a step of its word
pub record IsChangeIn (basis : Basis) (history : List Change) (e : Change) : Type 0 where
  pub within : e.word < length basis.first
  pub caller : e.caller < basis.terms.callers
  pub step : IsStep (slice_index basis.first e.word) history e

change_at : (basis : Basis) (history before after : List Change) (e : Change) → IsHistory basis history → history ≡ before ++ e ∷ after → IsChangeIn basis history e
change_at basis history before after e all same =
    let next : MayFollow basis before e = all before after e same in
    let first : ℕ = slice_index basis.first e.word in
    let number : suc e.number ≡ count_at e.word (before ++ e ∷ []) = omega (arith, count_at_same e.word before e refl, next.number) in
    record {
      within = next.word;
      caller = next.caller;
      step = record {
        old = ap (value_after first e.word e.number) same
            ∙ ap (λ (k : ℕ). value_after first e.word k (before ++ e ∷ after)) next.number
            ∙ value_at_front first e.word before (e ∷ after)
            ∙ sym next.old;
        new = ap (value_after first e.word (suc e.number)) (same ∙ sym (append_assoc before (e ∷ []) after))
            ∙ ap (λ (k : ℕ). value_after first e.word k ((before ++ e ∷ []) ++ after)) number
            ∙ value_at_front first e.word (before ++ e ∷ []) after
            ∙ left_at_same first e.word before e refl;
      };
    }

pub all_changes : (basis : Basis) (history : List Change) → IsHistory basis history → All (IsChangeIn basis history) history
all_changes basis history all = all_by_places (IsChangeIn basis history) [] history (λ before after e same. change_at basis history before after e all same)

-- ---- values below a bound

-- its operation keeps values below the bound
pub record KeepsBelow (bound : ℕ) (e : Change) : Type 0 where
  pub keeps : (number old : ℕ) → old < bound → changed e.op number old < bound

module _ (basis : Basis) (bound : ℕ) (serves : basis.terms.role ≡ Serve) (first : (word : ℕ) → slice_index basis.first word < bound) where
  AreBelow : List Change → Type 0
  AreBelow history = All (KeepsBelow bound) history → (word : ℕ) → left_at (slice_index basis.first word) word history < bound

  change_below : (before : List Change) (e : Change) → MayFollow basis before e → KeepsBelow bound e → e.old < bound → e.new < bound
  change_below before e next keeps below =
      let P : Role → Type 0 = λ role. left_by role basis.terms.limit e.op e.number e.old < bound in
      subst (λ (n : ℕ). n < bound) (sym next.new) (subst P (sym serves) (keeps.keeps e.number e.old below))

  below_more : (before : List Change) (e : Change) → IsHistory basis before → MayFollow basis before e → AreBelow before → AreBelow (before ++ e ∷ [])
  unfolding AreBelow
  below_more before e all next earlier keeps word =
      let parts = All-pop (KeepsBelow bound) (before ++ e ∷ []) before (Some e) refl keeps in
      let old : e.old < bound = subst (λ (n : ℕ). n < bound) (sym next.old) (earlier parts.0 e.word) in
      by_word (cases_eq e.word word) (change_below before e next parts.1 old) (earlier parts.0 word)
    where
      by_word : (e.word ≡ word) ⊎ (e.word ≢ word) → e.new < bound → left_at (slice_index basis.first word) word before < bound → left_at (slice_index basis.first word) word (before ++ e ∷ []) < bound
      by_word (inl same) new other = subst (λ (n : ℕ). n < bound) (sym (left_at_same (slice_index basis.first word) word before e same)) new
      by_word (inr apart) new other = subst (λ (n : ℕ). n < bound) (sym (left_at_other (slice_index basis.first word) word before e apart)) other

  all_below : (history : List Change) → IsHistory basis history → AreBelow history
  unfolding AreBelow
  all_below history all = by_steps basis AreBelow (λ none word. first word) below_more history all

  -- where the operations of all changes keep values below the bound, each change finds one
  pub olds_below : (history : List Change) → IsHistory basis history → All (KeepsBelow bound) history → All (λ e. e.old < bound) history
  unfolding AreBelow
  olds_below history all keeps = all_by_places (λ e. e.old < bound) [] history old_below
    where
      old_below : (before after : List Change) (e : Change) → history ≡ before ++ e ∷ after → e.old < bound
      old_below before after e same =
          let whole : IsHistory basis (before ++ e ∷ after) = subst (λ (h : List Change). IsHistory basis h) same all in
          let parts : All (KeepsBelow bound) before = front_all (KeepsBelow bound) before (e ∷ after) (subst (λ (h : List Change). All (KeepsBelow bound) h) same keeps) in
          subst (λ (n : ℕ). n < bound) (sym (whole before after e refl).old) (all_below before (earlier basis before (e ∷ after) whole) parts e.word)
