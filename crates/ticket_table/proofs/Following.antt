-- Of a history, each change of one caller at a word has a number below the word's count, and the last one left what the word holds.
use Rattle.std.proofs.Common.{◌≡◌, ◌≢◌, ◌⊎◌, ℕ, ◌+◌, ◌<◌, List, [], ◌∷◌, ◌++◌, length, slice_get, slice_index, Some, sym, ap, subst, ◌∙◌, inl, inr, arith}
use Rattle.std.proofs.lemmas.Bool.{cases_eq}
use Rattle.ticket_table.specs.declared.change.Change.{Change}
use Rattle.ticket_table.specs.History.{Basis, MayFollow, IsHistory, of_caller, count_at, left_at, Follows}
use Rattle.ticket_table.proofs.Histories.{by_steps, count_at_same, count_at_other, left_at_same, left_at_other, of_caller_same, of_caller_other}
use Rattle.ticket_table.proofs.Places.{get_at_end}

-- a change at this word is before the word's next change, which finds what the change left if it is the very next
abbrev Precedes : Basis → ℕ → List Change → Change → Type 0
Precedes basis word h a = (a.number < count_at word h) × (count_at word h ≡ a.number + 1 → left_at (slice_index basis.first word) word h ≡ a.new)

abbrev AllPrecede : Basis → ℕ → ℕ → List Change → Type 0
AllPrecede basis caller word h = (place : ℕ) (a : Change) → slice_get (of_caller caller h) place ≡ Some a → a.word ≡ word → Precedes basis word h a

module _ (basis : Basis) (caller word : ℕ) where
  older : (h : List Change) (e a : Change) → Precedes basis word h a → Precedes basis word (h ++ e ∷ []) a
  older h e a before = by_word (cases_eq e.word word)
    where
      by_word : (e.word ≡ word) ⊎ (e.word ≢ word) → Precedes basis word (h ++ e ∷ []) a
      by_word (inl same) =
          let count = count_at_same word h e same in
          (omega arith, λ next. absurd (omega arith))
      by_word (inr other) =
          let count = count_at_other word h e other in
          (omega arith, λ next. left_at_other (slice_index basis.first word) word h e other ∙ before.1 (omega arith))

  newest : (h : List Change) (e a : Change) → MayFollow basis h e → e ≡ a → a.word ≡ word → Precedes basis word (h ++ e ∷ []) a
  newest h e a may is here =
      let same : e.word ≡ word = ap (λ (x : Change). x.word) is ∙ here in
      let count = count_at_same word h e same in
      let number : e.number ≡ count_at word h = may.number ∙ ap (λ (k : ℕ). count_at k h) same in
      let P : Change → Type 0 = λ a. Precedes basis word (h ++ e ∷ []) a in
      subst P is (omega arith, λ next. left_at_same (slice_index basis.first word) word h e same)

  one_more : (h : List Change) (e : Change) → IsHistory basis h → MayFollow basis h e → AllPrecede basis caller word h → AllPrecede basis caller word (h ++ e ∷ [])
  one_more h e all may before place a found here = by_caller (cases_eq e.caller caller)
    where
      by_place : (slice_get (of_caller caller h) place ≡ Some a) ⊎ ((place ≡ length (of_caller caller h)) × (e ≡ a)) → Precedes basis word (h ++ e ∷ []) a
      by_place (inl old) = older h e a (before place a old here)
      by_place (inr new) = newest h e a may new.1 here

      by_caller : (e.caller ≡ caller) ⊎ (e.caller ≢ caller) → Precedes basis word (h ++ e ∷ []) a
      by_caller (inl same) = by_place (get_at_end (of_caller caller h) e a place (ap (λ (xs : List Change). slice_get xs place) (sym (of_caller_same caller h e same)) ∙ found))
      by_caller (inr other) = older h e a (before place a (ap (λ (xs : List Change). slice_get xs place) (sym (of_caller_other caller h e other)) ∙ found) here)

  all_precede : (h : List Change) → IsHistory basis h → AllPrecede basis caller word h
  all_precede h all = by_steps basis (AllPrecede basis caller word) (λ place a found here. absurd (cc)) one_more h all

-- a change that may come next follows the changes of each caller
pub follows_caller : (basis : Basis) (h : List Change) (e : Change) (caller : ℕ) → IsHistory basis h → MayFollow basis h e → Follows (of_caller caller h) e
follows_caller basis h e caller all may place a found here =
    let before = all_precede basis caller e.word h all place a found here in
    let number = may.number in
    (omega arith, λ next. may.old ∙ before.1 (omega arith))
