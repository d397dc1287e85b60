-- How a ticket history grows, change by change, and that each word's numbers in it are 0, 1, 2 and so on.
use Rattle.std.proofs.Common.{◌≡◌, ◌≢◌, ℕ, zero, suc, ◌+◌, ◌⊎◌, Bool, cond, eqb, List, [], ◌∷◌, ◌++◌, map, refl, sym, ap, subst, ◌∙◌, inl, inr, ⊎_elim, append_assoc, append-nil, eq-eqb, ne_eqb, arith}
use Rattle.std.specs.List.{range_with_len}
use Rattle.std.proofs.lemmas.Bool.{cases_eq}
use Rattle.std.proofs.lemmas.List.{map-append}
use Rattle.std.proofs.lemmas.List.Elements.{filter-append}
use Rattle.std.proofs.lemmas.List.Sums.{fold_push, sum_by_push}
use Rattle.ticket_table.specs.declared.change.Change.{Change}
use Rattle.ticket_table.specs.History.{Basis, MayFollow, IsHistory, of_word, of_caller, count_at, left_at, NumbersInOrder}

-- ---- one change more

cons_same : (x y : Change) (xs ys : List Change) → x ≡ y → xs ≡ ys → x ∷ xs ≡ y ∷ ys
cons_same x y xs ys head tail = cc

-- a change at the end is the one that a part names, or stands behind it
ends : (h before after : List Change) (e f : Change) → h ++ e ∷ [] ≡ before ++ f ∷ after
    → ((h ≡ before) × (e ≡ f)) ⊎ ((rest : List Change) × (h ≡ before ++ f ∷ rest))
ends [] [] after e f same = inl (refl, cc)
ends [] (b ∷ before) after e f same = absurd (nothing before same)
  where
    nothing : (before : List Change) → e ∷ [] ≡ b ∷ (before ++ f ∷ after) → ⊥
    nothing [] same = cc
    nothing (c ∷ before) same = cc
ends (x ∷ h) [] after e f same = inr (h, cons_same x f h h (cc) refl)
ends (x ∷ h) (b ∷ before) after e f same =
    let head : x ≡ b = cc in
    let tail : h ++ e ∷ [] ≡ before ++ f ∷ after = cc in
    ⊎_elim (λ t. inl (cons_same x b h before head t.0, t.1)) (λ t. inr (t.0, cons_same x b h (before ++ f ∷ t.0) head t.1)) (ends h before after e f tail)

module _ (basis : Basis) where
  pub nothing_yet : IsHistory basis []
  nothing_yet [] after e same = cc
  nothing_yet (b ∷ before) after e same = cc

  -- a part from the front is a history
  pub earlier : (h rest : List Change) → IsHistory basis (h ++ rest) → IsHistory basis h
  earlier h rest all before after e same =
      all before (after ++ rest) e (ap (λ (xs : List Change). xs ++ rest) same ∙ append_assoc before (e ∷ after) rest)

  pub history_more : (h : List Change) (e : Change) → IsHistory basis h → MayFollow basis h e → IsHistory basis (h ++ e ∷ [])
  history_more h e all next before after f same =
      elim (ends h before after e f same) [
        | inl t ↦
            let Before : List Change → Type 0 = λ xs. MayFollow basis xs e in
            let Last : Change → Type 0 = λ x. MayFollow basis before x in
            subst Last t.1 (subst Before t.0 next)
        | inr t ↦ all before t.0 f t.1
      ]

  along : (P : List Change → Type 0) → ((h : List Change) (e : Change) → IsHistory basis h → MayFollow basis h e → P h → P (h ++ e ∷ []))
      → (before after : List Change) → IsHistory basis (before ++ after) → P before → P (before ++ after)
  along P step before [] all here = subst P (sym (append-nil before)) here
  along P step before (e ∷ after) all here =
      let whole : (before ++ e ∷ []) ++ after ≡ before ++ e ∷ after = append_assoc before (e ∷ []) after in
      let History : List Change → Type 0 = λ xs. IsHistory basis xs in
      subst P whole (along P step (before ++ e ∷ []) after (subst History (sym whole) all)
      (step before e (earlier before (e ∷ after) all) (all before after e refl) here))

  -- what holds of no changes and is kept by each change that may follow holds of each history
  pub by_steps : (P : List Change → Type 0) → P [] → ((h : List Change) (e : Change) → IsHistory basis h → MayFollow basis h e → P h → P (h ++ e ∷ []))
      → (h : List Change) → IsHistory basis h → P h
  by_steps P base step h all = along P step [] h all base

-- ---- what one change more changes

pub count_at_same : (word : ℕ) (h : List Change) (e : Change) → e.word ≡ word → count_at word (h ++ e ∷ []) ≡ count_at word h + 1
count_at_same word h e same =
    sum_by_push (λ (x : Change). cond (eqb x.word word) 1 0) h e
    ∙ ap (λ (b : Bool). count_at word h + cond b 1 0) (eq-eqb e.word word same)

pub count_at_other : (word : ℕ) (h : List Change) (e : Change) → e.word ≢ word → count_at word (h ++ e ∷ []) ≡ count_at word h
count_at_other word h e other =
    let step = sum_by_push (λ (x : Change). cond (eqb x.word word) 1 0) h e
    ∙ ap (λ (b : Bool). count_at word h + cond b 1 0) (ne_eqb e.word word other) in
    omega (arith, step)

pub left_at_same : (first word : ℕ) (h : List Change) (e : Change) → e.word ≡ word → left_at first word (h ++ e ∷ []) ≡ e.new
left_at_same first word h e same =
    fold_push (λ (payload : ℕ) (x : Change). cond (eqb x.word word) x.new payload) first h e
    ∙ ap (λ (b : Bool). cond b e.new (left_at first word h)) (eq-eqb e.word word same)

pub left_at_other : (first word : ℕ) (h : List Change) (e : Change) → e.word ≢ word → left_at first word (h ++ e ∷ []) ≡ left_at first word h
left_at_other first word h e other =
    fold_push (λ (payload : ℕ) (x : Change). cond (eqb x.word word) x.new payload) first h e
    ∙ ap (λ (b : Bool). cond b e.new (left_at first word h)) (ne_eqb e.word word other)

pub of_caller_same : (caller : ℕ) (h : List Change) (e : Change) → e.caller ≡ caller → of_caller caller (h ++ e ∷ []) ≡ of_caller caller h ++ e ∷ []
of_caller_same caller h e same =
    filter-append (λ (x : Change). eqb x.caller caller) h (e ∷ [])
    ∙ ap (λ (b : Bool). of_caller caller h ++ cond b (e ∷ []) []) (eq-eqb e.caller caller same)

pub of_caller_other : (caller : ℕ) (h : List Change) (e : Change) → e.caller ≢ caller → of_caller caller (h ++ e ∷ []) ≡ of_caller caller h
of_caller_other caller h e other =
    filter-append (λ (x : Change). eqb x.caller caller) h (e ∷ [])
    ∙ ap (λ (b : Bool). of_caller caller h ++ cond b (e ∷ []) []) (ne_eqb e.caller caller other)
    ∙ append-nil (of_caller caller h)

pub of_word_same : (word : ℕ) (h : List Change) (e : Change) → e.word ≡ word → of_word word (h ++ e ∷ []) ≡ of_word word h ++ e ∷ []
of_word_same word h e same =
    filter-append (λ (x : Change). eqb x.word word) h (e ∷ [])
    ∙ ap (λ (b : Bool). of_word word h ++ cond b (e ∷ []) []) (eq-eqb e.word word same)

pub of_word_other : (word : ℕ) (h : List Change) (e : Change) → e.word ≢ word → of_word word (h ++ e ∷ []) ≡ of_word word h
of_word_other word h e other =
    filter-append (λ (x : Change). eqb x.word word) h (e ∷ [])
    ∙ ap (λ (b : Bool). of_word word h ++ cond b (e ∷ []) []) (ne_eqb e.word word other)
    ∙ append-nil (of_word word h)

-- ---- the numbers of a word

pub range_more : (first count : ℕ) → range_with_len first (suc count) ≡ range_with_len first count ++ (first + count) ∷ []
range_more first zero = ap (λ (n : ℕ). n ∷ []) (omega arith)
range_more first (suc count) =
    ap (λ (ns : List ℕ). first ∷ ns)
    (range_more (first + 1) count ∙ ap (λ (n : ℕ). range_with_len (first + 1) count ++ n ∷ []) (omega arith))

pub numbers_in_order : NumbersInOrder
numbers_in_order basis history all word =
    by_steps basis (λ h. map (λ e. e.number) (of_word word h) ≡ range_with_len 0 (count_at word h)) refl step history all
  where
    step : (h : List Change) (e : Change) → IsHistory basis h → MayFollow basis h e
        → map (λ x. x.number) (of_word word h) ≡ range_with_len 0 (count_at word h)
        → map (λ x. x.number) (of_word word (h ++ e ∷ [])) ≡ range_with_len 0 (count_at word (h ++ e ∷ []))
    step h e earlier next so_far =
        elim (cases_eq e.word word) [
          | inl same ↦
              let grown : count_at word (h ++ e ∷ []) ≡ suc (count_at word h) = omega (arith, count_at_same word h e same) in
              let number : e.number ≡ 0 + count_at word h = next.number ∙ ap (λ (w : ℕ). count_at w h) same ∙ omega arith in
              ap (λ (es : List Change). map (λ x. x.number) es) (of_word_same word h e same)
              ∙ map-append (λ (x : Change). x.number) (of_word word h) (e ∷ [])
              ∙ ap (λ (ns : List ℕ). ns ++ e.number ∷ []) so_far
              ∙ ap (λ (n : ℕ). range_with_len 0 (count_at word h) ++ n ∷ []) number
              ∙ sym (range_more 0 (count_at word h))
              ∙ ap (λ (n : ℕ). range_with_len 0 n) (sym grown)
          | inr other ↦
              ap (λ (es : List Change). map (λ x. x.number) es) (of_word_other word h e other)
              ∙ so_far
              ∙ ap (λ (n : ℕ). range_with_len 0 n) (sym (count_at_other word h e other))
        ]
