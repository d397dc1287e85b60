-- Each drawn number at or above the limit spends its caller, so a word's count passes the limit by at most the number of spent callers.
use Rattle.std.proofs.Common.{◌≡◌, ℕ, ◌+◌, ◌<◌, ◌≤◌, ◌⊎◌, Bool, true, false, eqb, leb, List, [], ◌∷◌, ◌++◌, length, refl, sym, ap, subst, ◌∙◌, inl, inr, arith}
use Rattle.std.specs.List.{IsDistinct, list_any}
use Rattle.std.proofs.lemmas.Bool.{cases_eq, cases_lt, or_cases, or_left, or_right, le-leb, eqb-true, true≢false}
use Rattle.std.proofs.lemmas.List.{length_push}
use Rattle.std.proofs.lemmas.List.Folds.{list_any-append}
use Rattle.std.proofs.lemmas.Cmp.{nat_eq_equiv}
use Rattle.std.proofs.lemmas.Map.Keys.{IsDistinct-push}
use Rattle.std.proofs.lemmas.Map.Steps.{length-le_from_distinct_below}
use Rattle.ticket_table.specs.declared.change.Role.{Role}
use Rattle.ticket_table.specs.declared.change.Role.TheVariants.{Draw, Serve}
use Rattle.ticket_table.specs.declared.change.Change.{Change}
use Rattle.ticket_table.specs.History.{Basis, MayFollow, IsHistory, of_caller, count_at, has_spent}
use Rattle.ticket_table.proofs.Histories.{by_steps, count_at_same, count_at_other, of_caller_same, of_caller_other}

-- a spent caller stays spent
has_spent_more : (role : Role) (limit : ℕ) (changes : List Change) (e : Change) → has_spent role limit changes ≡ true → has_spent role limit (changes ++ e ∷ []) ≡ true
has_spent_more Draw limit changes e spent =
    list_any-append (λ (x : Change). leb limit x.number) changes (e ∷ []) ∙ or_left (list_any (λ (x : Change). leb limit x.number) changes) (list_any (λ (x : Change). leb limit x.number) (e ∷ [])) spent
has_spent_more Serve limit changes e spent = absurd (cc)

-- a number at or above the limit spends its caller
has_spent_now : (role : Role) (limit : ℕ) (changes : List Change) (e : Change) → role ≡ Draw → limit ≤ e.number → has_spent role limit (changes ++ e ∷ []) ≡ true
has_spent_now Draw limit changes e draw above =
    list_any-append (λ (x : Change). leb limit x.number) changes (e ∷ [])
    ∙ or_right (list_any (λ (x : Change). leb limit x.number) changes) (list_any (λ (x : Change). leb limit x.number) (e ∷ []))
    (or_left (leb limit e.number) false (le-leb limit e.number above))
has_spent_now Serve limit changes e draw above = absurd (cc)

module _ (basis : Basis) where
  abbrev is_spent : List Change → ℕ → Bool
  is_spent h caller = has_spent basis.terms.role basis.terms.limit (of_caller caller h)

  -- callers that are spent, at least as many as the count of the word passes the limit by
  record Spent (word : ℕ) (h : List Change) : Type 0 where
    callers : List ℕ
    distinct : IsDistinct eqb callers
    below : (q : ℕ) → list_any (eqb q) callers ≡ true → q < basis.terms.callers
    spent : (q : ℕ) → list_any (eqb q) callers ≡ true → is_spent h q ≡ true
    count : count_at word h ≤ basis.terms.limit + length callers

  no_callers : IsDistinct eqb []
  unfolding IsDistinct
  no_callers = tt

  is_spent_more : (h : List Change) (e : Change) (q : ℕ) → is_spent h q ≡ true → is_spent (h ++ e ∷ []) q ≡ true
  is_spent_more h e q spent =
      elim (cases_eq e.caller q) [
        | inl same ↦
            ap (λ (es : List Change). has_spent basis.terms.role basis.terms.limit es) (of_caller_same q h e same)
            ∙ has_spent_more basis.terms.role basis.terms.limit (of_caller q h) e spent
        | inr other ↦ ap (λ (es : List Change). has_spent basis.terms.role basis.terms.limit es) (of_caller_other q h e other) ∙ spent
      ]

  -- one more at another word, or below the limit
  stays : (word : ℕ) (h : List Change) (e : Change) → count_at word (h ++ e ∷ []) ≤ basis.terms.limit ⊎ (count_at word (h ++ e ∷ []) ≡ count_at word h)
      → Spent word h → Spent word (h ++ e ∷ [])
  stays word h e count s = record {
    callers = s.callers;
    distinct = s.distinct;
    below = s.below;
    spent = λ q has. is_spent_more h e q (s.spent q has);
    count = elim count [ inl low ↦ omega (arith, s.count) | inr same ↦ omega (arith, s.count) ];
  }

  -- one more at or above the limit, by a caller that was not spent
  joins : (word : ℕ) (h : List Change) (e : Change) → basis.terms.role ≡ Draw → MayFollow basis h e → e.word ≡ word → basis.terms.limit ≤ e.number
      → Spent word h → Spent word (h ++ e ∷ [])
  joins word h e draw next same above s =
      let now : is_spent (h ++ e ∷ []) e.caller ≡ true =
      ap (λ (es : List Change). has_spent basis.terms.role basis.terms.limit es) (of_caller_same e.caller h e refl)
      ∙ has_spent_now basis.terms.role basis.terms.limit (of_caller e.caller h) e draw above in
      let fresh : list_any (eqb e.caller) s.callers ≡ false = not_there (list_any (eqb e.caller) s.callers) refl in
      record {
        callers = s.callers ++ e.caller ∷ [];
        distinct = IsDistinct-push nat_eq_equiv s.callers e.caller s.distinct fresh;
        below = λ q has. elim (there q has) [ inl old ↦ s.below q old | inr new ↦ subst (λ (c : ℕ). c < basis.terms.callers) (sym new) next.caller ];
        spent = λ q has. elim (there q has) [
          | inl old ↦ is_spent_more h e q (s.spent q old)
          | inr new ↦ subst (λ (c : ℕ). is_spent (h ++ e ∷ []) c ≡ true) (sym new) now
        ];
        count = omega (arith, s.count, count_at_same word h e same, length_push s.callers e.caller);
      }
    where
      not_there : (b : Bool) → list_any (eqb e.caller) s.callers ≡ b → list_any (eqb e.caller) s.callers ≡ false
      not_there true has = absurd (true≢false (sym (s.spent e.caller has) ∙ next.unspent))
      not_there false has = has

      there : (q : ℕ) → list_any (eqb q) (s.callers ++ e.caller ∷ []) ≡ true → (list_any (eqb q) s.callers ≡ true) ⊎ (q ≡ e.caller)
      there q has =
          elim (or_cases (list_any (eqb q) s.callers) (list_any (eqb q) (e.caller ∷ [])) (sym (list_any-append (eqb q) s.callers (e.caller ∷ [])) ∙ has)) [
            | inl old ↦ inl old
            | inr new ↦ elim (or_cases (eqb q e.caller) false new) [ inl hit ↦ inr (eqb-true q e.caller hit) | inr miss ↦ absurd (cc) ]
          ]

  spent_callers : basis.terms.role ≡ Draw → (word : ℕ) (h : List Change) → IsHistory basis h → Spent word h
  spent_callers draw word h all =
      by_steps basis (λ (es : List Change). Spent word es)
      record { callers = []; distinct = no_callers; below = λ q has. absurd (cc); spent = λ q has. absurd (cc); count = omega arith }
      step h all
    where
      step : (h : List Change) (e : Change) → IsHistory basis h → MayFollow basis h e → Spent word h → Spent word (h ++ e ∷ [])
      step h e earlier next s =
          elim (cases_eq e.word word) [
            | inl same ↦
                let number : e.number ≡ count_at word h = next.number ∙ ap (λ (w : ℕ). count_at w h) same in
                elim (cases_lt e.number basis.terms.limit) [
                  | inl low ↦ stays word h e (inl (omega (arith, count_at_same word h e same))) s
                  | inr above ↦ joins word h e draw next same above s
                ]
            | inr other ↦ stays word h e (inr (count_at_other word h e other)) s
          ]

  -- a caller that is not spent finds each word's count below the limit and the number of callers
  pub below_unspent : (h : List Change) (caller word : ℕ) → IsHistory basis h → basis.terms.role ≡ Draw → caller < basis.terms.callers
      → has_spent basis.terms.role basis.terms.limit (of_caller caller h) ≡ false → count_at word h < basis.terms.limit + basis.terms.callers
  below_unspent h caller word all draw within unspent =
      let s = spent_callers draw word h all in
      let fresh : list_any (eqb caller) s.callers ≡ false = not_there s (list_any (eqb caller) s.callers) refl in
      let few = length-le_from_distinct_below (s.callers ++ caller ∷ []) basis.terms.callers
      (IsDistinct-push nat_eq_equiv s.callers caller s.distinct fresh) (below s) in
      omega (arith, s.count, few, length_push s.callers caller)
    where
      not_there : (s : Spent word h) (b : Bool) → list_any (eqb caller) s.callers ≡ b → list_any (eqb caller) s.callers ≡ false
      not_there s true has = absurd (true≢false (sym (s.spent caller has) ∙ unspent))
      not_there s false has = has

      below : (s : Spent word h) (q : ℕ) → list_any (eqb q) (s.callers ++ caller ∷ []) ≡ true → q < basis.terms.callers
      below s q has =
          elim (or_cases (list_any (eqb q) s.callers) (list_any (eqb q) (caller ∷ [])) (sym (list_any-append (eqb q) s.callers (caller ∷ [])) ∙ has)) [
            | inl old ↦ s.below q old
            | inr new ↦ elim (or_cases (eqb q caller) false new) [
              | inl hit ↦ subst (λ (c : ℕ). c < basis.terms.callers) (sym (eqb-true q caller hit)) within
              | inr miss ↦ absurd (cc)
            ]
          ]
