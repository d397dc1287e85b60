-- Legal merges of what is left of logs: a ready core's next entry may always come first.
use Rattle.std.proofs.Common.{◌≡◌, ◌≢◌, ◌⊎◌, ℕ, suc, ◌+◌, ◌≤◌, List, [], ◌∷◌, ◌++◌, drop, cond, Bool, true, false, eqb, Option, Some, None, refl, sym, ap, subst, ◌∙◌, inl, inr, arith, eqb-true, eq-eqb, add-one}
use Rattle.std.proofs.lemmas.Bool.Decides.{eqb_tells}
use Rattle.order_core.specs.declared.entry.Access.{Access}
use Rattle.order_core.specs.declared.entry.Entry.{Entry}
use Rattle.order_core.specs.Marked.{Marked, part_of, number_at, numbers_of}
use Rattle.order_core.specs.LegalMerge.{CountUpFrom}
use Rattle.order_core.specs.CanonicalMerge.{is_ready, may_touch, left_after, raised}
use Rattle.order_core.proofs.SetAtLemmas.{set_at_same, set_at_other}
use Rattle.order_core.proofs.MarkedLemmas.{without, part_of_same, part_of_other, part_of_without_same, part_of_without_other, number_at_some, number_at_apart, numbers_of_without}

-- marked entries that are a legal merge of what is left, from the numbers that the words have reached
pub record IsLegalFrom (left : ℕ → List Entry) (reached : ℕ → ℕ) (marked : List Marked) : Type 0 where
  pub parts : (core : ℕ) → part_of core marked ≡ left core
  pub numbers : (word : ℕ) → CountUpFrom (reached word) (numbers_of word marked)

-- the first number of a word is the one that it has reached
count_up_first : (word first : ℕ) (access : Access) (numbers : List ℕ) → access.word ≡ word → CountUpFrom first (number_at word (Some access) ++ numbers) → (access.number ≡ first) × CountUpFrom (suc first) numbers
count_up_first word first access numbers e h =
    let P : List ℕ → Type 0 = λ front. CountUpFrom first (front ++ numbers) in
    subst P (number_at_some word access e) h

count_up_rest : (word first : ℕ) (access : Access) (numbers : List ℕ) → access.word ≢ word → CountUpFrom first (number_at word (Some access) ++ numbers) → CountUpFrom first numbers
count_up_rest word first access numbers e h =
    let P : List ℕ → Type 0 = λ front. CountUpFrom first (front ++ numbers) in
    subst P (number_at_apart word access e) h

-- the next access of a core has at least the number that its word has reached
number_reached : (core : ℕ) (entry : Entry) (entries : List Entry) (access : Access) (marked : List Marked) (first : ℕ) → part_of core marked ≡ entry ∷ entries → entry.touch ≡ Some access
    → CountUpFrom first (numbers_of access.word marked) → first ≤ access.number
number_reached core entry entries access [] first e t h = cc
number_reached core entry entries access (m ∷ marked) first e t h = step (eqb_tells m.0 core) (m.1).touch refl h (number_reached core entry entries access marked)
  where
    step : ((eqb m.0 core ≡ true) × (m.0 ≡ core)) ⊎ ((eqb m.0 core ≡ false) × (m.0 ≢ core)) → (touch : Option Access) → (m.1).touch ≡ touch → CountUpFrom first (number_at access.word touch ++ numbers_of access.word marked)
        → ((from : ℕ) → part_of core marked ≡ entry ∷ entries → entry.touch ≡ Some access → CountUpFrom from (numbers_of access.word marked) → from ≤ access.number) → first ≤ access.number
    step (inl same) touch p h rest =
        let first_entry : m.1 ≡ entry = cc (sym (part_of_same core m marked same.1) ∙ e) in
        let touch_is : touch ≡ Some access = sym p ∙ ap (λ (y : Entry). y.touch) first_entry ∙ t in
        let P : Option Access → Type 0 = λ touch. CountUpFrom first (number_at access.word touch ++ numbers_of access.word marked) in
        let found = count_up_first access.word first access (numbers_of access.word marked) refl (subst P touch_is h) in
        omega (arith, found.0)
    step (inr apart) None p h rest = rest first (sym (part_of_other core m marked apart.1) ∙ e) t h
    step (inr apart) (Some touched) p h rest = at (eqb_tells touched.word access.word)
      where
        at : ((eqb touched.word access.word ≡ true) × (touched.word ≡ access.word)) ⊎ ((eqb touched.word access.word ≡ false) × (touched.word ≢ access.word)) → first ≤ access.number
        at (inl here) =
            let found = count_up_first access.word first touched (numbers_of access.word marked) here.1 h in
            let later = rest (suc first) (sym (part_of_other core m marked apart.1) ∙ e) t found.1 in
            omega (arith, later)
        at (inr elsewhere) = rest first (sym (part_of_other core m marked apart.1) ∙ e) t (count_up_rest access.word first touched (numbers_of access.word marked) elsewhere.1 h)

-- without a core's next access, which has the number that its word has reached, the word goes on from the next number
count_up_without : (core : ℕ) (entry : Entry) (entries : List Entry) (access : Access) (marked : List Marked) → part_of core marked ≡ entry ∷ entries → entry.touch ≡ Some access
    → CountUpFrom access.number (numbers_of access.word marked) → CountUpFrom (suc access.number) (numbers_of access.word (without core marked))
count_up_without core entry entries access [] e t h = cc
count_up_without core entry entries access (m ∷ marked) e t h = step (eqb_tells m.0 core) (m.1).touch refl h (count_up_without core entry entries access marked)
  where
    step : ((eqb m.0 core ≡ true) × (m.0 ≡ core)) ⊎ ((eqb m.0 core ≡ false) × (m.0 ≢ core)) → (touch : Option Access) → (m.1).touch ≡ touch → CountUpFrom access.number (number_at access.word touch ++ numbers_of access.word marked)
        → (part_of core marked ≡ entry ∷ entries → entry.touch ≡ Some access → CountUpFrom access.number (numbers_of access.word marked) → CountUpFrom (suc access.number) (numbers_of access.word (without core marked)))
        → CountUpFrom (suc access.number) (numbers_of access.word (without core (m ∷ marked)))
    step (inl same) touch p h rest =
        let first_entry : m.1 ≡ entry = cc (sym (part_of_same core m marked same.1) ∙ e) in
        let touch_is : touch ≡ Some access = sym p ∙ ap (λ (y : Entry). y.touch) first_entry ∙ t in
        let P : Option Access → Type 0 = λ touch. CountUpFrom access.number (number_at access.word touch ++ numbers_of access.word marked) in
        let found = count_up_first access.word access.number access (numbers_of access.word marked) refl (subst P touch_is h) in
        let Q : Bool → Type 0 = λ b. CountUpFrom (suc access.number) (numbers_of access.word (cond b marked (m ∷ without core marked))) in
        subst Q (sym same.0) found.1
    step (inr apart) touch p h rest =
        let Q : Bool → Type 0 = λ b. CountUpFrom (suc access.number) (numbers_of access.word (cond b marked (m ∷ without core marked))) in
        let R : Option Access → Type 0 = λ touch. CountUpFrom (suc access.number) (number_at access.word touch ++ numbers_of access.word (without core marked)) in
        subst Q (sym apart.0) (subst R (sym p) (at touch h))
      where
        at : (touch : Option Access) → CountUpFrom access.number (number_at access.word touch ++ numbers_of access.word marked) → CountUpFrom (suc access.number) (number_at access.word touch ++ numbers_of access.word (without core marked))
        at None h = rest (sym (part_of_other core m marked apart.1) ∙ e) t h
        at (Some touched) h = there (eqb_tells touched.word access.word)
          where
            there : ((eqb touched.word access.word ≡ true) × (touched.word ≡ access.word)) ⊎ ((eqb touched.word access.word ≡ false) × (touched.word ≢ access.word))
                → CountUpFrom (suc access.number) (number_at access.word (Some touched) ++ numbers_of access.word (without core marked))
            there (inl here) =
                let found = count_up_first access.word access.number touched (numbers_of access.word marked) here.1 h in
                absurd (omega (arith, number_reached core entry entries access marked (suc access.number) (sym (part_of_other core m marked apart.1) ∙ e) t found.1))
            there (inr elsewhere) =
                let S : List ℕ → Type 0 = λ front. CountUpFrom (suc access.number) (front ++ numbers_of access.word (without core marked)) in
                subst S (sym (number_at_apart access.word touched elsewhere.1))
                (rest (sym (part_of_other core m marked apart.1) ∙ e) t (count_up_rest access.word access.number touched (numbers_of access.word marked) elsewhere.1 h))

module _ (left : ℕ → List Entry) (reached : ℕ → ℕ) (core : ℕ) (entry : Entry) (entries : List Entry) (next : left core ≡ entry ∷ entries) where
  left_same : left_after left core core ≡ entries
  left_same = set_at_same left core (drop 1 (left core)) ∙ ap (λ (log : List Entry). drop 1 log) next

  left_other : (other : ℕ) → other ≢ core → left_after left core other ≡ left other
  left_other other h = set_at_other left core other (drop 1 (left core)) h

  -- the entry of a ready core may come first
  pub legal_without : (marked : List Marked) → may_touch reached entry.touch ≡ true → IsLegalFrom left reached marked → IsLegalFrom (left_after left core) (raised reached entry.touch) (without core marked)
  legal_without marked ready legal = record {
    parts = λ other. parts other (eqb_tells other core);
    numbers = numbers entry.touch refl ready;
  }
    where
      parts : (other : ℕ) → ((eqb other core ≡ true) × (other ≡ core)) ⊎ ((eqb other core ≡ false) × (other ≢ core)) → part_of other (without core marked) ≡ left_after left core other
      parts other (inl same) =
          ap (λ (c : ℕ). part_of c (without core marked)) same.1 ∙ part_of_without_same core marked ∙ ap (λ (log : List Entry). drop 1 log) (legal.parts core) ∙ sym (set_at_same left core (drop 1 (left core))) ∙ ap (left_after left core) (sym same.1)
      parts other (inr apart) = part_of_without_other core other marked apart.1 ∙ legal.parts other ∙ sym (left_other other apart.1)

      first : part_of core marked ≡ entry ∷ entries
      first = legal.parts core ∙ next

      kept : (word : ℕ) → number_at word entry.touch ≡ [] → CountUpFrom (reached word) (numbers_of word (without core marked))
      kept word none =
          let P : List ℕ → Type 0 = λ numbers. CountUpFrom (reached word) numbers in
          subst P (sym (numbers_of_without word core entry entries marked first none)) (legal.numbers word)

      numbers : (touch : Option Access) → entry.touch ≡ touch → may_touch reached touch ≡ true → (word : ℕ) → CountUpFrom (raised reached touch word) (numbers_of word (without core marked))
      numbers None t ok word = kept word (ap (number_at word) t)
      numbers (Some access) t ok word = at (eqb_tells word access.word)
        where
          number : access.number ≡ reached access.word
          number = eqb-true access.number (reached access.word) ok

          at : ((eqb word access.word ≡ true) × (word ≡ access.word)) ⊎ ((eqb word access.word ≡ false) × (word ≢ access.word)) → CountUpFrom (raised reached (Some access) word) (numbers_of word (without core marked))
          at (inl same) =
              let P : ℕ → Type 0 = λ from. CountUpFrom from (numbers_of access.word marked) in
              let later = count_up_without core entry entries access marked first t (subst P (sym number) (legal.numbers access.word)) in
              let from : suc access.number ≡ raised reached (Some access) access.word = ap suc number ∙ sym (add-one (reached access.word)) ∙ sym (set_at_same reached access.word (reached access.word + 1)) in
              let Q : ℕ → Type 0 = λ from. CountUpFrom from (numbers_of access.word (without core marked)) in
              let R : ℕ → Type 0 = λ w. CountUpFrom (raised reached (Some access) w) (numbers_of w (without core marked)) in
              subst R (sym same.1) (subst Q from later)
          at (inr apart) =
              let Q : ℕ → Type 0 = λ from. CountUpFrom from (numbers_of word (without core marked)) in
              subst Q (sym (set_at_other reached access.word word (reached access.word + 1) apart.1))
              (kept word (ap (number_at word) t ∙ number_at_apart word access (λ e. apart.1 (sym e))))

  -- the entry of a ready core put first
  pub legal_with : (marked : List Marked) → may_touch reached entry.touch ≡ true → IsLegalFrom (left_after left core) (raised reached entry.touch) marked → IsLegalFrom left reached ((core, entry) ∷ marked)
  legal_with marked ready legal = record {
    parts = λ other. parts other (eqb_tells other core);
    numbers = numbers entry.touch refl ready;
  }
    where
      parts : (other : ℕ) → ((eqb other core ≡ true) × (other ≡ core)) ⊎ ((eqb other core ≡ false) × (other ≢ core)) → part_of other ((core, entry) ∷ marked) ≡ left other
      parts other (inl same) =
          ap (λ (c : ℕ). part_of c ((core, entry) ∷ marked)) same.1 ∙ part_of_same core (core, entry) marked refl ∙ ap (λ (part : List Entry). entry ∷ part) (legal.parts core ∙ left_same) ∙ sym next ∙ ap left (sym same.1)
      parts other (inr apart) = part_of_other other (core, entry) marked (λ e. apart.1 (sym e)) ∙ legal.parts other ∙ left_other other apart.1

      numbers : (touch : Option Access) → entry.touch ≡ touch → may_touch reached touch ≡ true → (word : ℕ) → CountUpFrom (reached word) (number_at word entry.touch ++ numbers_of word marked)
      numbers None t ok word =
          let P : Option Access → Type 0 = λ touch. CountUpFrom (raised reached touch word) (numbers_of word marked) in
          let Q : Option Access → Type 0 = λ touch. CountUpFrom (reached word) (number_at word touch ++ numbers_of word marked) in
          subst Q (sym t) (subst P t (legal.numbers word))
      numbers (Some access) t ok word =
          let P : Option Access → Type 0 = λ touch. CountUpFrom (raised reached touch word) (numbers_of word marked) in
          let Q : Option Access → Type 0 = λ touch. CountUpFrom (reached word) (number_at word touch ++ numbers_of word marked) in
          subst Q (sym t) (at (eqb_tells word access.word) (subst P t (legal.numbers word)))
        where
          number : access.number ≡ reached access.word
          number = eqb-true access.number (reached access.word) ok

          at : ((eqb word access.word ≡ true) × (word ≡ access.word)) ⊎ ((eqb word access.word ≡ false) × (word ≢ access.word)) → CountUpFrom (raised reached (Some access) word) (numbers_of word marked)
              → CountUpFrom (reached word) (number_at word (Some access) ++ numbers_of word marked)
          at (inl same) later =
              let from : raised reached (Some access) word ≡ suc (reached word) = ap (raised reached (Some access)) same.1 ∙ set_at_same reached access.word (reached access.word + 1) ∙ add-one (reached access.word) ∙ ap (λ (w : ℕ). suc (reached w)) (sym same.1) in
              let P : ℕ → Type 0 = λ from. CountUpFrom from (numbers_of word marked) in
              let Q : List ℕ → Type 0 = λ front. CountUpFrom (reached word) (front ++ numbers_of word marked) in
              subst Q (sym (number_at_some word access (sym same.1))) (number ∙ ap reached (sym same.1), subst P from later)
          at (inr apart) later =
              let P : ℕ → Type 0 = λ from. CountUpFrom from (numbers_of word marked) in
              let Q : List ℕ → Type 0 = λ front. CountUpFrom (reached word) (front ++ numbers_of word marked) in
              subst Q (sym (number_at_apart word access (λ e. apart.1 (sym e)))) (subst P (set_at_other reached access.word word (reached access.word + 1) apart.1) later)

-- the first entry of a legal merge is of a ready core
pub legal_first : (left : ℕ → List Entry) (reached : ℕ → ℕ) (m : Marked) (marked : List Marked) → IsLegalFrom left reached (m ∷ marked) → is_ready reached (left m.0) ≡ true
legal_first left reached m marked legal =
    ap (is_ready reached) (sym (legal.parts m.0) ∙ part_of_same m.0 m marked refl) ∙ ready (m.1).touch refl
  where
    ready : (touch : Option Access) → (m.1).touch ≡ touch → may_touch reached touch ≡ true
    ready None t = refl
    ready (Some access) t =
        let P : Option Access → Type 0 = λ touch. CountUpFrom (reached access.word) (number_at access.word touch ++ numbers_of access.word marked) in
        let found = count_up_first access.word (reached access.word) access (numbers_of access.word marked) refl (subst P t (legal.numbers access.word)) in
        eq-eqb access.number (reached access.word) found.0
