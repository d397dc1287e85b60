-- An exchange keeps the rule: won, it adds its change to the history; lost, it is a look at the word.
use Rattle.std.proofs.Common.{◌≡◌, ◌≢◌, ◌⊎◌, ℕ, ◌+◌, ◌<◌, ◌≤◌, Bool, true, false, eqb, List, [], ◌∷◌, ◌++◌, length, get_or, set, Some, refl, sym, ap, subst, ◌∙◌, inl, inr, arith, get_or-set_same, get_or-set_other, eq-eqb, ne_eqb}
use Rattle.std.proofs.lemmas.Bool.{cases_eq}
use Rattle.std.proofs.lemmas.List.Elements.{filter-append}
use mathlib.Core.Option.{some}
use mathlib.Core.Logic.{dite}
use native.Mathlib.Decide.{ℕ_discrete}
use prog.Atomic.{either}
use lib.ListN.{get_elem?}
use Rattle.atomic_table.specs.Table.{State, Me, step, keeps, Allows}
use Rattle.ticket_table.specs.declared.change.Change.{Change}
use Rattle.ticket_table.specs.declared.change.View.{View}
use Rattle.ticket_table.specs.declared.change.Note.{Note}
use Rattle.ticket_table.specs.declared.change.Terms.{Terms}
use Rattle.ticket_table.specs.Words.{number_of, payload_of, packed}
use Rattle.ticket_table.specs.History.{Basis, MayFollow, of_caller, has_spent, left_by, made, Follows}
use Rattle.ticket_table.specs.Views.{has, looked, grown}
use Rattle.ticket_table.specs.Rule.{FitsHistory, KeptBy, Kept, Exchanged}
use Rattle.ticket_table.proofs.Histories.{history_more, of_caller_other}
use Rattle.ticket_table.proofs.Leaving.{leaves_more, number_of_word_of}
use Rattle.ticket_table.proofs.Following.{follows_caller}
use Rattle.ticket_table.proofs.Keeps.{kept_set, looked_kept, below_here}

-- what an exchange of `first` for `second` asks: the seat stands for the caller, last found the word so, and writes what the caller's change leaves
pub record Asks (v : View) (word first second : ℕ) (note : Note) : Type 0 where
  pub live : v.live ≡ true
  pub caller : has v.callers note.caller ≡ true
  pub last : v.last ≡ Some (word, first)
  pub below : number_of first < v.terms.limit + v.terms.callers
  pub unspent : has_spent v.terms.role v.terms.limit (of_caller note.caller v.mine) ≡ false
  pub small : left_by v.terms.role v.terms.limit note.op (number_of first) (payload_of first) < 4294967296
  pub written : second ≡ packed (number_of first + 1) (left_by v.terms.role v.terms.limit note.op (number_of first) (payload_of first))

-- ---- won

module _ (basis : Basis) (words : List ℕ) (views : List View) (h : List Change) (id : ℕ) (v : View) (kept : KeptBy basis words views h) (at : get_elem? views id ≡ some v) where
  -- the change that a caller makes of what the word is now may come next
  pub may_follow : (word : ℕ) (note : Note) → word < length basis.first → v.live ≡ true → has v.callers note.caller ≡ true → number_of (get_or words word 0) < v.terms.limit + v.terms.callers
      → has_spent v.terms.role v.terms.limit (of_caller note.caller v.mine) ≡ false → MayFollow basis h (made v.terms note.caller word (number_of (get_or words word 0)) note.op (payload_of (get_or words word 0)))
  may_follow word note within live mine below unspent =
      let fits = kept.fits id v at in
      let same : v.terms ≡ basis.terms = fits.same live in
      let count = kept.leaves.count in
      let there : word < length words = omega arith in
      let n : ℕ = number_of (get_or words word 0) in
      let p : ℕ = payload_of (get_or words word 0) in
      record {
        word = within;
        caller = fits.bounds note.caller mine;
        number = kept.leaves.numbers word there;
        old = kept.leaves.payloads word there;
        new = ap (λ (t : Terms). left_by t.role t.limit note.op n p) same;
        below = (let P : Terms → Type 0 = λ t. n < t.limit + t.callers in subst P same below);
        unspent =
            (let P : Terms → Type 0 = λ t. has_spent t.role t.limit (of_caller note.caller h) ≡ false in
            subst P same (ap (λ (xs : List Change). has_spent v.terms.role v.terms.limit xs) (fits.own note.caller mine) ∙ unspent));
      }

  module _ (e : Change) (may : MayFollow basis h e) (mine : has v.callers e.caller ≡ true) (small : e.new < 4294967296) where
    after : List ℕ
    after = set words e.word (packed (e.number + 1) e.new)

    there : e.word < length words
    there = let count = kept.leaves.count in let within = may.word in omega arith

    written : get_or after e.word 0 ≡ packed (e.number + 1) e.new
    unfolding after
    written = get_or-set_same words e.word (packed (e.number + 1) e.new) 0 there

    grown_fits : FitsHistory basis (h ++ e ∷ []) after (grown v e)
    grown_fits =
        let fits = kept.fits id v at in
        record {
          same = fits.same;
          bounds = fits.bounds;
          own = λ c has_it. filter-append (λ (x : Change). eqb x.caller c) h (e ∷ [])
              ∙ ap (λ (xs : List Change). xs ++ of_caller c (e ∷ [])) (fits.own c has_it)
              ∙ sym (filter-append (λ (x : Change). eqb x.caller c) v.mine (e ∷ []));
          only = λ c without. of_caller_other c v.mine e (λ is. absurd (let here : has v.callers c ≡ true = subst (λ (k : ℕ). has v.callers k ≡ true) is mine in cc)) ∙ fits.only c without;
          last = λ word x is.
              let pair : ◌≡◌ {A = ℕ × ℕ} (e.word, packed (e.number + 1) e.new) (word, x) = cc in
              let place : e.word ≡ word = ap (λ t. t.0) pair in
              let value : packed (e.number + 1) e.new ≡ x = ap (λ t. t.1) pair in
              let now : x ≡ get_or after word 0 = sym value ∙ (sym written ∙ ap (λ (k : ℕ). get_or after k 0) place) in
              (let same : number_of x ≡ number_of (get_or after word 0) = ap number_of now in omega arith, λ _. now);
        }

    other_fits : (j : ℕ) (u : View) → j ≢ id → get_elem? views j ≡ some u → FitsHistory basis (h ++ e ∷ []) after u
    unfolding after
    other_fits j u apart there_is =
        let fits = kept.fits j u there_is in
        let without : has u.callers e.caller ≡ false = kept.apart id j v u e.caller at there_is (λ is. apart (sym is)) mine in
        record {
          same = fits.same;
          bounds = fits.bounds;
          own = λ c has_it. of_caller_other c h e (λ is. absurd (let not : has u.callers c ≡ false = subst (λ (k : ℕ). has u.callers k ≡ false) is without in cc)) ∙ fits.own c has_it;
          only = fits.only;
          last = λ word x is. by_word word x (fits.last word x is) (cases_eq word e.word);
        }
      where
        by_word : (word x : ℕ)
            → (number_of x ≤ number_of (get_or words word 0)) × (number_of x ≡ number_of (get_or words word 0) → x ≡ get_or words word 0)
            → (word ≡ e.word) ⊎ (word ≢ e.word)
            → (number_of x ≤ number_of (get_or (set words e.word (packed (e.number + 1) e.new)) word 0))
            × (number_of x ≡ number_of (get_or (set words e.word (packed (e.number + 1) e.new)) word 0) → x ≡ get_or (set words e.word (packed (e.number + 1) e.new)) word 0)
        by_word word x was (inl same) =
            let now : get_or (set words e.word (packed (e.number + 1) e.new)) word 0 ≡ packed (e.number + 1) e.new = ap (λ (k : ℕ). get_or (set words e.word (packed (e.number + 1) e.new)) k 0) same ∙ written in
            let number : number_of (get_or (set words e.word (packed (e.number + 1) e.new)) word 0) ≡ e.number + 1 = ap number_of now ∙ number_of_word_of (e.number + 1) e.new small in
            let before : number_of (get_or words word 0) ≡ e.number = ap (λ (k : ℕ). number_of (get_or words k 0)) same ∙ (kept.leaves.numbers e.word there ∙ sym may.number) in
            let le : number_of x ≤ number_of (get_or words word 0) = was.0 in
            (omega (arith, number, before, le), λ is. absurd (omega (arith, is, number, before, le)))
        by_word word x was (inr other) =
            let P : ℕ → Type 0 = λ y. (number_of x ≤ number_of y) × (number_of x ≡ number_of y → x ≡ y) in
            subst P (sym (get_or-set_other words e.word word (packed (e.number + 1) e.new) 0 other)) was

    pub grown_kept : KeptBy basis (set words e.word (packed (e.number + 1) e.new)) (set views id (grown v e)) (h ++ e ∷ [])
    unfolding after
    grown_kept =
        kept_set basis (set words e.word (packed (e.number + 1) e.new)) views (h ++ e ∷ []) id v (grown v e) (history_more basis h e kept.history may)
        (leaves_more basis h words e kept.leaves may small) other_fits grown_fits at refl refl kept.apart kept.held

    pub grown_follows : Follows (of_caller e.caller v.mine) e
    grown_follows =
        let P : List Change → Type 0 = λ xs. Follows xs e in
        subst P ((kept.fits id v at).own e.caller mine) (follows_caller basis h e e.caller kept.history may)

-- ---- the step

-- a number that is not above and of another word is below
less : (a b : ℕ) (x y : ℕ) → a ≤ b → (a ≡ b → x ≡ y) → y ≢ x → a < b
less a b x y le same apart = by (cases_eq a b)
  where
    by : (a ≡ b) ⊎ (a ≢ b) → a < b
    by (inl is) = absurd (apart (sym (same is)))
    by (inr not) = omega arith

module _ (basis : Basis) (s : State Note View) (h : List Change) (kept : KeptBy basis s.words s.views h) (id word : ℕ) (me : Me Note View) (at : get_elem? s.views id ≡ some me.0)
    (first second : ℕ) (note : Note) (within : word < length basis.first) (asks : Asks me.0 word first second note) where
  next_change : Change
  next_change = made me.0.terms note.caller word (number_of first) note.op (payload_of first)

  next_may : get_or s.words word 0 ≡ first → MayFollow basis h next_change
  unfolding next_change
  next_may hit =
      let P : ℕ → Type 0 = λ f. Asks me.0 word f second note → MayFollow basis h (made me.0.terms note.caller word (number_of f) note.op (payload_of f)) in
      subst P hit (λ a. may_follow basis s.words s.views h id me.0 kept at word note within a.live a.caller a.below a.unspent) asks

  won_kept : get_or s.words word 0 ≡ first → KeptBy basis (set s.words word (either (eqb (get_or s.words word 0) first) second (get_or s.words word 0))) (set s.views id (grown me.0 next_change)) (h ++ next_change ∷ [])
  unfolding next_change
  won_kept hit =
      let P : ℕ → Type 0 = λ y. KeptBy basis (set s.words word y) (set s.views id (grown me.0 next_change)) (h ++ next_change ∷ []) in
      let Q : Bool → Type 0 = λ b. P (either b second (get_or s.words word 0)) in
      subst Q (sym (eq-eqb (get_or s.words word 0) first hit)) (subst P (sym asks.written)
      (grown_kept basis s.words s.views h id me.0 kept at next_change (next_may hit) asks.caller asks.small))

  won_follows : get_or s.words word 0 ≡ first → Follows (of_caller next_change.caller me.0.mine) next_change
  unfolding next_change
  won_follows hit = grown_follows basis s.words s.views h id me.0 kept at next_change (next_may hit) asks.caller asks.small

  lost_kept : get_or s.words word 0 ≢ first → KeptBy basis (set s.words word (either (eqb (get_or s.words word 0) first) second (get_or s.words word 0))) (set s.views id (looked me.0 word (get_or s.words word 0))) h
  lost_kept miss =
      let Q : Bool → Type 0 = λ b. KeptBy basis (set s.words word (either b second (get_or s.words word 0))) (set s.views id (looked me.0 word (get_or s.words word 0))) h in
      subst Q (sym (ne_eqb (get_or s.words word 0) first miss)) (looked_kept basis s.words s.views h id word me.0 kept at)

  lost_later : get_or s.words word 0 ≢ first → number_of first < number_of (get_or s.words word 0)
  lost_later miss =
      let last = (kept.fits id me.0 at).last word first asks.last in
      less (number_of first) (number_of (get_or s.words word 0)) first (get_or s.words word 0) last.0 last.1 miss

pub exchanges : (basis : Basis) (slots id word : ℕ) (me : Me Note View) (first second : ℕ) (note : Note) → word < length basis.first → Asks me.0 word first second note
    → Allows (Kept basis) slots id me word (λ n. either (eqb n first) second n) (Exchanged (step slots word first second (some note)) me)
unfolding next_change
exchanges basis slots id word me first second note within asks s kept homes at small =
    let e = next_change basis s kept.0 kept.1 id word me at first second note within asks in
    dite (ℕ_discrete (get_or s.words word 0) first)
    (λ hit. (
      grown me.0 (made me.0.terms note.caller word (number_of first) note.op (payload_of first)),
      keeps,
      tt,
      (kept.0 ++ made me.0.terms note.caller word (number_of first) note.op (payload_of first) ∷ [], won_kept basis s kept.0 kept.1 id word me at first second note within asks hit),
      ((λ _. (refl, won_follows basis s kept.0 kept.1 id word me at first second note within asks hit)), λ miss. absurd (miss hit)),
    ))
    (λ miss. (
      looked me.0 word (get_or s.words word 0),
      keeps,
      tt,
      (kept.0, lost_kept basis s kept.0 kept.1 id word me at first second note within asks miss),
      (
        (λ hit. absurd (miss hit)),
        λ _. (
          refl,
          lost_later basis s kept.0 kept.1 id word me at first second note within asks miss,
          below_here basis s.words s.views kept.0 id word me.0 kept.1 at within,
        ),
      ),
    ))
