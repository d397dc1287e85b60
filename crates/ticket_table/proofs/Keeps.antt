-- A table whose words or one view change: when the rule still holds, and that a load keeps it.
use Rattle.std.proofs.Common.{◌≡◌, ◌≢◌, ◌⊎◌, ℕ, zero, suc, ◌+◌, ◌<◌, true, false, List, [], ◌∷◌, length, get_or, set, refl, sym, ap, subst, ◌∙◌, inl, inr, arith}
use Rattle.std.proofs.lemmas.Bool.{false_from_ne_true, cases_eq}
use Rattle.std.proofs.lemmas.List.{set-get_or}
use mathlib.Core.Option.{some, none, some-injective, some-ne-none}
use lib.ListN.{get_elem?}
use Rattle.atomic_table.specs.Table.{Me, step, keeps, Allows}
use Rattle.atomic_table.proofs.Lists.{at_set, set_else}
use Rattle.ticket_table.specs.declared.change.Change.{Change}
use Rattle.ticket_table.specs.declared.change.View.{View}
use Rattle.ticket_table.specs.declared.change.Note.{Note}
use Rattle.ticket_table.specs.declared.change.Terms.{Terms}
use Rattle.ticket_table.specs.declared.change.Role.TheVariants.{Draw}
use Rattle.ticket_table.specs.Words.{number_of}
use Rattle.ticket_table.specs.History.{Basis, IsHistory, Leaves, count_at, of_caller, has_spent}
use Rattle.ticket_table.specs.Views.{has, looked}
use Rattle.ticket_table.specs.Rule.{FitsHistory, AreApart, IsHeld, KeptBy, Kept, Below, Looked}
use Rattle.ticket_table.proofs.SpentCallers.{below_unspent}

-- one view is changed for another with no more callers
pub apart_set : (views : List View) (id : ℕ) (v w : View) → get_elem? views id ≡ some v → ((c : ℕ) → has w.callers c ≡ true → has v.callers c ≡ true) → AreApart views
    → AreApart (set views id w)
apart_set views id v w at fewer apart i j a b c ia jb ne ha = first (at_set views id i w a ia)
  where
    fewer_still : has v.callers c ≡ false → has w.callers c ≡ false
    fewer_still without = false_from_ne_true (has w.callers c) (λ yes. let both = fewer c yes in cc)

    second : (has v.callers c ≡ true) → i ≡ id → ((j ≡ id) × (w ≡ b)) ⊎ ((j ≢ id) × (get_elem? views j ≡ some b)) → has b.callers c ≡ false
    second hv ii (inl same) = absurd (ne (ii ∙ sym same.0))
    second hv ii (inr other) = apart id j v b c at other.1 (λ e. other.0 (sym e)) hv

    third : i ≢ id → get_elem? views i ≡ some a → ((j ≡ id) × (w ≡ b)) ⊎ ((j ≢ id) × (get_elem? views j ≡ some b)) → has b.callers c ≡ false
    third ni ia (inl same) = subst (λ (u : View). has u.callers c ≡ false) same.1 (fewer_still (apart i id a v c ia at ni ha))
    third ni ia (inr other) = apart i j a b c ia other.1 ne ha

    first : ((i ≡ id) × (w ≡ a)) ⊎ ((i ≢ id) × (get_elem? views i ≡ some a)) → has b.callers c ≡ false
    first (inl same) = second (fewer c (subst (λ (u : View). has u.callers c ≡ true) (sym same.1) ha)) same.0 (at_set views id j w b jb)
    first (inr other) = third other.0 other.1 (at_set views id j w b jb)

-- each view fits, where one is changed for another that fits
pub fits_set : (basis : Basis) (words : List ℕ) (views : List View) (changes : List Change) (id : ℕ) (w : View) → ((j : ℕ) (u : View) → j ≢ id → get_elem? views j ≡ some u → FitsHistory basis changes words u) → FitsHistory basis changes words w
    → (j : ℕ) (u : View) → get_elem? (set views id w) j ≡ some u → FitsHistory basis changes words u
fits_set basis words views changes id w others this j u e = by (at_set views id j w u e)
  where
    by : ((j ≡ id) × (w ≡ u)) ⊎ ((j ≢ id) × (get_elem? views j ≡ some u)) → FitsHistory basis changes words u
    by (inl same) = subst (λ (u : View). FitsHistory basis changes words u) same.1 this
    by (inr other) = others j u other.0 other.1

-- what stands in a list where it was changed
pub set_there : (views : List View) (id : ℕ) (v w : View) → get_elem? views id ≡ some v → get_elem? (set views id w) id ≡ some w
set_there [] id v w at = absurd (some-ne-none v (sym at))
set_there (x ∷ views) zero v w at = refl
set_there (x ∷ views) (suc id) v w at = set_there views id v w at

-- a caller stays held, where a view is changed for another that stands for it as the first did
pub held_set : (views : List View) (id : ℕ) (v w : View) (caller : ℕ) → get_elem? views id ≡ some v → (v.live ≡ true → w.live ≡ true) → (has v.callers caller ≡ true → has w.callers caller ≡ true) → IsHeld views caller
    → IsHeld (set views id w) caller
held_set views id v w caller at live still held = by (cases_eq held.0 id)
  where
    by : (held.0 ≡ id) ⊎ (held.0 ≢ id) → IsHeld (set views id w) caller
    by (inl same) =
        let is : held.1 ≡ v = some-injective held.1 v (sym held.2 ∙ (ap (λ (i : ℕ). get_elem? views i) same ∙ at)) in
        (id, w, set_there views id v w at, live (sym (ap (λ (u : View). u.live) is) ∙ held.3), still (sym (ap (λ (u : View). has u.callers caller) is) ∙ held.4))
    by (inr apart) = (held.0, held.1, set_else views id held.0 w apart ∙ held.2, held.3, held.4)

-- the rule with one view changed for another that stands for the same callers
pub kept_set : (basis : Basis) (words : List ℕ) (views : List View) (changes : List Change) (id : ℕ) (v w : View) → IsHistory basis changes → Leaves basis changes words
    → ((j : ℕ) (u : View) → j ≢ id → get_elem? views j ≡ some u → FitsHistory basis changes words u) → FitsHistory basis changes words w
    → get_elem? views id ≡ some v → v.live ≡ w.live → v.callers ≡ w.callers → AreApart views → ((caller : ℕ) → caller < basis.terms.callers → IsHeld views caller)
    → KeptBy basis words (set views id w) changes
kept_set basis words views changes id v w history leaves others this at live callers apart held =
    record {
      history = history;
      leaves = leaves;
      fits = fits_set basis words views changes id w others this;
      apart = apart_set views id v w at (λ c is. ap (λ (cs : List ℕ). has cs c) callers ∙ is) apart;
      held = λ c below. held_set views id v w c at (λ is. sym live ∙ is) (λ is. sym (ap (λ (cs : List ℕ). has cs c) callers) ∙ is) (held c below);
    }

-- a view fits whose last look is at what the word is now
pub fits_looked : (basis : Basis) (changes : List Change) (words : List ℕ) (v : View) (i : ℕ) → FitsHistory basis changes words v → FitsHistory basis changes words (looked v i (get_or words i 0))
fits_looked basis changes words v i fits =
    record {
      same = fits.same;
      bounds = fits.bounds;
      own = fits.own;
      only = fits.only;
      last = λ word x e.
          let pair : ◌≡◌ {A = ℕ × ℕ} (i, get_or words i 0) (word, x) = cc in
          let place : i ≡ word = ap (λ t. t.0) pair in
          let value : get_or words i 0 ≡ x = ap (λ t. t.1) pair in
          let now : x ≡ get_or words word 0 = sym value ∙ ap (λ (k : ℕ). get_or words k 0) place in
          (let same : number_of x ≡ number_of (get_or words word 0) = ap number_of now in omega arith, λ _. now);
    }

-- what an unspent drawer finds is below the limit and the callers together
pub below_here : (basis : Basis) (words : List ℕ) (views : List View) (changes : List Change) (id i : ℕ) (v : View) → KeptBy basis words views changes → get_elem? views id ≡ some v
    → i < length basis.first → Below v (get_or words i 0)
below_here basis words views changes id i v kept at within c live draw mine unspent =
    let fits = kept.fits id v at in
    let same : basis.terms ≡ v.terms = sym (fits.same live) in
    let bound = fits.bounds c mine in
    let role : basis.terms.role ≡ Draw = ap (λ t. t.role) same ∙ draw in
    let quiet : has_spent v.terms.role v.terms.limit (of_caller c changes) ≡ false = ap (λ l. has_spent v.terms.role v.terms.limit l) (fits.own c mine) ∙ unspent in
    let still : has_spent basis.terms.role basis.terms.limit (of_caller c changes) ≡ false =
    subst (λ (t : Terms). has_spent t.role t.limit (of_caller c changes) ≡ false) (sym same) quiet in
    let count = below_unspent basis changes c i kept.history role bound still in
    let number : number_of (get_or words i 0) ≡ count_at i changes = kept.leaves.numbers i (let long = kept.leaves.count in omega arith) in
    subst (λ (t : Terms). number_of (get_or words i 0) < t.limit + t.callers) same (omega arith)

-- the rule after a look
pub looked_kept : (basis : Basis) (words : List ℕ) (views : List View) (changes : List Change) (id i : ℕ) (v : View) → KeptBy basis words views changes → get_elem? views id ≡ some v
    → KeptBy basis (set words i (get_or words i 0)) (set views id (looked v i (get_or words i 0))) changes
looked_kept basis words views changes id i v kept at =
    let w : View = looked v i (get_or words i 0) in
    let stays : KeptBy basis words (set views id w) changes =
    kept_set basis words views changes id v w kept.history kept.leaves (λ j u _ e. kept.fits j u e) (fits_looked basis changes words v i (kept.fits id v at)) at refl refl kept.apart kept.held in
    let P : List ℕ → Type 0 = λ ws. KeptBy basis ws (set views id w) changes in
    subst P (sym (set-get_or words i 0)) stays

pub looks : (basis : Basis) (slots id i : ℕ) (me : Me Note View) → i < length basis.first → Allows (Kept basis) slots id me i (λ n. n) (Looked (step slots i 0 0 none) me)
looks basis slots id i me within s kept homes at small =
    (looked me.0 i (get_or s.words i 0), keeps, tt, (kept.0, looked_kept basis s.words s.views kept.0 id i me.0 kept.1 at), (refl, below_here basis s.words s.views kept.0 id i me.0 kept.1 at within))
