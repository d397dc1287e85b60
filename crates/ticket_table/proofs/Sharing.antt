-- Making a table, splitting a seat and joining two keep the rule.
use Rattle.std.proofs.Common.{◌≡◌, ◌≢◌, ◌⊎◌, ℕ, zero, suc, ◌+◌, ◌/◌, ◌<◌, ◌≤◌, Bool, true, false, ◌||◌, eqb, List, [], ◌∷◌, ◌++◌, length, get_or, set, refl, sym, ap, subst, ◌∙◌, inl, inr, ⊎_elim, arith, append-nil, eq-eqb}
use Rattle.std.specs.List.{range_with_len}
use Rattle.std.proofs.lemmas.Bool.{or_cases, or_left, or_right, eqb-true, true≢false, false_from_ne_true, or_from, or_parts, cases_Bool, cases_eq}
use Rattle.std.proofs.lemmas.List.Folds.{list_any-append}
use Rattle.std.proofs.lemmas.List.Elements.{filter-append}
use mathlib.Core.Option.{some, some-injective, some-ne-none}
use lib.ListN.{get_elem?}
use Rattle.atomic_table.specs.Table.{opening, Splits, Joins}
use Rattle.atomic_table.proofs.Lists.{at_set, set_else, at_longer, at_last}
use Rattle.ticket_table.specs.declared.change.Change.{Change}
use Rattle.ticket_table.specs.declared.change.View.{View}
use Rattle.ticket_table.specs.declared.change.Terms.{Terms}
use Rattle.ticket_table.specs.History.{Basis, Leaves, of_caller}
use Rattle.ticket_table.specs.Views.{has, stock, opened, nobody, together}
use Rattle.ticket_table.specs.Rule.{FitsHistory, AreApart, IsHeld, Kept}
use Rattle.ticket_table.proofs.Histories.{nothing_yet}
use Rattle.ticket_table.proofs.Keeps.{fits_set, apart_set, set_there}
use Rattle.ticket_table.proofs.Places.{at_end}

-- ---- the callers counted up

-- they are at or above the first, and below the end
pub has_counted : (first count c : ℕ) → has (range_with_len first count) c ≡ true → (first ≤ c) × (c < first + count)
has_counted first zero c is = absurd (true≢false (sym is))
has_counted first (suc count) c is = by (or_cases (eqb first c) (has (range_with_len (first + 1) count) c) is) (has_counted (first + 1) count c)
  where
    by : (eqb first c ≡ true) ⊎ (has (range_with_len (first + 1) count) c ≡ true) → (has (range_with_len (first + 1) count) c ≡ true → (first + 1 ≤ c) × (c < first + 1 + count)) → (first ≤ c) × (c < first + suc count)
    by (inl hit) rest = let same : first ≡ c = eqb-true first c hit in (omega arith, omega arith)
    by (inr later) rest = let bounds = rest later in (omega arith, omega arith)

-- each of them is there
has_counted_all : (first count c : ℕ) → first ≤ c → c < first + count → has (range_with_len first count) c ≡ true
has_counted_all first zero c low high = absurd (omega arith)
has_counted_all first (suc count) c low high =
    elim (cases_eq first c) [
      | inl same ↦ or_left (eqb first c) (has (range_with_len (first + 1) count) c) (eq-eqb first c same)
      | inr apart ↦ or_right (eqb first c) (has (range_with_len (first + 1) count) c) (has_counted_all (first + 1) count c (omega arith) (omega arith))
    ]

-- ---- make

module _ (basis : Basis) (small : (word : ℕ) → word < length basis.first → get_or basis.first word 0 < 4294967296) where
  opened_leaves : Leaves basis [] basis.first
  opened_leaves =
      record {
        count = refl;
        numbers = λ word within. let x : ℕ = get_or basis.first word 0 in let below : x < 4294967296 = small word within in let q : ℕ = x / 4294967296 in omega arith;
        payloads = λ word within. let x : ℕ = get_or basis.first word 0 in let below : x < 4294967296 = small word within in let q : ℕ = x / 4294967296 in omega arith;
      }

  opened_fits : FitsHistory basis [] basis.first (opened basis)
  opened_fits =
      record {
        same = λ _. refl;
        bounds = λ c is. let bounds = has_counted 0 basis.terms.callers c is in omega arith;
        own = λ c _. refl;
        only = λ c _. refl;
        last = λ word x is. absurd (cc);
      }

  pub opens : Kept basis (opening basis.first [] (opened basis))
  opens = ([], record { history = nothing_yet basis; leaves = opened_leaves; fits = fits; apart = apart; held = held })
    where
      held : (c : ℕ) → c < basis.terms.callers → IsHeld (opened basis ∷ []) c
      held c below = (0, opened basis, refl, refl, has_counted_all 0 basis.terms.callers c (omega arith) (omega arith))

      fits : (i : ℕ) (v : View) → get_elem? (opened basis ∷ []) i ≡ some v → FitsHistory basis [] basis.first v
      fits zero v e = subst (λ (u : View). FitsHistory basis [] basis.first u) (some-injective (opened basis) v e) opened_fits
      fits (suc i) v e = absurd (some-ne-none v (sym e))

      apart : AreApart (opened basis ∷ [])
      apart zero zero v w c a b ne is = absurd (ne refl)
      apart zero (suc j) v w c a b ne is = absurd (some-ne-none w (sym b))
      apart (suc i) j v w c a b ne is = absurd (some-ne-none v (sym a))

-- ---- split

-- one view more, which shares no caller with the others
apart_more : (views : List View) (w : View) → AreApart views → ((j : ℕ) (u : View) (c : ℕ) → get_elem? views j ≡ some u → has u.callers c ≡ true → has w.callers c ≡ true → ⊥)
    → AreApart (views ++ w ∷ [])
apart_more views w apart new i j a b c ia jb ne is = by (at_end views w a i ia) (at_end views w b j jb)
  where
    by : (get_elem? views i ≡ some a) ⊎ ((i ≡ length views) × (w ≡ a)) → (get_elem? views j ≡ some b) ⊎ ((j ≡ length views) × (w ≡ b)) → has b.callers c ≡ false
    by (inl old_i) (inl old_j) = apart i j a b c old_i old_j ne is
    by (inl old_i) (inr new_j) = false_from_ne_true (has b.callers c) (λ yes. new i a c old_i is (subst (λ (u : View). has u.callers c ≡ true) (sym new_j.1) yes))
    by (inr new_i) (inl old_j) = false_from_ne_true (has b.callers c) (λ yes. new j b c old_j yes (subst (λ (u : View). has u.callers c ≡ true) (sym new_i.1) is))
    by (inr new_i) (inr new_j) = absurd (ne (new_i.0 ∙ sym new_j.0))

-- fewer callers with no change yet
fewer_fits : (basis : Basis) (h : List Change) (words : List ℕ) (terms : Terms) (first count fewer_first fewer_count : ℕ) → FitsHistory basis h words (stock terms first count)
    → ((c : ℕ) → has (range_with_len fewer_first fewer_count) c ≡ true → has (range_with_len first count) c ≡ true) → FitsHistory basis h words (stock terms fewer_first fewer_count)
fewer_fits basis h words terms first count fewer_first fewer_count fits fewer =
    record {
      same = fits.same;
      bounds = λ c is. fits.bounds c (fewer c is);
      own = λ c is. fits.own c (fewer c is);
      only = λ c _. refl;
      last = λ word x is. absurd (cc);
    }

pub splits_stock : (basis : Basis) (id : ℕ) (terms : Terms) (first rest : ℕ) → Splits (Kept basis) id (stock terms first (suc rest)) (stock terms (first + 1) rest) (stock terms first 1)
splits_stock basis id terms first rest s kept at = (kept.0, record { history = (kept.1).history; leaves = (kept.1).leaves; fits = fits; apart = apart; held = held })
  where
    later : (c : ℕ) → has (range_with_len (first + 1) rest) c ≡ true → has (range_with_len first (suc rest)) c ≡ true
    later c is = or_right (eqb first c) (has (range_with_len (first + 1) rest) c) is

    alone : (c : ℕ) → has (range_with_len first 1) c ≡ true → has (range_with_len first (suc rest)) c ≡ true
    alone c is = by (or_cases (eqb first c) false is)
      where
        by : (eqb first c ≡ true) ⊎ (false ≡ true) → has (range_with_len first (suc rest)) c ≡ true
        by (inl hit) = or_left (eqb first c) (has (range_with_len (first + 1) rest) c) hit
        by (inr miss) = absurd (true≢false (sym miss))

    views : List View
    views = set s.views id (stock terms (first + 1) rest)

    whole : FitsHistory basis kept.0 s.words (stock terms first (suc rest))
    whole = (kept.1).fits id (stock terms first (suc rest)) at

    left_apart : AreApart (set s.views id (stock terms (first + 1) rest))
    left_apart = apart_set s.views id (stock terms first (suc rest)) (stock terms (first + 1) rest) at later (kept.1).apart

    held : (c : ℕ) → c < basis.terms.callers → IsHeld (set s.views id (stock terms (first + 1) rest) ++ stock terms first 1 ∷ []) c
    held c below = by (cases_eq before.0 id)
      where
        before : IsHeld s.views c
        before = (kept.1).held c below

        stays : {v : View} (i : ℕ) → get_elem? (set s.views id (stock terms (first + 1) rest)) i ≡ some v → get_elem? (set s.views id (stock terms (first + 1) rest) ++ stock terms first 1 ∷ []) i ≡ some v
        stays {v} i there = at_longer (set s.views id (stock terms (first + 1) rest)) (stock terms first 1 ∷ []) i v there

        split : (eqb first c ≡ true) ⊎ (has (range_with_len (first + 1) rest) c ≡ true) → IsHeld (set s.views id (stock terms (first + 1) rest) ++ stock terms first 1 ∷ []) c
        split (inl hit) = (
          length (set s.views id (stock terms (first + 1) rest)),
          stock terms first 1,
          at_last (set s.views id (stock terms (first + 1) rest)) (stock terms first 1) (length (set s.views id (stock terms (first + 1) rest))) refl,
          refl,
          or_left (eqb first c) false hit,
        )
        split (inr more) = (id, stock terms (first + 1) rest, stays id (set_there s.views id (stock terms first (suc rest)) (stock terms (first + 1) rest) at), refl, more)

        by : (before.0 ≡ id) ⊎ (before.0 ≢ id) → IsHeld (set s.views id (stock terms (first + 1) rest) ++ stock terms first 1 ∷ []) c
        by (inl same) =
            let is : before.1 ≡ stock terms first (suc rest) = some-injective before.1 (stock terms first (suc rest)) (sym before.2 ∙ (ap (λ (i : ℕ). get_elem? s.views i) same ∙ at)) in
            split (or_cases (eqb first c) (has (range_with_len (first + 1) rest) c) (sym (ap (λ (u : View). has u.callers c) is) ∙ before.4))
        by (inr other) = (before.0, before.1, stays before.0 (set_else s.views id before.0 (stock terms (first + 1) rest) other ∙ before.2), before.3, before.4)

    fits : (j : ℕ) (v : View) → get_elem? (set s.views id (stock terms (first + 1) rest) ++ stock terms first 1 ∷ []) j ≡ some v → FitsHistory basis kept.0 s.words v
    fits j v e = by (at_end (set s.views id (stock terms (first + 1) rest)) (stock terms first 1) v j e)
      where
        by : (get_elem? (set s.views id (stock terms (first + 1) rest)) j ≡ some v) ⊎ ((j ≡ length (set s.views id (stock terms (first + 1) rest))) × (stock terms first 1 ≡ v))
            → FitsHistory basis kept.0 s.words v
        by (inl old) =
            fits_set basis s.words s.views kept.0 id (stock terms (first + 1) rest) (λ k u _ e. (kept.1).fits k u e)
            (fewer_fits basis kept.0 s.words terms first (suc rest) (first + 1) rest whole later) j v old
        by (inr new) = subst (λ (u : View). FitsHistory basis kept.0 s.words u) new.1 (fewer_fits basis kept.0 s.words terms first (suc rest) first 1 whole alone)

    apart : AreApart (set s.views id (stock terms (first + 1) rest) ++ stock terms first 1 ∷ [])
    apart = apart_more (set s.views id (stock terms (first + 1) rest)) (stock terms first 1) left_apart disjoint
      where
        disjoint : (j : ℕ) (u : View) (c : ℕ) → get_elem? (set s.views id (stock terms (first + 1) rest)) j ≡ some u → has u.callers c ≡ true → has (range_with_len first 1) c ≡ true → ⊥
        disjoint j u c e theirs ours = by (at_set s.views id j (stock terms (first + 1) rest) u e)
          where
            by : ((j ≡ id) × (stock terms (first + 1) rest ≡ u)) ⊎ ((j ≢ id) × (get_elem? s.views j ≡ some u)) → ⊥
            by (inl same) =
                let one = has_counted first 1 c ours in
                let others = has_counted (first + 1) rest c (subst (λ (w : View). has w.callers c ≡ true) (sym same.1) theirs) in
                omega arith
            by (inr other) =
                let without = (kept.1).apart id j (stock terms first (suc rest)) u c at other.1 (λ e. other.0 (sym e)) (alone c ours) in
                true≢false (sym theirs ∙ without)

-- ---- join

-- the callers of two lists
pub has_both : (xs ys : List ℕ) (c : ℕ) → has (xs ++ ys) c ≡ (has xs c || has ys c)
has_both xs ys c = list_any-append (λ x. eqb x c) xs ys

pub of_both : (c : ℕ) (xs ys : List Change) → of_caller c (xs ++ ys) ≡ of_caller c xs ++ of_caller c ys
of_both c xs ys = filter-append (λ (x : Change). eqb x.caller c) xs ys

module _ (basis : Basis) (h : List Change) (words : List ℕ) (v w : View) (v_fits : FitsHistory basis h words v) (w_fits : FitsHistory basis h words w)
    (apart : (c : ℕ) → has v.callers c ≡ true → has w.callers c ≡ false) where
  together_own : (c : ℕ) → has (v.callers ++ w.callers) c ≡ true → of_caller c h ≡ of_caller c (v.mine ++ w.mine)
  together_own c is = by (cases_Bool (has v.callers c))
    where
      by : (has v.callers c ≡ true) ⊎ (has v.callers c ≡ false) → of_caller c h ≡ of_caller c (v.mine ++ w.mine)
      by (inl left) =
          v_fits.own c left ∙ sym (append-nil (of_caller c v.mine)) ∙ sym (ap (λ (xs : List Change). of_caller c v.mine ++ xs) (w_fits.only c (apart c left))) ∙ sym (of_both c v.mine w.mine)
      by (inr without) =
          let right : has w.callers c ≡ true = sym (ap (λ (b : Bool). b || has w.callers c) without) ∙ (sym (has_both v.callers w.callers c) ∙ is) in
          w_fits.own c right ∙ sym (ap (λ (xs : List Change). xs ++ of_caller c w.mine) (v_fits.only c without)) ∙ sym (of_both c v.mine w.mine)

  together_fits : FitsHistory basis h words (together v w)
  together_fits =
      record {
        same = v_fits.same;
        bounds = λ c is. ⊎_elim (λ left. v_fits.bounds c left) (λ right. w_fits.bounds c right) (or_cases (has v.callers c) (has w.callers c) (sym (has_both v.callers w.callers c) ∙ is));
        own = together_own;
        only = λ c without.
            let parts = or_parts (has v.callers c) (has w.callers c) (sym (has_both v.callers w.callers c) ∙ without) in
            of_both c v.mine w.mine ∙ ap (λ (xs : List Change). xs ++ of_caller c w.mine) (v_fits.only c parts.0) ∙ w_fits.only c parts.1;
        last = v_fits.last;
      }

nobody_fits : (basis : Basis) (h : List Change) (words : List ℕ) → FitsHistory basis h words nobody
nobody_fits basis h words =
    record {
      same = λ is. absurd (true≢false (sym is));
      bounds = λ c is. absurd (true≢false (sym is));
      own = λ c is. absurd (true≢false (sym is));
      only = λ c _. refl;
      last = λ word x is. absurd (cc);
    }

-- what stands in the views after a join: nobody, the two together, or another as before
data After (views : List View) (id other : ℕ) (v w : View) (i : ℕ) (u : View) : Type 0 where
  spent : i ≡ other → nobody ≡ u → After views id other v w i u
  joined : i ≡ id → together v w ≡ u → After views id other v w i u
  stayed : i ≢ other → i ≢ id → get_elem? views i ≡ some u → After views id other v w i u

after_join : (views : List View) (id other : ℕ) (v w : View) (i : ℕ) (u : View) → get_elem? (set (set views id (together v w)) other nobody) i ≡ some u → After views id other v w i u
after_join views id other v w i u e = first (at_set (set views id (together v w)) other i nobody u e)
  where
    second : i ≢ other → ((i ≡ id) × (together v w ≡ u)) ⊎ ((i ≢ id) × (get_elem? views i ≡ some u)) → After views id other v w i u
    second apart (inl same) = joined same.0 same.1
    second apart (inr rest) = stayed apart rest.0 rest.1

    first : ((i ≡ other) × (nobody ≡ u)) ⊎ ((i ≢ other) × (get_elem? (set views id (together v w)) i ≡ some u)) → After views id other v w i u
    first (inl same) = spent same.0 same.1
    first (inr rest) = second rest.0 (at_set views id i (together v w) u rest.1)

module _ (views : List View) (apart : AreApart views) (id other : ℕ) (v w : View) (at : get_elem? views id ≡ some v) (ne : other ≢ id) (there : get_elem? views other ≡ some w) where
  join_apart : AreApart (set (set views id (together v w)) other nobody)
  join_apart i j a b c ia jb distinct is = by (after_join views id other v w i a ia) (after_join views id other v w j b jb)
    where
      nothing : nobody ≡ a → has b.callers c ≡ false
      nothing same = absurd (true≢false (sym is ∙ ap (λ (u : View). has u.callers c) (sym same)))

      with_both : i ≢ other → i ≢ id → get_elem? views i ≡ some a → together v w ≡ b → has b.callers c ≡ false
      with_both not_other not_id old same =
          let left = apart i id a v c old at not_id is in
          let right = apart i other a w c old there not_other is in
          ap (λ (u : View). has u.callers c) (sym same) ∙ (has_both v.callers w.callers c ∙ or_from (has v.callers c) (has w.callers c) left right)

      from_both : together v w ≡ a → j ≢ other → j ≢ id → get_elem? views j ≡ some b → has b.callers c ≡ false
      from_both same not_other not_id old =
          ⊎_elim (λ left. apart id j v b c at old (λ e. not_id (sym e)) left) (λ right. apart other j w b c there old (λ e. not_other (sym e)) right)
          (or_cases (has v.callers c) (has w.callers c) (sym (has_both v.callers w.callers c) ∙ (ap (λ (u : View). has u.callers c) same ∙ is)))

      by : After views id other v w i a → After views id other v w j b → has b.callers c ≡ false
      by (spent _ same) b_is = nothing same
      by a_is (spent _ same) = ap (λ (u : View). has u.callers c) (sym same)
      by (joined i_is same) (joined j_is _) = absurd (distinct (i_is ∙ sym j_is))
      by (joined i_is same) (stayed not_other not_id old) = from_both same not_other not_id old
      by (stayed not_other not_id old) (joined j_is same) = with_both not_other not_id old same
      by (stayed _ _ a_old) (stayed _ _ b_old) = apart i j a b c a_old b_old distinct is

pub joins : (basis : Basis) (id : ℕ) (v : View) (other : ℕ) (w : View) → v.live ≡ true → Joins (Kept basis) id v other w (together v w) nobody
joins basis id v other w live s kept at ne after = (kept.0, record { history = (kept.1).history; leaves = (kept.1).leaves; fits = fits; apart = join_apart s.views (kept.1).apart id other v w at ne there; held = held })
  where
    there : get_elem? s.views other ≡ some w
    there = ⊎_elim (λ same. absurd (ne same.0)) (λ rest. rest.1) (at_set s.views id other (together v w) w after)

    held : (c : ℕ) → c < basis.terms.callers → IsHeld (set (set s.views id (together v w)) other nobody) c
    held c below = by (cases_eq before.0 id) (cases_eq before.0 other)
      where
        before : IsHeld s.views c
        before = (kept.1).held c below

        both : has v.callers c ≡ true ⊎ (has w.callers c ≡ true) → IsHeld (set (set s.views id (together v w)) other nobody) c
        both one = (
          id,
          together v w,
          set_else (set s.views id (together v w)) other id nobody (λ e. ne (sym e)) ∙ set_there s.views id v (together v w) at,
          live,
          has_both v.callers w.callers c ∙ ⊎_elim (λ left. or_left (has v.callers c) (has w.callers c) left) (λ right. or_right (has v.callers c) (has w.callers c) right) one,
        )

        is : (i : ℕ) (u : View) → before.0 ≡ i → get_elem? s.views i ≡ some u → has u.callers c ≡ true
        is i u same here =
            let view : before.1 ≡ u = some-injective before.1 u (sym before.2 ∙ (ap (λ (k : ℕ). get_elem? s.views k) same ∙ here)) in
            sym (ap (λ (x : View). has x.callers c) view) ∙ before.4

        by : (before.0 ≡ id) ⊎ (before.0 ≢ id) → (before.0 ≡ other) ⊎ (before.0 ≢ other) → IsHeld (set (set s.views id (together v w)) other nobody) c
        by (inl here) _ = both (inl (is id v here at))
        by (inr _) (inl here) = both (inr (is other w here there))
        by (inr not_id) (inr not_other) = (
          before.0,
          before.1,
          set_else (set s.views id (together v w)) other before.0 nobody not_other ∙ (set_else s.views id before.0 (together v w) not_id ∙ before.2),
          before.3,
          before.4,
        )

    fits : (i : ℕ) (u : View) → get_elem? (set (set s.views id (together v w)) other nobody) i ≡ some u → FitsHistory basis kept.0 s.words u
    fits i u e = by (after_join s.views id other v w i u e)
      where
        by : After s.views id other v w i u → FitsHistory basis kept.0 s.words u
        by (spent _ same) = subst (λ (u : View). FitsHistory basis kept.0 s.words u) same (nobody_fits basis kept.0 s.words)
        by (joined _ same) = subst (λ (u : View). FitsHistory basis kept.0 s.words u) same (together_fits basis kept.0 s.words v w ((kept.1).fits id v at) ((kept.1).fits other w there)
            (λ c is. (kept.1).apart id other v w c at there (λ e. ne (sym e)) is))
        by (stayed _ _ old) = (kept.1).fits i u old
