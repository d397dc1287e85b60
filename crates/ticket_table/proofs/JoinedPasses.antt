-- What the seat knows into which passes are joined, from the last one to the first.
use Rattle.std.proofs.Common.{◌≡◌, ◌≢◌, ◌⊎◌, ℕ, suc, ◌≤◌, Bool, true, false, cond, eqb, List, [], ◌∷◌, ◌++◌, length, slice_get, Some, refl, sym, ap, subst, ◌∙◌, inl, inr, arith, append_assoc, append-nil, ne_eqb, length-append}
use Rattle.std.proofs.lemmas.Bool.{cases_eq, or_left, or_right, eqb-true}
use Rattle.std.proofs.lemmas.Option.{slice_get_within}
use Rattle.atomic_table.specs.Table.{State, Final, Seen}
use Rattle.atomic_table.specs.Seated.{TableId}
use Rattle.ticket_table.specs.declared.change.Change.{Change}
use Rattle.ticket_table.specs.declared.change.View.{View}
use Rattle.ticket_table.specs.declared.change.Note.{Note}
use Rattle.ticket_table.specs.History.{Basis, of_caller}
use Rattle.ticket_table.specs.Views.{has, IsAlone, together}
use Rattle.ticket_table.specs.Rule.{Kept}
use Rattle.ticket_table.specs.Passes.{PassSeen, ArePasses, Closes}
use Rattle.ticket_table.specs.Gathered.{HasFrom}
use Rattle.ticket_table.proofs.Asking.{has_alone}
use Rattle.ticket_table.proofs.Places.{get_at_end}
use Rattle.ticket_table.proofs.Sharing.{has_both, of_both}

-- ---- places

get_here : (items tail : List PassSeen) (p : PassSeen) → slice_get (items ++ p ∷ tail) (length items) ≡ Some p
get_here [] tail p = refl
get_here (x ∷ items) tail p = get_here items tail p

last_one : (items : List PassSeen) (p q : PassSeen) (place : ℕ) → length items ≤ place → slice_get (items ++ p ∷ []) place ≡ Some q → p ≡ q
last_one items p q place le is = by (get_at_end items p q place is)
  where
    by : (slice_get items place ≡ Some q) ⊎ ((place ≡ length items) × (p ≡ q)) → p ≡ q
    by (inl before) = let within = slice_get_within items place q before in absurd (omega arith)
    by (inr here) = here.1

-- the changes of one caller are not another's
none_of : (caller other : ℕ) (changes : List Change) → caller ≢ other → of_caller other (of_caller caller changes) ≡ []
none_of caller other [] apart = refl
none_of caller other (e ∷ changes) apart = by (eqb e.caller caller) refl (none_of caller other changes apart)
  where
    by : (b : Bool) → eqb e.caller caller ≡ b → of_caller other (of_caller caller changes) ≡ [] → of_caller other (cond b (e ∷ of_caller caller changes) (of_caller caller changes)) ≡ []
    by true is rest =
        let other_one : eqb e.caller other ≡ false = ne_eqb e.caller other (λ same. apart (sym (eqb-true e.caller caller is) ∙ same)) in
        ap (λ (b : Bool). cond b (e ∷ of_caller other (of_caller caller changes)) (of_caller other (of_caller caller changes))) other_one ∙ rest
    by false is rest = rest

alone_only : (v : View) (caller other : ℕ) → IsAlone v caller → caller ≢ other → of_caller other v.mine ≡ []
alone_only v caller other alone apart = ap (λ (changes : List Change). of_caller other changes) (sym alone.own) ∙ none_of caller other v.mine apart

-- ---- the last pass

pub starts : (ps items : List PassSeen) (p : PassSeen) (v : View) → ps ≡ items ++ p ∷ [] → IsAlone v p.caller → v.mine ≡ p.changes → HasFrom (length items) ps v
starts ps items p v whole alone mine =
    let P : List PassSeen → Type 0 = λ qs. HasFrom (length items) qs v in
    subst P (sym whole) (record {
      live = alone.live;
      callers = λ place q le is. ap (λ (r : PassSeen). has v.callers r.caller) (sym (last_one items p q place le is)) ∙ has_alone v p.caller alone;
      lists = λ place q le is.
          let Q : PassSeen → Type 0 = λ r. of_caller r.caller v.mine ≡ r.changes in
          subst Q (last_one items p q place le is) (alone.own ∙ mine);
      only = λ caller none_is. alone_only v p.caller caller alone (none_is (length items) p (omega arith) (get_here items [] p));
    })

-- ---- one pass more

module _ (table : TableId) (ps : List PassSeen) (are : ArePasses table ps) (items : List PassSeen) (p : PassSeen) (here : slice_get ps (length items) ≡ Some p) (v w : View)
    (so_far : HasFrom (suc (length items)) ps v) (alone : IsAlone w p.caller) (mine : w.mine ≡ p.changes) where
  -- a pass behind has another caller
  other_caller : (place : ℕ) (q : PassSeen) → suc (length items) ≤ place → slice_get ps place ≡ Some q → q.caller ≢ p.caller
  other_caller place q le is same = let one = are.apart place (length items) q p is here same in omega arith

  joined_callers : (place : ℕ) (q : PassSeen) → length items ≤ place → slice_get ps place ≡ Some q → has (v.callers ++ w.callers) q.caller ≡ true
  joined_callers place q le is = by (cases_eq place (length items))
    where
      by : (place ≡ length items) ⊎ (place ≢ length items) → has (v.callers ++ w.callers) q.caller ≡ true
      by (inl at) =
          let same : p ≡ q = (let both = sym here ∙ (ap (λ (k : ℕ). slice_get ps k) (sym at) ∙ is) in cc) in
          has_both v.callers w.callers q.caller ∙ or_right (has v.callers q.caller) (has w.callers q.caller) (ap (λ (r : PassSeen). has w.callers r.caller) (sym same) ∙ has_alone w p.caller alone)
      by (inr later) = has_both v.callers w.callers q.caller ∙ or_left (has v.callers q.caller) (has w.callers q.caller) (so_far.callers place q (omega arith) is)

  joined_lists : (place : ℕ) (q : PassSeen) → length items ≤ place → slice_get ps place ≡ Some q → of_caller q.caller (v.mine ++ w.mine) ≡ q.changes
  joined_lists place q le is = by (cases_eq place (length items))
    where
      by : (place ≡ length items) ⊎ (place ≢ length items) → of_caller q.caller (v.mine ++ w.mine) ≡ q.changes
      by (inl at) =
          let same : p ≡ q = (let both = sym here ∙ (ap (λ (k : ℕ). slice_get ps k) (sym at) ∙ is) in cc) in
          let P : PassSeen → Type 0 = λ r. of_caller r.caller (v.mine ++ w.mine) ≡ r.changes in
          subst P same (of_both p.caller v.mine w.mine ∙ ap (λ (xs : List Change). xs ++ of_caller p.caller w.mine) (so_far.only p.caller other_caller) ∙ (alone.own ∙ mine))
      by (inr later) =
          let behind : suc (length items) ≤ place = omega arith in
          of_both q.caller v.mine w.mine
          ∙ ap (λ (xs : List Change). of_caller q.caller v.mine ++ xs) (alone_only w p.caller q.caller alone (λ same. other_caller place q behind is (sym same)))
          ∙ append-nil (of_caller q.caller v.mine) ∙ so_far.lists place q behind is

  pub joined_one : HasFrom (length items) ps (together v w)
  joined_one =
      record {
        live = so_far.live;
        callers = joined_callers;
        lists = joined_lists;
        only = λ caller none_is.
            of_both caller v.mine w.mine
            ∙ ap (λ (xs : List Change). xs ++ of_caller caller w.mine) (so_far.only caller (λ place q le is. none_is place q (omega arith) is))
            ∙ alone_only w p.caller caller alone (none_is (length items) p (omega arith) here);
      }

-- what is left of the passes is a front of them, and the seat has those behind
pub record SoFar (ps items : List PassSeen) (v : View) : Type 0 where
  pub tail : List PassSeen
  pub whole : ps ≡ items ++ tail
  pub behind : HasFrom (length items) ps v

-- the last pass stands behind what is left
pub last_stands : (ps items : List PassSeen) (p : PassSeen) → ps ≡ items ++ p ∷ [] → slice_get ps (length items) ≡ Some p
last_stands ps items p whole = ap (λ (qs : List PassSeen). slice_get qs (length items)) whole ∙ get_here items [] p

-- after the last pass
pub starts_so : (ps items : List PassSeen) (p : PassSeen) (v : View) → ps ≡ items ++ p ∷ [] → IsAlone v p.caller → v.mine ≡ p.changes → SoFar ps items v
starts_so ps items p v whole alone mine = record { tail = p ∷ []; whole = whole; behind = starts ps items p v whole alone mine }

-- the next pass stands at the end of what is left
pub stands_there : (ps items rest : List PassSeen) (p : PassSeen) (v : View) → SoFar ps items v → items ≡ rest ++ p ∷ [] → slice_get ps (length rest) ≡ Some p
stands_there ps items rest p v so_far is =
    let whole : ps ≡ rest ++ p ∷ so_far.tail = so_far.whole ∙ (ap (λ (qs : List PassSeen). qs ++ so_far.tail) is ∙ append_assoc rest (p ∷ []) so_far.tail) in
    ap (λ (qs : List PassSeen). slice_get qs (length rest)) whole ∙ get_here rest so_far.tail p

-- after one more
pub joins_so : (table : TableId) (ps items rest : List PassSeen) (p : PassSeen) (v w u : View) → ArePasses table ps → SoFar ps items v → items ≡ rest ++ p ∷ [] → IsAlone w p.caller → w.mine ≡ p.changes
    → u ≡ together v w → SoFar ps rest u
joins_so table ps items rest p v w u are so_far is alone mine both =
    let here = stands_there ps items rest p v so_far is in
    let long : length items ≡ suc (length rest) = ap length is ∙ (let l = length-append rest (p ∷ []) in omega arith) in
    let P : ℕ → Type 0 = λ n. HasFrom n ps v in
    let Q : View → Type 0 = λ x. HasFrom (length rest) ps x in
    record {
      tail = p ∷ so_far.tail;
      whole = so_far.whole ∙ (ap (λ (qs : List PassSeen). qs ++ so_far.tail) is ∙ append_assoc rest (p ∷ []) so_far.tail);
      behind = subst Q (sym both) (joined_one table ps are rest p here v w (subst P long so_far.behind) alone mine);
    }

-- ---- the end

pub closes : (basis : Basis) (ps : List PassSeen) (words : List ℕ) (slots : List Note) (id : ℕ) (v : View) → Final (Seen (Kept basis) id v) words slots → HasFrom 0 ps v → (changes : List Change) × Closes basis ps words changes
closes basis ps words slots id v final gathered =
    let s : State Note View = final.0 in
    let kept = final.1.0 in
    let fits = (kept.1).fits id v final.1.1 in
    let P : List ℕ → Type 0 = λ ws. Closes basis ps ws kept.0 in (
      kept.0,
      subst P final.2 (record {
        history = (kept.1).history;
        leaves = (kept.1).leaves;
        callers = λ place p is. fits.bounds p.caller (gathered.callers place p (omega arith) is);
        lists = λ place p is. fits.own p.caller (gathered.callers place p (omega arith) is) ∙ gathered.lists place p (omega arith) is;
      }),
    )
