-- Where logs have a legal merge, the computed canonical order is one, and it is the only canonical order.
use Rattle.std.proofs.Common.{◌≡◌, ◌⊎◌, ℕ, zero, suc, ◌<◌, ◌≤◌, List, [], ◌∷◌, length, drop, true, Option, Some, None, refl, sym, ap, subst, ◌∙◌, inl, inr, arith}
use Rattle.std.proofs.lemmas.Bool.{cases_eq}
use Rattle.std.proofs.lemmas.List.{get_or_past}
use Rattle.order_core.specs.declared.entry.Entry.{Entry}
use Rattle.order_core.specs.Logs.{log_of, entry_count}
use Rattle.order_core.specs.Marked.{Marked, marks_of}
use Rattle.order_core.specs.LegalMerge.{IsLegalMerge, HasLegalMerge, IsLegalOrder}
use Rattle.order_core.specs.CanonicalMerge.{is_ready, least_ready, IsLeastReady, left_after, reached_after, canonical_from, canonical, IsCanonicalFrom, IsCanonicalMerge}
use Rattle.order_core.proofs.SetAtLemmas.{set_at_same, set_at_other}
use Rattle.order_core.specs.Giving.{total}
use Rattle.order_core.proofs.Total.{entry_count_total, total_left_after, left_total_zero, total_nothing}
use Rattle.order_core.proofs.CanonicalLemmas.{least_ready_none, least_ready_some, canonical_from_some, canonical_from_zero, is_ready_entry}
use Rattle.order_core.proofs.LegalLemmas.{IsLegalFrom, legal_without, legal_with, legal_first}
use Rattle.order_core.proofs.MarkedLemmas.{without}

-- what the laws say of an order of what is left
pub record IsGoodFrom (left : ℕ → List Entry) (reached : ℕ → ℕ) (order : List ℕ) : Type 0 where
  pub canonical : IsCanonicalFrom left reached order
  pub marked : List Marked
  pub cores : marks_of marked ≡ order
  pub legal : IsLegalFrom left reached marked

-- nothing is left in all
good_end : (left : ℕ → List Entry) (reached : ℕ → ℕ) → ((core : ℕ) → left core ≡ []) → IsGoodFrom left reached []
good_end left reached h = record {
  canonical = h;
  marked = [];
  cores = refl;
  legal = record {
    parts = λ core. sym (h core);
    numbers = λ word. tt;
  };
}

good_more : (left : ℕ → List Entry) (reached : ℕ → ℕ) (core : ℕ) (order : List ℕ) → IsLeastReady left reached core → IsGoodFrom (left_after left core) (reached_after reached (left core)) order → IsGoodFrom left reached (core ∷ order)
good_more left reached core order least good =
    let next = is_ready_entry reached (left core) least.ready in
    let entry = next.0 in
    let P : List Entry → Type 0 = λ log. IsLegalFrom (left_after left core) (reached_after reached log) good.marked in
    record {
      canonical = (least, good.canonical);
      marked = (core, entry) ∷ good.marked;
      cores = ap (λ (cores : List ℕ). core ∷ cores) good.cores;
      legal = legal_with left reached core entry (drop 1 (left core)) next.1 good.marked (sym (ap (is_ready reached) next.1) ∙ least.ready) (subst P next.1 good.legal);
    }

pub canonical_from_good : (count most : ℕ) (left : ℕ → List Entry) (reached : ℕ → ℕ) (marked : List Marked) → ((core : ℕ) → count ≤ core → left core ≡ []) → IsLegalFrom left reached marked → total count left ≡ most
    → IsGoodFrom left reached (canonical_from count left reached most)
canonical_from_good count zero left reached marked past legal none =
    let P : List ℕ → Type 0 = IsGoodFrom left reached in
    subst P (sym (canonical_from_zero left reached count)) (good_end left reached (λ core. nothing core (le_or_gt count core)))
  where
    le_or_gt : (a b : ℕ) → (a ≤ b) ⊎ (b < a)
    le_or_gt a b = grind arith

    nothing : (core : ℕ) → (count ≤ core) ⊎ (core < count) → left core ≡ []
    nothing core (inl h) = past core h
    nothing core (inr h) = left_total_zero count left core none h
canonical_from_good count (suc most) left reached [] past legal some =
    absurd (omega (arith, total_nothing count left (λ core. sym (legal.parts core))))
canonical_from_good count (suc most) left reached (m ∷ marked) past legal some =
    go (least_ready left reached count) refl (λ core least. canonical_from_good count most (left_after left core) (reached_after reached (left core)) (without core (m ∷ marked)) (still core) (front core least) (fewer core least))
  where
    still : (core other : ℕ) → count ≤ other → left_after left core other ≡ []
    still core other h =
        elim (cases_eq other core) [
          | inl same ↦ ap (left_after left core) same ∙ set_at_same left core (drop 1 (left core)) ∙ ap (λ (log : List Entry). drop 1 log) (ap left (sym same) ∙ past other h)
          | inr apart ↦ set_at_other left core other (drop 1 (left core)) apart ∙ past other h
        ]

    next : (core : ℕ) → IsLeastReady left reached core → (entry : Entry) × (left core ≡ entry ∷ drop 1 (left core))
    next core least = is_ready_entry reached (left core) least.ready

    front : (core : ℕ) → (core < count) × IsLeastReady left reached core → IsLegalFrom (left_after left core) (reached_after reached (left core)) (without core (m ∷ marked))
    front core least =
        let entry = next core least.1 in
        let P : List Entry → Type 0 = λ log. IsLegalFrom (left_after left core) (reached_after reached log) (without core (m ∷ marked)) in
        subst P (sym entry.1) (legal_without left reached core entry.0 (drop 1 (left core)) entry.1 (m ∷ marked) (sym (ap (is_ready reached) entry.1) ∙ (least.1).ready) legal)

    fewer : (core : ℕ) → (core < count) × IsLeastReady left reached core → total count (left_after left core) ≡ most
    fewer core least =
        let entry = next core least.1 in
        omega (arith, total_left_after count left core entry.0 (drop 1 (left core)) least.0 entry.1)

    go : (o : Option ℕ) → least_ready left reached count ≡ o → ((core : ℕ) → (core < count) × IsLeastReady left reached core → IsGoodFrom (left_after left core) (reached_after reached (left core)) (canonical_from count (left_after left core) (reached_after reached (left core)) most))
        → IsGoodFrom left reached (canonical_from count left reached (suc most))
    go (Some core) e rest =
        let least = least_ready_some left reached count core e in
        let P : List ℕ → Type 0 = IsGoodFrom left reached in
        subst P (sym (canonical_from_some left reached count most core e)) (good_more left reached core (canonical_from count (left_after left core) (reached_after reached (left core)) most) least.1 (rest core least))
    go None e rest = absurd (no_first (le_or_gt count m.0))
      where
        le_or_gt : (a b : ℕ) → (a ≤ b) ⊎ (b < a)
        le_or_gt a b = grind arith

        ready : is_ready reached (left m.0) ≡ true
        ready = legal_first left reached m marked legal

        no_first : (count ≤ m.0) ⊎ (m.0 < count) → ⊥
        no_first (inl h) = cc (sym ready ∙ ap (is_ready reached) (past m.0 h))
        no_first (inr h) = cc (sym ready ∙ least_ready_none left reached count e m.0 h)

-- there is one canonical order at most
pub canonical_from_only : (left : ℕ → List Entry) (reached : ℕ → ℕ) (order other : List ℕ) → IsCanonicalFrom left reached order → IsCanonicalFrom left reached other → order ≡ other
canonical_from_only left reached [] [] h k = refl
canonical_from_only left reached [] (d ∷ other) h k = cc (sym (k.0).ready ∙ ap (is_ready reached) (h d))
canonical_from_only left reached (c ∷ order) [] h k = cc (sym (h.0).ready ∙ ap (is_ready reached) (k c))
canonical_from_only left reached (c ∷ order) (d ∷ other) h k = go (order3 c d) (canonical_from_only (left_after left c) (reached_after reached (left c)) order other h.1)
  where
    order3 : (a b : ℕ) → ((a < b) ⊎ (b < a)) ⊎ (a ≡ b)
    order3 a b = grind arith

    go : ((c < d) ⊎ (d < c)) ⊎ (c ≡ d) → (IsCanonicalFrom (left_after left c) (reached_after reached (left c)) other → order ≡ other) → c ∷ order ≡ d ∷ other
    go (inl (inl less)) rest = cc (sym (h.0).ready ∙ (k.0).least c less)
    go (inl (inr more)) rest = cc (sym (k.0).ready ∙ (h.0).least d more)
    go (inr same) rest =
        let P : ℕ → Type 0 = λ e. IsCanonicalFrom (left_after left e) (reached_after reached (left e)) other in
        let others = rest (subst P (sym same) k.1) in
        cc (same, others)

pub legal_from : (logs : List (List Entry)) (marked : List Marked) → IsLegalMerge logs marked → IsLegalFrom (log_of logs) (λ word. 0) marked
legal_from logs marked legal = record {
  parts = legal.parts;
  numbers = legal.numbers;
}

canonical_good : (logs : List (List Entry)) (marked : List Marked) → IsLegalMerge logs marked → IsGoodFrom (log_of logs) (λ word. 0) (canonical logs)
canonical_good logs marked legal =
    canonical_from_good (length logs) (entry_count logs) (log_of logs) (λ word. 0) marked (λ core h. get_or_past logs core [] h) (legal_from logs marked legal) (sym (entry_count_total logs))

-- the laws
pub canonical_legal : (logs : List (List Entry)) → HasLegalMerge logs → IsLegalOrder logs (canonical logs)
canonical_legal logs legal =
    let good = canonical_good logs legal.0 legal.1 in
    record {
      marked = good.marked;
      cores = good.cores;
      legal = record {
        parts = (good.legal).parts;
        numbers = (good.legal).numbers;
      };
    }

pub canonical_least : (logs : List (List Entry)) → HasLegalMerge logs → IsCanonicalMerge logs (canonical logs)
canonical_least logs legal = (canonical_good logs legal.0 legal.1).canonical

pub canonical_only : (logs : List (List Entry)) → HasLegalMerge logs → (order : List ℕ) → IsCanonicalMerge logs order → order ≡ canonical logs
canonical_only logs legal order h =
    canonical_from_only (log_of logs) (λ word. 0) order (canonical logs) h (canonical_least logs legal)
