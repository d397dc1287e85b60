-- A walk that has given some cores of the canonical merge, and gives the next.
use Rattle.std.proofs.Common.{◌≡◌, ◌⊎◌, ℕ, ◌<◌, ◌≤◌, List, [], ◌∷◌, ◌++◌, length, drop, get_or, replicate, slice_get, option_to_list, IfSome, Option, Some, None, refl, sym, ap, subst, ◌∙◌, inl, inr, arith, append-nil}
use Rattle.std.proofs.Math.Seq.{drop-nil}
use Rattle.std.proofs.lemmas.Bool.{cases_eq}
use Rattle.std.proofs.lemmas.Option.{slice_get_past}
use Rattle.std.proofs.lemmas.List.{get_or_past}
use Rattle.bounded_list.specs.Bounded.{Bounded}
use Rattle.order_core.specs.declared.entry.Entry.{Entry}
use Rattle.order_core.specs.Logs.{logs_of, log_of, entry_count, AllTouchBelow}
use Rattle.order_core.specs.LegalMerge.{HasLegalMerge}
use Rattle.order_core.specs.CanonicalMerge.{is_ready, least_ready, left_after, reached_after, canonical, IsCanonicalFrom}
use Rattle.order_core.specs.Places.{left_at, reached_at}
use Rattle.order_core.specs.Giving.{total, IsGiving}
use Rattle.order_core.specs.Walk.{WalkSeen}
use Rattle.order_core.specs.Walking.{Waits, OthersWait, HasGiven}
use Rattle.order_core.specs.WalkCalls.{IsAtStart, IsNext}
use Rattle.order_core.specs.CoreSets.{count_in}
use Rattle.order_core.proofs.SetAtLemmas.{set_at_same, set_at_other}
use Rattle.order_core.proofs.Total.{entry_count_total, total_left_after, total_nothing}
use Rattle.order_core.proofs.CanonicalLemmas.{is_ready_entry}
use Rattle.order_core.proofs.CanonicalLaws.{canonical_least}
use Rattle.order_core.proofs.Giving.{gives_nothing, left_at_zeros, reached_at_zeros, list_gives_next, list_gives_more, list_gives_none, list_gives_within}

-- ---- how long the canonical merge is

le_or_gt : (a b : ℕ) → (a ≤ b) ⊎ (b < a)
le_or_gt a b = grind arith

canonical_length : (count : ℕ) (order : List ℕ) (left : ℕ → List Entry) (reached : ℕ → ℕ) → ((core : ℕ) → count ≤ core → left core ≡ []) → IsCanonicalFrom left reached order → length order ≡ total count left
canonical_length count [] left reached past end = sym (total_nothing count left end)
canonical_length count (core ∷ order) left reached past from =
    let entry = is_ready_entry reached (left core) (from.0).ready in
    let fewer = total_left_after count left core entry.0 (drop 1 (left core)) (within (le_or_gt count core)) entry.1 in
    let rest = canonical_length count order (left_after left core) (reached_after reached (left core)) still from.1 in
    omega arith
  where
    within : (count ≤ core) ⊎ (core < count) → core < count
    within (inl h) = cc (sym (from.0).ready ∙ ap (is_ready reached) (past core h))
    within (inr h) = h

    still : (other : ℕ) → count ≤ other → left_after left core other ≡ []
    still other h =
        elim (cases_eq other core) [
          | inl same ↦ ap (left_after left core) same ∙ set_at_same left core (drop 1 (left core)) ∙ ap (λ (log : List Entry). drop 1 log) (ap left (sym same) ∙ past other h)
          | inr apart ↦ set_at_other left core other (drop 1 (left core)) apart ∙ past other h
        ]

pub legal_length : (logs : List (List Entry)) → HasLegalMerge logs → length (canonical logs) ≡ entry_count logs
legal_length logs legal =
    canonical_length (length logs) (canonical logs) (log_of logs) (λ (word : ℕ). 0) (λ core h. get_or_past logs core [] h) (canonical_least logs legal) ∙ sym (entry_count_total logs)

-- ---- the start

pub starts : (walk : WalkSeen) (cores words : ℕ) → walk.cores ≤ 32 → walk.places ≡ replicate cores 0 → walk.counts ≡ replicate words 0 → ((core : ℕ) → core < 32 → count_in walk.awake core ≡ 1) → IsAtStart walk
starts walk cores words few places counts awake logs fits =
    let count = fits.count in
    record {
      fits = fits;
      giving = rw (places, counts, left_at_zeros logs cores, reached_at_zeros words) (gives_nothing logs);
      waits = λ core asleep. (let P : List Entry → Type 0 = Waits (reached_at walk.counts) walk.sets core in subst P (sym (ended core asleep (le_or_gt 32 core))) tt);
    }
  where
    ended : (core : ℕ) → count_in walk.awake core ≡ 0 → (32 ≤ core) ⊎ (core < 32) → left_at logs walk.places core ≡ []
    ended core asleep (inl past) =
        let none : log_of logs core ≡ [] = get_or_past logs core [] (let count = fits.count in omega arith) in
        rw none (drop-nil (get_or walk.places core 0))
    ended core asleep (inr h) = absurd (let here = awake core h in omega arith)

-- ---- the next core

next_of : (xs ys : List ℕ) (x : ℕ) → slice_get ((xs ++ x ∷ []) ++ ys) (length xs) ≡ Some x
next_of [] ys x = refl
next_of (z ∷ xs) ys x = next_of xs ys x

module _ (lists : List (Bounded Entry)) (walk : WalkSeen) (given : List ℕ) (has : HasGiven walk (logs_of lists) given) where
  is_next_some : (core : ℕ) → Some core ≡ least_ready (left_at (logs_of lists) walk.places) (reached_at walk.counts) (length lists) → IsNext (logs_of lists) given (Some core)
  is_next_some core e =
      let more = list_gives_next lists walk.places walk.counts given has.giving core e in
      let within = list_gives_within lists walk.places walk.counts given has.giving core e in
      record {
        next = sym (ap (λ (order : List ℕ). slice_get order (length given)) (sym more.goes_on) ∙ next_of given _ core);
        whole = λ none. absurd (cc);
        all = λ legal. ((λ none. absurd (cc)), λ all. absurd (omega arith));
      }

  is_next_none : None ≡ least_ready (left_at (logs_of lists) walk.places) (reached_at walk.counts) (length lists) → IsNext (logs_of lists) given None
  is_next_none e =
      let whole = list_gives_none lists walk.places walk.counts given has.giving e in
      let long : length given ≡ length (canonical (logs_of lists)) = ap length whole in
      record {
        next = sym (slice_get_past (canonical (logs_of lists)) (length given) (omega arith));
        whole = λ _. whole;
        all = λ legal. ((λ _. long ∙ legal_length (logs_of lists) legal), λ _. refl);
      }

  pub is_next : (core : Option ℕ) → core ≡ least_ready (left_at (logs_of lists) walk.places) (reached_at walk.counts) (length lists) → IsNext (logs_of lists) given core
  is_next (Some core) e = is_next_some core e
  is_next None e = is_next_none e

  -- what the walk has given then
  pub given_then : (core : Option ℕ) (after : WalkSeen) → core ≡ least_ready (left_at (logs_of lists) walk.places) (reached_at walk.counts) (length lists)
      → after.cores ≡ walk.cores → after.words ≡ walk.words
      → IfSome core (λ core. left_at (logs_of lists) after.places ≡ left_after (left_at (logs_of lists) walk.places) core)
      → IfSome core (λ core. reached_at after.counts ≡ reached_after (reached_at walk.counts) (left_at (logs_of lists) walk.places core))
      → (core ≡ None → (after.places ≡ walk.places) × (after.counts ≡ walk.counts))
      → OthersWait (left_at (logs_of lists) after.places) (reached_at after.counts) after.awake after.sets
      → HasGiven after (logs_of lists) (given ++ option_to_list core)
  given_then (Some core) after e cores words left reached same waits = record {
    fits = record { count = (has.fits).count ∙ sym cores; words = (let P : ℕ → Type 0 = λ n. AllTouchBelow n (logs_of lists) in subst P (sym words) (has.fits).words) };
    giving = list_gives_more lists walk.places walk.counts given has.giving core after.places after.counts e left reached;
    waits = waits;
  }
  given_then None after e cores words left reached same waits = record {
    fits = record { count = (has.fits).count ∙ sym cores; words = (let P : ℕ → Type 0 = λ n. AllTouchBelow n (logs_of lists) in subst P (sym words) (has.fits).words) };
    giving =
        (let P : List ℕ → Type 0 = IsGiving (logs_of lists) (left_at (logs_of lists) after.places) (reached_at after.counts) in
        subst P (sym (append-nil given)) (subst (λ (places : List ℕ). IsGiving (logs_of lists) (left_at (logs_of lists) places) (reached_at after.counts) given) (sym (same refl).0)
        (subst (λ (counts : List ℕ). IsGiving (logs_of lists) (left_at (logs_of lists) walk.places) (reached_at counts) given) (sym (same refl).1) has.giving)));
    waits = waits;
  }
