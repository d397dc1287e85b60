-- A merge on its way: what was given goes on to the canonical order.
use Rattle.std.proofs.Common.{◌≡◌, ℕ, zero, suc, ◌<◌, ◌≤◌, List, [], ◌∷◌, ◌++◌, length, replicate, get_or, drop, Option, Some, None, refl, sym, ap, ◌∙◌, arith, append-nil, append_assoc}
use Rattle.std.proofs.lemmas.List.{length-map, length_push}
use mathlib.Core.Path.{fun_ext}
use Rattle.bounded_list.specs.Bounded.{Bounded}
use Rattle.order_core.specs.declared.entry.Entry.{Entry}
use Rattle.order_core.specs.Logs.{log_of, logs_of, entry_count}
use Rattle.order_core.specs.CanonicalMerge.{least_ready, left_after, reached_after, canonical_from, canonical}
use Rattle.order_core.specs.Places.{left_at, reached_at}
use Rattle.order_core.specs.Giving.{total, IsGiving}
use Rattle.order_core.proofs.Total.{entry_count_total, total_left_after}
use Rattle.order_core.proofs.CanonicalLemmas.{least_ready_some, canonical_from_some, canonical_from_none, canonical_from_zero, is_ready_entry}

module _ (logs : List (List Entry)) where
  pub gives_nothing : IsGiving logs (log_of logs) (λ word. 0) []
  gives_nothing = record {
    goes_on = ap (canonical_from (length logs) (log_of logs) (λ (word : ℕ). 0)) (sym (entry_count_total logs));
    count = let e = entry_count_total logs in omega arith;
  }

  total_some : (left : ℕ → List Entry) (reached : ℕ → ℕ) (core : ℕ) → least_ready left reached (length logs) ≡ Some core → total (length logs) left ≡ suc (total (length logs) (left_after left core))
  total_some left reached core e =
      let least = least_ready_some left reached (length logs) core e in
      let next = is_ready_entry reached (left core) (least.1).ready in
      total_left_after (length logs) left core next.0 (drop 1 (left core)) least.0 next.1

  pub gives_more : (left : ℕ → List Entry) (reached : ℕ → ℕ) (given : List ℕ) (core : ℕ) → IsGiving logs left reached given → least_ready left reached (length logs) ≡ Some core
      → IsGiving logs (left_after left core) (reached_after reached (left core)) (given ++ core ∷ [])
  gives_more left reached given core g e =
      let fewer = total_some left reached core e in
      let after : List ℕ = canonical_from (length logs) (left_after left core) (reached_after reached (left core)) (total (length logs) (left_after left core)) in
      let next : canonical_from (length logs) left reached (total (length logs) left) ≡ core ∷ after =
      ap (canonical_from (length logs) left reached) fewer ∙ canonical_from_some left reached (length logs) (total (length logs) (left_after left core)) core e in
      let pushed = length_push given core in
      let count = g.count in
      record {
        goes_on = append_assoc given (core ∷ []) after ∙ ap (λ (rest : List ℕ). given ++ rest) (sym next) ∙ g.goes_on;
        count = omega arith;
      }

  pub gives_all_none : (left : ℕ → List Entry) (reached : ℕ → ℕ) (given : List ℕ) → IsGiving logs left reached given → least_ready left reached (length logs) ≡ None → given ≡ canonical logs
  gives_all_none left reached given g e =
      sym (append-nil given) ∙ ap (λ (rest : List ℕ). given ++ rest) (sym (canonical_from_none left reached (length logs) (total (length logs) left) e)) ∙ g.goes_on

  pub gives_all_full : (left : ℕ → List Entry) (reached : ℕ → ℕ) (given : List ℕ) → IsGiving logs left reached given → entry_count logs ≤ length given → given ≡ canonical logs
  gives_all_full left reached given g h =
      let count = g.count in
      let nothing : total (length logs) left ≡ 0 = omega arith in
      sym (append-nil given) ∙ ap (λ (rest : List ℕ). given ++ rest) (sym (ap (canonical_from (length logs) left reached) nothing ∙ canonical_from_zero left reached (length logs))) ∙ g.goes_on

  pub gives_within : (left : ℕ → List Entry) (reached : ℕ → ℕ) (given : List ℕ) (core : ℕ) → IsGiving logs left reached given → least_ready left reached (length logs) ≡ Some core → length given < entry_count logs
  gives_within left reached given core g e =
      let fewer = total_some left reached core e in
      let count = g.count in
      omega arith

-- lists of zeros stand for the state in which nothing was given
pub get_or_zeros : (n i : ℕ) → get_or {A = ℕ} (replicate n 0) i 0 ≡ 0
get_or_zeros zero i = refl
get_or_zeros (suc n) zero = refl
get_or_zeros (suc n) (suc i) = get_or_zeros n i

pub left_at_zeros : (logs : List (List Entry)) (n : ℕ) → left_at logs (replicate n 0) ≡ log_of logs
left_at_zeros logs n = fun_ext (λ core. ap (λ (k : ℕ). drop k (log_of logs core)) (get_or_zeros n core))

pub reached_at_zeros : (n : ℕ) → reached_at (replicate n 0) ≡ (λ (word : ℕ). 0)
reached_at_zeros n = fun_ext (λ word. get_or_zeros n word)

-- the same, where lists of places and counts stand for the state
module _ (lists : List (Bounded Entry)) (places counts given : List ℕ) (now : IsGiving (logs_of lists) (left_at (logs_of lists) places) (reached_at counts) given) where
  to_count : (o : Option ℕ) → o ≡ least_ready (left_at (logs_of lists) places) (reached_at counts) (length lists) → least_ready (left_at (logs_of lists) places) (reached_at counts) (length (logs_of lists)) ≡ o
  to_count o e = ap (least_ready (left_at (logs_of lists) places) (reached_at counts)) (length-map lists (λ (list : Bounded Entry). list.items)) ∙ sym e

  pub list_gives_next : (core : ℕ) → Some core ≡ least_ready (left_at (logs_of lists) places) (reached_at counts) (length lists)
      → IsGiving (logs_of lists) (left_after (left_at (logs_of lists) places) core) (reached_after (reached_at counts) (left_at (logs_of lists) places core)) (given ++ core ∷ [])
  list_gives_next core e =
      gives_more (logs_of lists) (left_at (logs_of lists) places) (reached_at counts) given core now (to_count (Some core) e)

  pub list_gives_more : (core : ℕ) (places_after counts_after : List ℕ) → Some core ≡ least_ready (left_at (logs_of lists) places) (reached_at counts) (length lists)
      → left_at (logs_of lists) places_after ≡ left_after (left_at (logs_of lists) places) core
      → reached_at counts_after ≡ reached_after (reached_at counts) (left_at (logs_of lists) places core)
      → IsGiving (logs_of lists) (left_at (logs_of lists) places_after) (reached_at counts_after) (given ++ core ∷ [])
  list_gives_more core places_after counts_after e left reached = rw (left, reached) (list_gives_next core e)

  pub list_gives_none : None ≡ least_ready (left_at (logs_of lists) places) (reached_at counts) (length lists) → given ≡ canonical (logs_of lists)
  list_gives_none e = gives_all_none (logs_of lists) (left_at (logs_of lists) places) (reached_at counts) given now (to_count None e)

  pub list_gives_within : (core : ℕ) → Some core ≡ least_ready (left_at (logs_of lists) places) (reached_at counts) (length lists) → length given < entry_count (logs_of lists)
  list_gives_within core e = gives_within (logs_of lists) (left_at (logs_of lists) places) (reached_at counts) given core now (to_count (Some core) e)

  pub list_gives_full : entry_count (logs_of lists) ≤ length given → given ≡ canonical (logs_of lists)
  list_gives_full h = gives_all_full (logs_of lists) (left_at (logs_of lists) places) (reached_at counts) given now h

pub list_gives_nothing : (lists : List (Bounded Entry)) (places counts given : List ℕ) (n m : ℕ) → places ≡ replicate n 0 → counts ≡ replicate m 0 → given ≡ []
    → IsGiving (logs_of lists) (left_at (logs_of lists) places) (reached_at counts) given
list_gives_nothing lists places counts given n m p c e =
    rw (p, c, e, left_at_zeros (logs_of lists) n, reached_at_zeros m) (gives_nothing (logs_of lists))

-- two lists with the same items and the same room
pub same_list : {A : Type 0} (a b : Bounded A) → a.items ≡ b.items → a.room ≡ b.room → a ≡ b
same_list a b items room = λ i. record {
  items = items i;
  room = room i;
}
