-- How the code that merges stands to the definition of the canonical merge.
use Rattle.std.proofs.Common.{◌≡◌, ◌≢◌, ◌⊎◌, set, eqb, get_or-set_same, get_or-set_other, drop-drop, ℕ, zero, suc, ◌+◌, ◌<◌, List, [], ◌∷◌, length, get_or, drop, true, false, All, Some, None, refl, sym, ap, subst, arith, ◌∙◌, add-one, inl, inr, eq-or-lt_of_le, le_of_suc-le-suc}
use Rattle.bounded_list.specs.Bounded.{Bounded}
use Rattle.order_core.specs.declared.entry.Entry.{Entry}
use Rattle.order_core.specs.Logs.{logs_of, log_of, TouchesBelow, AllTouchBelow}
use mathlib.Core.Path.{fun_ext}
use Rattle.std.proofs.lemmas.Bool.Decides.{eqb_tells}
use Rattle.order_core.specs.CanonicalMerge.{is_ready, least_ready, left_after}
use Rattle.order_core.specs.Places.{left_at, reached_at}

-- the log of a core among lists
pub log_of_item : (lists : List (Bounded Entry)) (core : ℕ) (log : Bounded Entry) → core < length lists → log ≡ get_or lists core log → log_of (logs_of lists) core ≡ log.items
log_of_item [] core log h e = absurd (omega arith)
log_of_item (x ∷ xs) zero log h e = ap (λ (l : Bounded Entry). l.items) (sym e)
log_of_item (x ∷ xs) (suc core) log h e = log_of_item xs core log (omega arith) e

-- its accesses are to words below
pub touches_below_item : (words : ℕ) (lists : List (Bounded Entry)) (core : ℕ) (log : Bounded Entry) → AllTouchBelow words (logs_of lists) → core < length lists → log ≡ get_or lists core log → All (TouchesBelow words) log.items
touches_below_item words [] core log w h e = absurd (omega arith)
touches_below_item words (x ∷ xs) zero log w h e =
    let P : Bounded Entry → Type 0 = λ l. All (TouchesBelow words) l.items in
    subst P (sym e) (w 0 [] (omega arith))
touches_below_item words (x ∷ xs) (suc core) log w h e = touches_below_item words xs core log (λ k d lt. w (suc k) d (omega arith)) (omega arith) e

-- whether the core may come next, read from the lists
pub is_ready_item : (lists : List (Bounded Entry)) (places counts : List ℕ) (core : ℕ) (log : Bounded Entry) (entries : List Entry) → core < length lists → log ≡ get_or lists core log → entries ≡ log.items → is_ready (reached_at counts) (left_at (logs_of lists) places core) ≡ is_ready (reached_at counts) (drop (get_or places core 0) entries)
is_ready_item lists places counts core log entries h e f =
    ap (λ (log : List Entry). is_ready (reached_at counts) (drop (get_or places core 0) log)) (log_of_item lists core log h e ∙ sym f)

-- no core is ready up to here
pub least_ready_more : (left : ℕ → List Entry) (reached : ℕ → ℕ) (core : ℕ) → least_ready left reached core ≡ None → is_ready reached (left core) ≡ false → least_ready left reached (core + 1) ≡ None
least_ready_more left reached core e f = rw (add-one, e, f) refl

-- a core found ready, with no lesser one ready
pub least_ready_found : (left : ℕ → List Entry) (reached : ℕ → ℕ) (core count : ℕ) → least_ready left reached core ≡ None → is_ready reached (left core) ≡ true → core < count → least_ready left reached count ≡ Some core
least_ready_found left reached core zero e f h = absurd (omega arith)
least_ready_found left reached core (suc count) e f h =
    elim (eq-or-lt_of_le (le_of_suc-le-suc h)) [
      | inl same ↦ rw (← same, e, f) refl
      | inr less ↦ rw (least_ready_found left reached core count e f less) refl
    ]

-- a core that is ready has an entry at its place
pub place_below : (reached : ℕ → ℕ) (place : ℕ) (log : List Entry) → is_ready reached (drop place log) ≡ true → place < length log
place_below reached zero [] e = cc
place_below reached zero (x ∷ xs) e = omega arith
place_below reached (suc place) [] e = cc
place_below reached (suc place) (x ∷ xs) e = let below = place_below reached place xs e in omega arith

-- one entry of a core is given
pub left_at_set : (logs : List (List Entry)) (places : List ℕ) (core : ℕ) → core < length places → left_at logs (set places core (get_or places core 0 + 1)) ≡ left_after (left_at logs places) core
left_at_set logs places core h = fun_ext (λ other. at other (eqb_tells other core))
  where
    at : (other : ℕ) → ((eqb other core ≡ true) × (other ≡ core)) ⊎ ((eqb other core ≡ false) × (other ≢ core))
        → left_at logs (set places core (get_or places core 0 + 1)) other ≡ left_after (left_at logs places) core other
    at other (inl same) = rw (same.0, same.1, get_or-set_same places core (get_or places core 0 + 1) 0 h) (sym (drop-drop 1 (get_or places core 0) (log_of logs core)))
    at other (inr apart) = rw (apart.0, get_or-set_other places core other (get_or places core 0 + 1) 0 apart.1) refl

-- the next entry of a log, at its place
pub drop_entry : (log : List Entry) (place : ℕ) (entry : Entry) → place < length log → entry ≡ get_or log place entry → drop place log ≡ entry ∷ drop 1 (drop place log)
drop_entry [] place entry h e = absurd (omega arith)
drop_entry (x ∷ xs) zero entry h e = ap (λ (y : Entry). y ∷ xs) (sym e)
drop_entry (x ∷ xs) (suc place) entry h e = drop_entry xs place entry (omega arith) e

-- it touches what the log's entries touch
pub touches_entry : (words : ℕ) (log : List Entry) (place : ℕ) (entry : Entry) → All (TouchesBelow words) log → place < length log → entry ≡ get_or log place entry → TouchesBelow words entry
touches_entry words log place entry w h e = let P : Entry → Type 0 = TouchesBelow words in subst P (sym e) (w place entry h)

-- the accesses of all lists, and those of the logs that they hold
pub all_touch_below_from_lists : (words : ℕ) (lists : List (Bounded Entry)) → All (λ list. All (TouchesBelow words) list.items) lists → AllTouchBelow words (logs_of lists)
all_touch_below_from_lists words [] h k d lt = absurd (omega arith)
all_touch_below_from_lists words (x ∷ xs) h zero d lt = h zero x (omega arith)
all_touch_below_from_lists words (x ∷ xs) h (suc k) d lt = all_touch_below_from_lists words xs (λ j e m. h (suc j) e (omega arith)) k d (omega arith)

pub all_touch_below_to_lists : (words : ℕ) (lists : List (Bounded Entry)) → AllTouchBelow words (logs_of lists) → All (λ list. All (TouchesBelow words) list.items) lists
all_touch_below_to_lists words [] h k d lt = absurd (omega arith)
all_touch_below_to_lists words (x ∷ xs) h zero d lt = h zero [] (omega arith)
all_touch_below_to_lists words (x ∷ xs) h (suc k) d lt = all_touch_below_to_lists words xs (λ j e m. h (suc j) e (omega arith)) k d (omega arith)
