-- How many entries are left in all, of the cores below a count.
use Rattle.std.proofs.Common.{◌≡◌, ℕ, zero, suc, ◌+◌, ◌<◌, List, [], ◌∷◌, length, drop, refl, ap, arith}
use Rattle.order_core.specs.declared.entry.Entry.{Entry}
use Rattle.order_core.specs.Logs.{log_of, entry_count}
use Rattle.order_core.specs.CanonicalMerge.{left_after}
use Rattle.order_core.specs.Giving.{total}
use Rattle.order_core.proofs.SetAtLemmas.{shifted, set_at_same, set_at_other, shifted_set_at_zero, shifted_set_at_suc}

pub entry_count_total : (logs : List (List Entry)) → entry_count logs ≡ total (length logs) (log_of logs)
entry_count_total [] = refl
entry_count_total (log ∷ logs) = ap (λ (n : ℕ). length log + n) (entry_count_total logs)

-- one entry of a core is given
pub total_left_after : (count : ℕ) (left : ℕ → List Entry) (core : ℕ) (entry : Entry) (entries : List Entry) → core < count → left core ≡ entry ∷ entries → total count left ≡ suc (total count (left_after left core))
total_left_after zero left core entry entries h e = absurd (omega arith)
total_left_after (suc count) left zero entry entries h e =
    let first : length (left 0) ≡ suc (length (left_after left 0 0)) = rw (set_at_same left 0 (drop 1 (left 0)), e) refl in
    let others : total count (shifted (left_after left 0)) ≡ total count (shifted left) = ap (total count) (shifted_set_at_zero left (drop 1 (left 0))) in
    omega arith
total_left_after (suc count) left (suc core) entry entries h e =
    let first : length (left_after left (suc core) 0) ≡ length (left 0) = ap (length {A = Entry}) (set_at_other left (suc core) 0 (drop 1 (left (suc core))) (omega arith)) in
    let others : total count (shifted (left_after left (suc core))) ≡ total count (left_after (shifted left) core) = ap (total count) (shifted_set_at_suc left core (drop 1 (left (suc core)))) in
    let less = total_left_after count (shifted left) core entry entries (omega arith) e in
    omega arith

-- nothing is left
pub left_total_zero : (count : ℕ) (left : ℕ → List Entry) (core : ℕ) → total count left ≡ 0 → core < count → left core ≡ []
left_total_zero zero left core e h = absurd (omega arith)
left_total_zero (suc count) left zero e h = nil (left 0) (omega arith)
  where
    nil : (xs : List Entry) → length xs ≡ 0 → xs ≡ []
    nil [] _ = refl
    nil (x ∷ xs) f = absurd (omega arith)
left_total_zero (suc count) left (suc core) e h = left_total_zero count (shifted left) core (omega arith) (omega arith)

pub total_nothing : (count : ℕ) (left : ℕ → List Entry) → ((core : ℕ) → left core ≡ []) → total count left ≡ 0
total_nothing zero left h = refl
total_nothing (suc count) left h =
    let first : length (left 0) ≡ 0 = ap (length {A = Entry}) (h 0) in
    let others = total_nothing count (shifted left) (λ core. h (suc core)) in
    omega arith
