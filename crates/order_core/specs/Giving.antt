-- Proof form: a merge on its way, of which a list of cores was given.
use Rattle.std.specs.Prelude.{◌≡◌, ℕ, zero, suc, ◌+◌, List, ◌++◌, length}
use Rattle.order_core.specs.declared.entry.Entry.{Entry}
use Rattle.order_core.specs.Logs.{entry_count}
use Rattle.order_core.specs.CanonicalMerge.{canonical_from, canonical}

-- how many entries are left in all, of the cores below a count
abbrev pub total : ℕ → (ℕ → List Entry) → ℕ
total zero left = 0
total (suc count) left = length (left 0) + total count (λ core. left (suc core))

-- what was given goes on to the canonical order
pub record IsGiving (logs : List (List Entry)) (left : ℕ → List Entry) (reached : ℕ → ℕ) (given : List ℕ) : Type 0 where
  pub goes_on : given ++ canonical_from (length logs) left reached (total (length logs) left) ≡ canonical logs
  pub count : length given + total (length logs) left ≡ entry_count logs
