-- When marked entries are a legal merge of logs: each core's part is its log, and each word's numbers count up from 0
-- (after Kannan, MICRO 2009: tag accesses follow the order of the data accesses).
use Rattle.std.specs.Prelude.{◌≡◌, ℕ, List, [], ◌∷◌, suc}
use Rattle.order_core.specs.declared.entry.Entry.{Entry}
use Rattle.order_core.specs.Logs.{log_of}
use Rattle.order_core.specs.Marked.{Marked, marks_of, part_of, numbers_of}

-- the numbers are `first`, `first + 1`, `first + 2` and so on
abbrev pub CountUpFrom : ℕ → List ℕ → Type 0
CountUpFrom first [] = Unit {0}
CountUpFrom first (number ∷ numbers) = (number ≡ first) × CountUpFrom (suc first) numbers

pub record IsLegalMerge (logs : List (List Entry)) (marked : List Marked) : Type 0 where
  pub parts : (core : ℕ) → part_of core marked ≡ log_of logs core
  pub numbers : (word : ℕ) → CountUpFrom 0 (numbers_of word marked)

abbrev pub HasLegalMerge : List (List Entry) → Type 0
HasLegalMerge logs = (marked : List Marked) × IsLegalMerge logs marked

-- a list of cores that is the order of a legal merge of the logs
pub record IsLegalOrder (logs : List (List Entry)) (order : List ℕ) : Type 0 where
  pub marked : List Marked
  pub cores : marks_of marked ≡ order
  pub legal : IsLegalMerge logs marked
