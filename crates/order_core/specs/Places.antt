-- Proof form: how lists of places and counts stand for the state of a merge (CanonicalMerge).
use Rattle.std.specs.Prelude.{ℕ, List, drop, slice_index}
use Rattle.order_core.specs.declared.entry.Entry.{Entry}
use Rattle.order_core.specs.Logs.{log_of}

-- what is left of each log, where this many entries of it were given
abbrev pub left_at : List (List Entry) → List ℕ → ℕ → List Entry
left_at logs places = λ core. drop (slice_index places core) (log_of logs core)

-- the number that each word has reached
abbrev pub reached_at : List ℕ → ℕ → ℕ
reached_at counts = λ word. slice_index counts word
