-- A history of accesses of several cores in one order, as a table of numbered words gives it, and the logs that it fits:
-- each core's part is the accesses of its log, and each word's numbers count up from 0.
use Rattle.std.specs.Prelude.{◌≡◌, ℕ, List, [], ◌∷◌, ◌++◌, Option, Some, None, option_to_list}
use Rattle.order_core.specs.declared.entry.Access.{Access}
use Rattle.order_core.specs.declared.entry.Entry.{Entry}
use Rattle.order_core.specs.Logs.{log_of}
use Rattle.order_core.specs.Marked.{Marked, part_of, numbers_by}
use Rattle.order_core.specs.LegalMerge.{CountUpFrom, IsLegalMerge}

-- an access and the core that made it
abbrev pub CoreAccess : Type 0
CoreAccess = ℕ × Access

-- the accesses in a log
abbrev pub touches_of : List Entry → List Access
touches_of [] = []
touches_of (entry ∷ entries) = option_to_list entry.touch ++ touches_of entries

-- the accesses of marked entries, each with its core
abbrev pub touched_by : ℕ → Option Access → List CoreAccess
touched_by core None = []
touched_by core (Some access) = (core, access) ∷ []

abbrev pub history_of : List Marked → List CoreAccess
history_of [] = []
history_of (m ∷ marked) = touched_by m.0 (m.1).touch ++ history_of marked

pub record FitsLogs (logs : List (List Entry)) (history : List CoreAccess) : Type 0 where
  pub parts : (core : ℕ) → part_of core history ≡ touches_of (log_of logs core)
  pub numbers : (word : ℕ) → CountUpFrom 0 (numbers_by Some word history)

-- the history with the units without access put in is a legal merge of the logs
pub record ExtendsToMerge (logs : List (List Entry)) (history : List CoreAccess) : Type 0 where
  pub marked : List Marked
  pub legal : IsLegalMerge logs marked
  pub accesses : history_of marked ≡ history
