-- The access logs of several cores: which log is whose, how many entries they hold, which words they touch.
use Rattle.std.specs.Prelude.{ℕ, ◌+◌, ◌<◌, List, [], ◌∷◌, map, length, slice_index_or, IfSome, All}
use Rattle.bounded_list.specs.Bounded.{Bounded}
use Rattle.order_core.specs.declared.entry.Entry.{Entry}

-- the logs that these lists hold
abbrev pub logs_of : List (Bounded Entry) → List (List Entry)
logs_of lists = map (λ list. list.items) lists

-- the log of a core, which is empty for a core that is not among them
abbrev pub log_of : List (List Entry) → ℕ → List Entry
log_of logs core = slice_index_or logs core []

-- how many entries the logs hold together
abbrev pub entry_count : List (List Entry) → ℕ
entry_count [] = 0
entry_count (log ∷ logs) = length log + entry_count logs

-- an entry with no access, or with one to a word below `words`
abbrev pub TouchesBelow : ℕ → Entry → Type 0
TouchesBelow words entry = IfSome entry.touch (λ access. access.word < words)

-- each access of the logs is to a word below `words`
abbrev pub AllTouchBelow : ℕ → List (List Entry) → Type 0
AllTouchBelow words logs = All (All (TouchesBelow words)) logs
