-- Runs: the state along a list of core numbers, the lists that are complete orders, and the log of each core (this project's own).
use Rattle.std.specs.Prelude.{◌≡◌, ℕ, ◌<◌, Option, Some, None, IsSome, List, [], ◌∷◌, map}
use Rattle.std.specs.List.{range_with_len}
use Rattle.order_core.specs.declared.entry.Access.{Access}
use Rattle.order_core.specs.declared.entry.Entry.{Entry}
use Rattle.order_core.specs.Marked.{Marked, part_of}
use Rattle.machine.specs.Setups.{Setup, core_count}
use Rattle.machine.specs.States.{Word, State, opening}
use Rattle.machine.specs.Steps.{touched, step}

unfoldable pub run : Setup → State → List ℕ → State
run s t [] = t
run s t (c ∷ order) = run s (step s t c) order

-- the state after the steps of a list from the opening state
abbrev pub along : Setup → List ℕ → State
along s order = run s (opening s) order

-- each entry is a core of the setup that has not ended there
unfoldable pub IsPlayableFrom : Setup → State → List ℕ → Type 0
IsPlayableFrom s t [] = Unit {0}
IsPlayableFrom s t (c ∷ order) =
    (c < core_count s) × ((t.cores c).local.ending ≡ None) × IsPlayableFrom s (step s t c) order

abbrev pub IsPlayable : Setup → List ℕ → Type 0
IsPlayable s order = IsPlayableFrom s (opening s) order

-- after a complete order every core has ended
pub record IsComplete (s : Setup) (order : List ℕ) : Type 0 where
  pub playable : IsPlayable s order
  pub ended : (c : ℕ) → c < core_count s → IsSome ((along s order).cores c).local.ending

-- the access of a unit that touches this word
abbrev pub access_to : (ℕ → Word) → Option ℕ → Option Access
access_to words None = None
access_to words (Some n) = Some (record { word = n; number = (words n).count; found = (words n).payload })

unfoldable pub entry_at : Setup → State → ℕ → Entry
entry_at s t c = record { touch = access_to t.words (touched s (t.cores c)) }

-- the units of a list in its order, each with its core
unfoldable pub entries_from : Setup → State → List ℕ → List Marked
entries_from s t [] = []
entries_from s t (c ∷ order) = (c, entry_at s t c) ∷ entries_from s (step s t c) order

abbrev pub entries : Setup → List ℕ → List Marked
entries s order = entries_from s (opening s) order

-- the log of a core, and the logs of all cores in their order
abbrev pub log_along : Setup → List ℕ → ℕ → List Entry
log_along s order c = part_of c (entries s order)

abbrev pub logs_along : Setup → List ℕ → List (List Entry)
logs_along s order = map (log_along s order) (range_with_len 0 (core_count s))
