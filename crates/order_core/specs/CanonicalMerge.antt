-- The canonical merge of logs: at each place stands the least core that is ready. A core is ready where its next
-- entry has no access, or has the number that its word has reached.
use Rattle.std.specs.Prelude.{◌≡◌, ℕ, zero, suc, ◌+◌, ◌<◌, ◌==◌, Bool, true, false, IsTrue, IsFalse, List, [], ◌∷◌, length, drop, Option, Some, None}
use Rattle.std.specs.Option.{option_or, option_map_or}
use Rattle.std.specs.Bool.{then_some}
use Rattle.order_core.specs.declared.entry.Access.{Access}
use Rattle.order_core.specs.declared.entry.Entry.{Entry}
use Rattle.order_core.specs.SetAt.{set_at}
use Rattle.order_core.specs.Logs.{log_of, entry_count}

-- below, `left` is what is left of each core's log, and `reached` the number that each word has reached

abbrev pub may_touch : (ℕ → ℕ) → Option Access → Bool
may_touch reached None = true
may_touch reached (Some access) = access.number == reached access.word

abbrev pub is_ready : (ℕ → ℕ) → List Entry → Bool
is_ready reached [] = false
is_ready reached (entry ∷ _) = may_touch reached entry.touch

abbrev pub left_after : (ℕ → List Entry) → ℕ → ℕ → List Entry
left_after left core = set_at left core (drop 1 (left core))

abbrev pub raised : (ℕ → ℕ) → Option Access → ℕ → ℕ
raised reached None = reached
raised reached (Some access) = set_at reached access.word (reached access.word + 1)

abbrev pub reached_after : (ℕ → ℕ) → List Entry → ℕ → ℕ
reached_after reached [] = reached
reached_after reached (entry ∷ _) = raised reached entry.touch

pub record IsLeastReady (left : ℕ → List Entry) (reached : ℕ → ℕ) (core : ℕ) : Type 0 where
  pub ready : IsTrue (is_ready reached (left core))
  pub least : (lower : ℕ) → lower < core → IsFalse (is_ready reached (left lower))

abbrev pub IsCanonicalFrom : (ℕ → List Entry) → (ℕ → ℕ) → List ℕ → Type 0
IsCanonicalFrom left reached [] = (core : ℕ) → left core ≡ []
IsCanonicalFrom left reached (core ∷ order) =
    IsLeastReady left reached core × IsCanonicalFrom (left_after left core) (reached_after reached (left core)) order

abbrev pub IsCanonicalMerge : List (List Entry) → List ℕ → Type 0
IsCanonicalMerge logs order = IsCanonicalFrom (log_of logs) (λ word. 0) order

-- the least ready core below `count`, if one is ready
abbrev pub least_ready : (ℕ → List Entry) → (ℕ → ℕ) → ℕ → Option ℕ
least_ready left reached zero = None
least_ready left reached (suc count) = option_or (least_ready left reached count) (then_some (is_ready reached (left count)) count)

-- at most `most` places of the canonical order of the cores below `count`
unfoldable pub canonical_from : ℕ → (ℕ → List Entry) → (ℕ → ℕ) → ℕ → List ℕ
canonical_from count left reached zero = []
canonical_from count left reached (suc most) =
    option_map_or (λ core. core ∷ canonical_from count (left_after left core) (reached_after reached (left core)) most) (least_ready left reached count) []

-- the canonical merge, computed: it ends where no core is ready
abbrev pub canonical : List (List Entry) → List ℕ
canonical logs = canonical_from (length logs) (log_of logs) (λ word. 0) (entry_count logs)
