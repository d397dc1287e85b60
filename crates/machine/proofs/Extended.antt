-- A run with one more unit: its state, its entries and its logs.
use Rattle.std.proofs.Common.{◌≡◌, ℕ, ◌<◌, true, false, None, List, [], ◌∷◌, ◌++◌, refl, ap, ◌∙◌, eqb, if◌then◌else◌}
use Rattle.order_core.specs.declared.entry.Entry.{Entry}
use Rattle.order_core.specs.Marked.{Marked, part_of}
use Rattle.machine.specs.Setups.{Setup, core_count}
use Rattle.machine.specs.States.{State, opening}
use Rattle.machine.specs.Steps.{step}
use Rattle.machine.specs.Runs.{run, along, IsPlayableFrom, entries_from, entry_at, log_along}

pub run_more : (s : Setup) (t : State) (order : List ℕ) (c : ℕ) → run s t (order ++ c ∷ []) ≡ step s (run s t order) c
unfolding run
run_more s t [] c = refl
run_more s t (d ∷ order) c = run_more s (step s t d) order c

pub playable_more : (s : Setup) (t : State) (order : List ℕ) (c : ℕ) → IsPlayableFrom s t order → c < core_count s → ((run s t order).cores c).local.ending ≡ None → IsPlayableFrom s t (order ++ c ∷ [])
unfolding run IsPlayableFrom
playable_more s t [] c h below running = (below, running, tt)
playable_more s t (d ∷ order) c h below running = (h.0, h.1, playable_more s (step s t d) order c h.2 below running)

pub entries_more : (s : Setup) (t : State) (order : List ℕ) (c : ℕ) → entries_from s t (order ++ c ∷ []) ≡ entries_from s t order ++ (c, entry_at s (run s t order) c) ∷ []
unfolding run entries_from
entries_more s t [] c = refl
entries_more s t (d ∷ order) c = ap (λ m. (d, entry_at s t d) ∷ m) (entries_more s (step s t d) order c)

pub part_more : (core : ℕ) (marked : List Marked) (c : ℕ) (entry : Entry) → part_of core (marked ++ (c, entry) ∷ []) ≡ part_of core marked ++ part_of core ((c, entry) ∷ [])
part_more core [] c entry = refl
part_more core (m ∷ marked) c entry =
    elim (eqb m.0 core) as (λ b. (if b then m.1 ∷ part_of core (marked ++ (c, entry) ∷ []) else part_of core (marked ++ (c, entry) ∷ [])) ≡ (if b then m.1 ∷ part_of core marked else part_of core marked) ++ part_of core ((c, entry) ∷ [])) [
      | true ↦ ap (λ rest. m.1 ∷ rest) (part_more core marked c entry)
      | false ↦ part_more core marked c entry
    ]

-- what one more unit of core c adds to the log of a core
abbrev pub unit_in : ℕ → ℕ → Entry → List Entry
unit_in core c entry = part_of core ((c, entry) ∷ [])

pub log_more : (s : Setup) (order : List ℕ) (c core : ℕ) → log_along s (order ++ c ∷ []) core ≡ log_along s order core ++ unit_in core c (entry_at s (along s order) c)
log_more s order c core = ap (part_of core) (entries_more s (opening s) order c) ∙ part_more core (entries_from s (opening s) order) c (entry_at s (along s order) c)
