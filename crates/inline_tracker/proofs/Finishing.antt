-- A run in which every core has ended is the finished run of its order.
use Rattle.std.proofs.Common.{◌≡◌, ℕ, ◌<◌, Option, Some, None, List, [], ◌∷◌, length, map, refl, sym, ap, ◌∙◌, arith}
use Rattle.std.specs.Prelude.{slice_index_or, IsSome}
use Rattle.std.specs.List.{range_with_len}
use Rattle.std.proofs.lemmas.List.{length-map}
use Rattle.std.proofs.Math.ListN.{get_or-map}
use Rattle.std.proofs.lemmas.List.FromFn.{fill_by_all}
use Rattle.bounded_list.specs.Bounded.{Bounded}
use Rattle.record_lane.specs.declared.note.CallNote.{CallNote}
use Rattle.order_core.specs.declared.entry.Entry.{Entry}
use Rattle.syscall_drain.specs.declared.end.End.{End}
use Rattle.machine.specs.Setups.{Setup, core_count}
use Rattle.machine.specs.States.{Core}
use Rattle.machine.specs.Runs.{along, log_along, logs_along, IsComplete}
use Rattle.machine.specs.Outcomes.{summary_of, summaries, output}
use Rattle.machine.specs.FinishedRuns.{IsFinishedRun}
use Rattle.machine.proofs.Output.{output_joined}
use Rattle.inline_tracker.specs.declared.finished.CoreOutcome.{CoreOutcome}
use Rattle.inline_tracker.specs.declared.memory.Cell.{Cell}
use Rattle.inline_tracker.specs.declared.seat.Seat.{Seat}
use Rattle.inline_tracker.specs.Outcomes.{outcome_summary}
use Rattle.inline_tracker.specs.Seats.{core_in, notes_held, Holds, HaveEnded, AreOver, SomeGoesOn}
use Rattle.inline_tracker.specs.Standing.{Sits, StandsAlong}
use Rattle.inline_tracker.proofs.Lists.{map_twice}
use Rattle.inline_tracker.proofs.Seating.{has_outcome}
use Rattle.inline_tracker.proofs.Standing.{at_stand}

-- a core that has ended has its outcome
pub are_over : (s : Setup) (order : List ℕ) (seats : List Seat) (cells : List Cell) (bytes : List ℕ) → StandsAlong s order seats cells bytes → HaveEnded seats → AreOver seats
are_over s order seats cells bytes h ended = λ c other below.
    has_outcome _ _ _ _ _ _ (h.seats_are c other below).seated.holds (ended c other below)

-- the outcome of a core that has ended is its summary
outcome_told : (core : Core) (budget : ℕ) (notes : Option (Bounded CallNote)) (outcome : CoreOutcome) →
    Holds budget core.local.units core.tags.trap core.local.ending notes (Some outcome) → core.notes ≡ notes_held notes (Some outcome) → outcome_summary outcome ≡ summary_of core
outcome_told core budget notes outcome holds notes_are = by_end core.local.ending refl notes refl holds
  where
    by_end : (end : Option End) → core.local.ending ≡ end → (kept : Option (Bounded CallNote)) → notes ≡ kept → Holds budget core.local.units core.tags.trap end kept (Some outcome) → outcome_summary outcome ≡ summary_of core
    by_end None e None k holds = absurd holds
    by_end None e (Some kept) k holds = absurd holds
    by_end (Some end) e (Some kept) k holds = absurd holds
    by_end (Some end) e None k holds = rw (e, notes_are, k, holds.0, holds.1, holds.2) refl

seat_summary : (budget : ℕ) (core : Core) (log : List Entry) (seat : Seat) (outcome : CoreOutcome) → Sits budget core log seat → seat.outcome ≡ Some outcome → outcome_summary outcome ≡ summary_of core
seat_summary budget core log seat outcome sits is =
    outcome_told (core_in seat) budget seat.notes outcome (rw is at sits.seated.holds) (ap (notes_held seat.notes) is) ∙ ap summary_of sits.core_is

-- the logs and the outcomes by place
pub logs_are : (s : Setup) (order : List ℕ) (seats : List Seat) (cells : List Cell) (bytes : List ℕ) → StandsAlong s order seats cells bytes → map (λ seat. seat.log.items) seats ≡ logs_along s order
logs_are s order [] cells bytes h = ap (λ n. map (log_along s order) (range_with_len 0 n)) h.count
logs_are s order (first ∷ rest) cells bytes h =
    let seats = first ∷ rest in
    let f : Seat → List Entry = λ seat. seat.log.items in
    let size : length (map f seats) ≡ core_count s = simp length-map h.count in
    fill_by_all (log_along s order) (map f seats) (core_count s) (f first) size
    (λ c below. get_or-map f seats c first ∙ (h.seats_are c first (omega (arith, h.count))).log_is)

summaries_are : (s : Setup) (order : List ℕ) (seats : List Seat) (cells : List Cell) (bytes : List ℕ) (outcomes : List CoreOutcome) → StandsAlong s order seats cells bytes → map Some outcomes ≡ map (λ seat. seat.outcome) seats → map outcome_summary outcomes ≡ summaries s (along s order)
summaries_are s order [] cells bytes [] h are = ap (λ n. map (λ c. summary_of ((along s order).cores c)) (range_with_len 0 n)) h.count
summaries_are s order [] cells bytes (outcome ∷ outcomes) h are = absurd (cc)
summaries_are s order (first ∷ rest) cells bytes [] h are = absurd (cc)
summaries_are s order (first ∷ rest) cells bytes (outcome ∷ outcomes) h are =
    let seats : List Seat = first ∷ rest in
    let all : List CoreOutcome = outcome ∷ outcomes in
    let told : CoreOutcome → Option CoreOutcome = λ x. Some x in
    let held : Seat → Option CoreOutcome = λ seat. seat.outcome in
    let same : length (map told all) ≡ length (map held seats) = ap length are in
    let size : length (map outcome_summary all) ≡ core_count s = omega (arith, length-map all outcome_summary, length-map all told, length-map seats held, same, h.count) in
    let head : held first ≡ Some outcome = cc in
    fill_by_all (λ c. summary_of ((along s order).cores c)) (map outcome_summary all) (core_count s) (outcome_summary outcome) size
    (λ c below.
    let inside : c < length seats = omega (arith, h.count) in
    let is : held (slice_index_or seats c first) ≡ Some (slice_index_or all c outcome) = sym (get_or-map held seats c first) ∙ ap (λ (d : Option CoreOutcome). slice_index_or (map held seats) c d) head ∙ sym (ap (λ (xs : List (Option CoreOutcome)). slice_index_or xs c (Some outcome)) are) ∙ get_or-map told all c outcome in
    get_or-map outcome_summary all c outcome ∙ seat_summary s.budget ((along s order).cores c) (log_along s order c) (slice_index_or seats c first) (slice_index_or all c outcome) (h.seats_are c first inside) is)

output_is_along : (s : Setup) (order : List ℕ) (seats : List Seat) (cells : List Cell) (bytes : List ℕ) → StandsAlong s order seats cells bytes → bytes ≡ output (along s order)
unfolding output
output_is_along s order seats cells bytes h =
    let at = at_stand s order seats cells bytes h in
    h.output_is ∙ sym (output_joined ((along s order).words 1) at.written.follow at.written.written)

pub complete_of : (s : Setup) (order : List ℕ) (seats : List Seat) (cells : List Cell) (bytes : List ℕ) → StandsAlong s order seats cells bytes → (some : Seat) → HaveEnded seats → IsComplete s order
complete_of s order seats cells bytes h some ended = record {
  playable = h.playable;
  ended = λ c below. let inside : c < length seats = omega (arith, h.count) in
      rw (← ap (λ (core : Core). core.local.ending) (h.seats_are c some inside).core_is) (ended c some inside);
}

-- the finished run
pub finished_run : (s : Setup) (order : List ℕ) (seats : List Seat) (cells : List Cell) (bytes : List ℕ) (outcomes : List CoreOutcome) → StandsAlong s order seats cells bytes → HaveEnded seats → map Some outcomes ≡ map (λ seat. seat.outcome) seats →
    IsFinishedRun s (record { order = order; logs = map (λ log. log.items) (map (λ seat. seat.log) seats); cores = map outcome_summary outcomes; output = bytes })
finished_run s order [] cells bytes outcomes h ended are = record {
  complete = record { playable = h.playable; ended = λ c below. absurd (omega (arith, h.count)) };
  run = rw (logs_are s order [] cells bytes h, summaries_are s order [] cells bytes outcomes h are, output_is_along s order [] cells bytes h) refl;
}
finished_run s order (first ∷ rest) cells bytes outcomes h ended are = record {
  complete = complete_of s order (first ∷ rest) cells bytes h first ended;
  run = rw (map_twice (λ (log : Bounded Entry). log.items) (λ (seat : Seat). seat.log) (first ∷ rest), logs_are s order (first ∷ rest) cells bytes h, summaries_are s order (first ∷ rest) cells bytes outcomes h are, output_is_along s order (first ∷ rest) cells bytes h) refl;
}

-- an order is not complete while a core goes on
pub unfinished : (s : Setup) (order : List ℕ) (seats : List Seat) (cells : List Cell) (bytes : List ℕ) → StandsAlong s order seats cells bytes → SomeGoesOn seats → IsComplete s order → ⊥
unfinished s order [] cells bytes h going complete = omega (arith, going.within)
unfinished s order (first ∷ rest) cells bytes h going complete =
    let running = going.running first in
    let same = ap (λ (core : Core). core.local.ending) (h.seats_are going.core first going.within).core_is in
    let none : ((along s order).cores going.core).local.ending ≡ None = sym same ∙ running in
    let some : IsSome ((along s order).cores going.core).local.ending = complete.ended going.core (omega (arith, going.within, h.count)) in
    none_is_none (rw none at some)
  where
    none_is_none : IsSome {T = End} None → ⊥
    none_is_none e = cc
