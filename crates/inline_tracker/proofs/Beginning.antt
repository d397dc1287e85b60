-- The run that a setup begins with stands along the empty order.
use Rattle.std.proofs.Common.{◌≡◌, ℕ, ◌+◌, ◌-◌, ◌<◌, ◌≤◌, List, [], ◌∷◌, ◌++◌, length, map, refl, arith, length-append, ⊎_elim}
use Rattle.std.specs.List.{range_with_len}
use Rattle.std.proofs.lemmas.Bool.{cases_lt}
use Rattle.std.proofs.lemmas.List.{get_or_append_left, get_or-append_right}
use Rattle.std.proofs.lemmas.List.FromFn.{get_or-map-range_with_len, length-map-range_with_len}
use Rattle.elf_image.specs.Layout.{words_of}
use Rattle.machine.specs.Setups.{Setup, IsSetup, core_count}
use Rattle.machine.specs.States.{opening_core}
use Rattle.machine.specs.Runs.{run, IsPlayableFrom, entries_from}
use Rattle.inline_tracker.specs.declared.memory.Cell.{Cell}
use Rattle.inline_tracker.specs.declared.seat.Seat.{Seat}
use Rattle.inline_tracker.specs.Cells.{no_cell, first_cell}
use Rattle.inline_tracker.specs.Standing.{Sits, StandsAlong, AreFirstSeats}

pub first_seats_more : (s : Setup) (n : ℕ) (seats : List Seat) (seat : Seat) → AreFirstSeats s n seats → Sits s.budget (opening_core s n) [] seat → AreFirstSeats s (n + 1) (seats ++ seat ∷ [])
first_seats_more s n seats seat h new = record {
  count_is = simp length-append (omega (arith, h.count_is));
  sit = λ c other below. ⊎_elim
      (λ (earlier : c < n). rw (get_or_append_left seats (seat ∷ []) other c (omega (arith, h.count_is))) (h.sit c other earlier))
      (λ (last : n ≤ c). let same : c ≡ n = omega arith in let zero_left : n - n ≡ 0 = omega arith in
      rw (same, get_or-append_right seats (seat ∷ []) n n other h.count_is (omega arith), zero_left) new)
      (cases_lt c n);
}

pub opening_stands : (s : Setup) (seats : List Seat) (cells : List Cell) → IsSetup s → AreFirstSeats s (core_count s) seats →
    cells ≡ map (first_cell s.program.layout) (range_with_len 0 (words_of s.program.layout)) → StandsAlong s [] seats cells []
unfolding run IsPlayableFrom entries_from
opening_stands s seats cells setup first cells_are =
    let size : length cells ≡ words_of s.program.layout = rw cells_are (length-map-range_with_len (first_cell s.program.layout) 0 (words_of s.program.layout)) in
    record {
      playable = tt;
      setup = setup;
      count = first.count_is;
      seats_are = λ c other below. first.sit c other (omega (arith, first.count_is));
      size = size;
      cells_are = λ n below. rw cells_are (get_or-map-range_with_len (first_cell s.program.layout) 0 (words_of s.program.layout) n n no_cell (omega (arith, size)) (omega arith));
      output_is = refl;
    }
