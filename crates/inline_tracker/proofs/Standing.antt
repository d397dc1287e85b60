-- A run with one more unit stands along its order with that unit.
use Rattle.std.proofs.Common.{◌≡◌, ℕ, ◌<◌, Bool, true, false, Option, Some, None, List, [], ◌∷◌, ◌++◌, length, refl, sym, ap, ◌∙◌, subst, arith, eqb, append_assoc, append-nil}
use Rattle.std.specs.Prelude.{slice_index_or, slice_set}
use Rattle.std.proofs.Math.ListN.{length-set}
use Rattle.std.proofs.lemmas.Bool.Decides.{nat_tests}
use Rattle.std.proofs.lemmas.List.{get_or-set_same, get_or-set_other}
use Rattle.rv_execute.specs.declared.op.Op.{Op}
use Rattle.syscall_drain.specs.declared.ask.CoreAsk.TheVariants.{Touch as Touches}
use Rattle.syscall_drain.specs.declared.ask.Answer.TheVariants.{Taken as Took}
use Rattle.syscall_drain.specs.Units.{next_ask, placed}
use Rattle.syscall_drain.specs.Pieces.{Piece, piece_at, bytes_placed}
use Rattle.syscall_drain.proofs.Units.{elsewhere_places_nothing}
use Rattle.order_core.specs.declared.entry.Entry.{Entry}
use Rattle.order_core.specs.SetAt.{set_at}
use Rattle.machine.specs.Setups.{Setup}
use Rattle.machine.specs.States.{Core, Word, State, opening}
use Rattle.machine.specs.Steps.{step, step_by, touched, quiet, took, left, found_in}
use Rattle.machine.specs.Runs.{along, log_along, entry_at}
use Rattle.machine.specs.Outcomes.{bytes_in}
use Rattle.machine.proofs.SetAt.{set_at_here, set_at_there}
use Rattle.machine.proofs.Extended.{run_more, playable_more, log_more, unit_in}
use Rattle.machine.proofs.ByAsk.{touches_word, step_quiet, step_took, left_pieces}
use Rattle.machine.proofs.Along.{IsAt, at_along}
use Rattle.inline_tracker.specs.declared.memory.Cell.{Cell}
use Rattle.inline_tracker.specs.declared.seat.Seat.{Seat}
use Rattle.inline_tracker.specs.Cells.{no_cell, cell_of, cell_at}
use Rattle.inline_tracker.specs.Seats.{core_in, IsSeated}
use Rattle.inline_tracker.specs.Standing.{Sits, StandsAlong}

unit_same : (c : ℕ) (entry : Entry) → unit_in c c entry ≡ entry ∷ []
unit_same c entry = let e : eqb c c ≡ true = grind (arith, nat_tests) in rw e refl

unit_other : (d c : ℕ) (entry : Entry) → (d ≡ c → ⊥) → unit_in d c entry ≡ []
unit_other d c entry apart = let e : eqb c d ≡ false = grind (arith, nat_tests) in rw e refl

-- one seat replaced: it has one more unit, and the others are as they were
sits_set : (budget : ℕ) (cores : ℕ → Core) (logs : ℕ → List Entry) (seats : List Seat) (c : ℕ) (core : Core) (entry : Entry) (after : Seat) →
    ((d : ℕ) (other : Seat) → d < length seats → Sits budget (cores d) (logs d) (slice_index_or seats d other)) →
    Sits budget core (logs c ++ entry ∷ []) after → c < length seats →
    (d : ℕ) (other : Seat) → d < length (slice_set seats c after) → Sits budget (set_at cores c core d) (logs d ++ unit_in d c entry) (slice_index_or (slice_set seats c after) d other)
sits_set budget cores logs seats c core entry after all new below d other inside = by_place (eqb d c) (grind (arith, nat_tests)) (grind (arith, nat_tests))
  where
    here : d ≡ c → Sits budget (set_at cores c core d) (logs d ++ unit_in d c entry) (slice_index_or (slice_set seats c after) d other)
    here same = rw (same, set_at_here cores c core, unit_same c entry, get_or-set_same seats c after other below) new

    there : (d ≡ c → ⊥) → Sits budget (set_at cores c core d) (logs d ++ unit_in d c entry) (slice_index_or (slice_set seats c after) d other)
    there apart = rw (set_at_there cores c core d apart, unit_other d c entry apart, append-nil (logs d), get_or-set_other seats c d after other apart) (all d other (omega (arith, length-set seats c after)))

    by_place : (b : Bool) → (b ≡ true → d ≡ c) → (b ≡ false → d ≡ c → ⊥) → Sits budget (set_at cores c core d) (logs d ++ unit_in d c entry) (slice_index_or (slice_set seats c after) d other)
    by_place true same apart = here (same refl)
    by_place false same apart = there (apart refl)

-- the state with one more unit
along_more : (s : Setup) (order : List ℕ) (c : ℕ) → along s (order ++ c ∷ []) ≡ step s (along s order) c
along_more s order c = run_more s (opening s) order c

abbrev no_access : Entry
no_access = record { touch = None }

quiet_entry : (s : Setup) (t : State) (c : ℕ) → touched s (t.cores c) ≡ None → entry_at s t c ≡ no_access
unfolding entry_at
quiet_entry s t c none = rw none refl

abbrev access_entry : ℕ → Word → Entry
access_entry n w = record { touch = Some (record { word = n; number = w.count; found = w.payload }) }

took_entry : (s : Setup) (t : State) (c n : ℕ) → touched s (t.cores c) ≡ Some n → entry_at s t c ≡ access_entry n (t.words n)
unfolding entry_at
took_entry s t c n some = rw some refl

pub at_stand : (s : Setup) (order : List ℕ) (seats : List Seat) (cells : List Cell) (output : List ℕ) → StandsAlong s order seats cells output → IsAt s (along s order) (length order)
at_stand s order seats cells output h = at_along s h.setup order h.playable

-- a unit that touches no word
pub quiet_stands : (s : Setup) (order : List ℕ) (seats : List Seat) (cells : List Cell) (output : List ℕ) (c : ℕ) (seat after : Seat) →
    StandsAlong s order seats cells output → c < length seats → seat ≡ slice_index_or seats c seat →
    ((along s order).cores c).local.ending ≡ None → touched s ((along s order).cores c) ≡ None →
    core_in after ≡ quiet s (core_in seat) → after.log.items ≡ seat.log.items ++ no_access ∷ [] → IsSeated s.budget after →
    StandsAlong s (order ++ c ∷ []) (slice_set seats c after) cells output
quiet_stands s order seats cells output c seat after h below seat_is running none core_is log_is seated =
    let t : State = along s order in
    let next : along s (order ++ c ∷ []) ≡ step_by s t c None = along_more s order c ∙ step_quiet s t c none in
    let sat : Sits s.budget (t.cores c) (log_along s order c) seat = subst (λ (x : Seat). Sits s.budget (t.cores c) (log_along s order c) x) (sym seat_is) (h.seats_are c seat below) in
    let entry : entry_at s t c ≡ no_access = quiet_entry s t c none in
    let sits : Sits s.budget (quiet s (t.cores c)) (log_along s order c ++ no_access ∷ []) after = record {
      core_is = core_is ∙ ap (quiet s) sat.core_is;
      log_is = log_is ∙ ap (λ log. log ++ no_access ∷ []) sat.log_is;
      seated = seated;
    } in
    record {
      playable = playable_more s (opening s) order c h.playable (omega (arith, h.count)) running;
      setup = h.setup;
      count = length-set seats c after ∙ h.count;
      seats_are = λ d other inside. rw (next, log_more s order c d, entry) (sits_set s.budget t.cores (log_along s order) seats c (quiet s (t.cores c)) no_access after h.seats_are sits below d other inside);
      size = h.size;
      cells_are = λ n inside. rw next (h.cells_are n inside);
      output_is = rw next h.output_is;
    }

-- ---- an access

bytes_of_piece : (place : Option ℕ) (bytes : List ℕ) → bytes_in (piece_at place bytes) ≡ bytes_placed place bytes
bytes_of_piece None bytes = refl
bytes_of_piece (Some place) bytes = append-nil bytes

bytes_in_append : (xs ys : List Piece) → bytes_in (xs ++ ys) ≡ bytes_in xs ++ bytes_in ys
bytes_in_append [] ys = refl
bytes_in_append (x ∷ xs) ys = rw (bytes_in_append xs ys) (sym (append_assoc x.bytes (bytes_in xs) (bytes_in ys)))

-- the output after an access to word n
output_more : (s : Setup) (c : Core) (words : ℕ → Word) (n : ℕ) (op : Op) → next_ask s.program c.local ≡ Touches n op →
    bytes_in (set_at words n (left s c (words n)) 1).pieces ≡ bytes_in (words 1).pieces ++ bytes_placed (placed s.program c.local (Took (found_in s (words n)))) c.local.gathered
output_more s c words n op asks = by_word (eqb n 1) (grind (arith, nat_tests)) (grind (arith, nat_tests))
  where
    claim : n ≡ 1 → bytes_in (set_at words n (left s c (words n)) 1).pieces ≡ bytes_in (words 1).pieces ++ bytes_placed (placed s.program c.local (Took (found_in s (words n)))) c.local.gathered
    claim one = rw (one, set_at_here words 1 (left s c (words 1)), left_pieces s c (words 1), bytes_in_append (words 1).pieces (piece_at (placed s.program c.local (Took (found_in s (words 1)))) c.local.gathered), bytes_of_piece (placed s.program c.local (Took (found_in s (words 1)))) c.local.gathered) refl

    elsewhere : (n ≡ 1 → ⊥) → bytes_in (set_at words n (left s c (words n)) 1).pieces ≡ bytes_in (words 1).pieces ++ bytes_placed (placed s.program c.local (Took (found_in s (words n)))) c.local.gathered
    elsewhere other = rw (set_at_there words n (left s c (words n)) 1 (λ e. other (sym e)), elsewhere_places_nothing s.program c.local (found_in s (words n)) n op asks other) (sym (append-nil (bytes_in (words 1).pieces)))

    by_word : (b : Bool) → (b ≡ true → n ≡ 1) → (b ≡ false → n ≡ 1 → ⊥) → bytes_in (set_at words n (left s c (words n)) 1).pieces ≡ bytes_in (words 1).pieces ++ bytes_placed (placed s.program c.local (Took (found_in s (words n)))) c.local.gathered
    by_word true one other = claim (one refl)
    by_word false one other = elsewhere (other refl)

-- one cell replaced
cells_set : (words : ℕ → Word) (cells : List Cell) (n : ℕ) (left_word : Word) (after : Cell) → after ≡ cell_at left_word → ((m : ℕ) → m < length cells → cell_of cells m ≡ cell_at (words m)) → n < length cells →
    (m : ℕ) → m < length (slice_set cells n after) → cell_of (slice_set cells n after) m ≡ cell_at (set_at words n left_word m)
cells_set words cells n left_word after is all within m inside = by_word (eqb m n) (grind (arith, nat_tests)) (grind (arith, nat_tests))
  where
    here : m ≡ n → cell_of (slice_set cells n after) m ≡ cell_at (set_at words n left_word m)
    here same = rw (same, set_at_here words n left_word, get_or-set_same cells n after no_cell within) is

    there : (m ≡ n → ⊥) → cell_of (slice_set cells n after) m ≡ cell_at (set_at words n left_word m)
    there apart = rw (set_at_there words n left_word m apart, get_or-set_other cells n m after no_cell apart) (all m (omega (arith, length-set cells n after)))

    by_word : (b : Bool) → (b ≡ true → m ≡ n) → (b ≡ false → m ≡ n → ⊥) → cell_of (slice_set cells n after) m ≡ cell_at (set_at words n left_word m)
    by_word true same apart = here (same refl)
    by_word false same apart = there (apart refl)

-- a unit with an access to word n
pub took_stands : (s : Setup) (order : List ℕ) (seats : List Seat) (cells : List Cell) (output : List ℕ) (c n : ℕ) (op : Op) (seat after : Seat) (cell : Cell) (bytes : List ℕ) →
    StandsAlong s order seats cells output → c < length seats → n < length cells → seat ≡ slice_index_or seats c seat →
    ((along s order).cores c).local.ending ≡ None → next_ask s.program ((along s order).cores c).local ≡ Touches n op →
    core_in after ≡ took s (core_in seat) ((along s order).words n) → cell ≡ cell_at (left s (core_in seat) ((along s order).words n)) →
    after.log.items ≡ seat.log.items ++ access_entry n ((along s order).words n) ∷ [] →
    IsSeated s.budget after →
    bytes ≡ bytes_placed (placed s.program ((along s order).cores c).local (Took (found_in s ((along s order).words n)))) ((along s order).cores c).local.gathered →
    StandsAlong s (order ++ c ∷ []) (slice_set seats c after) (slice_set cells n cell) (output ++ bytes)
took_stands s order seats cells output c n op seat after cell bytes h below within seat_is running asks core_is cell_is log_is seated bytes_are =
    let t : State = along s order in
    let some : touched s (t.cores c) ≡ Some n = touches_word s (t.cores c) n op asks in
    let next : along s (order ++ c ∷ []) ≡ step_by s t c (Some n) = along_more s order c ∙ step_took s t c n some in
    let sat : Sits s.budget (t.cores c) (log_along s order c) seat = subst (λ (x : Seat). Sits s.budget (t.cores c) (log_along s order c) x) (sym seat_is) (h.seats_are c seat below) in
    let entry : entry_at s t c ≡ access_entry n (t.words n) = took_entry s t c n some in
    let sits : Sits s.budget (took s (t.cores c) (t.words n)) (log_along s order c ++ access_entry n (t.words n) ∷ []) after = record {
      core_is = core_is ∙ ap (λ core. took s core (t.words n)) sat.core_is;
      log_is = rw (log_is, sat.log_is) refl;
      seated = seated;
    } in
    let cell_left : cell ≡ cell_at (left s (t.cores c) (t.words n)) = cell_is ∙ ap (λ core. cell_at (left s core (t.words n))) sat.core_is in
    record {
      playable = playable_more s (opening s) order c h.playable (omega (arith, h.count)) running;
      setup = h.setup;
      count = length-set seats c after ∙ h.count;
      seats_are = λ d other inside. rw (next, log_more s order c d, entry) (sits_set s.budget t.cores (log_along s order) seats c (took s (t.cores c) (t.words n)) (access_entry n (t.words n)) after h.seats_are sits below d other inside);
      size = length-set cells n cell ∙ h.size;
      cells_are = λ m inside. rw next (cells_set t.words cells n (left s (t.cores c) (t.words n)) cell cell_left h.cells_are within m inside);
      output_is = rw next (rw (h.output_is, bytes_are) (sym (output_more s (t.cores c) t.words n op asks)));
    }
