-- A run that stands has room for one more unit, and stands after it.
use Rattle.std.proofs.Common.{◌≡◌, ℕ, ◌*◌, ◌<◌, ◌≤◌, Option, Some, None, List, [], ◌∷◌, ◌++◌, length, refl, sym, ap, ◌∙◌, subst, arith}
use Rattle.std.specs.Prelude.{slice_index_or, slice_set, OnSome, IfSome}
use Rattle.std.proofs.lemmas.List.{get_or_default}
use Rattle.elf_image.specs.Layout.{words_of}
use Rattle.rv_execute.specs.declared.op.Op.{Op}
use Rattle.tag_policy.specs.Memory.{tags_below}
use Rattle.syscall_drain.specs.declared.ask.CoreAsk.{CoreAsk}
use Rattle.syscall_drain.specs.declared.ask.CoreAsk.TheVariants.{Touch as Touches}
use Rattle.syscall_drain.specs.declared.ask.Answer.TheVariants.{Taken as Took}
use Rattle.syscall_drain.specs.declared.ask.NextUnit.{NextUnit}
use Rattle.syscall_drain.specs.Locals.{Local}
use Rattle.syscall_drain.specs.Units.{placed}
use Rattle.syscall_drain.specs.Pieces.{bytes_placed}
use Rattle.syscall_drain.specs.Seen.{IsNextUnit, TouchesBelow}
use Rattle.syscall_drain.specs.Sound.{IsSound}
use Rattle.machine.specs.Setups.{Setup}
use Rattle.machine.specs.States.{Core, Word}
use Rattle.machine.specs.Steps.{found_in, took, left}
use Rattle.machine.specs.Runs.{along}
use Rattle.machine.proofs.Along.{IsAt, few_units, room_left}
use Rattle.inline_tracker.specs.declared.memory.Cell.{Cell}
use Rattle.inline_tracker.specs.declared.seat.Seat.{Seat}
use Rattle.inline_tracker.specs.declared.run.Run.{Run}
use Rattle.inline_tracker.specs.Cells.{no_cell, cell_at}
use Rattle.inline_tracker.specs.Seats.{local_in, core_in, notes_held, IsSeated}
use Rattle.inline_tracker.specs.Standing.{StandsAlong, Stands, core_along, IsTurnOf}
use Rattle.inline_tracker.proofs.Seating.{asks_of, opens, some_room}
use Rattle.inline_tracker.proofs.Standing.{at_stand, took_stands}

abbrev pub at_run : (s : Setup) (run : Run) → Stands s run → IsAt s (along s run.order.items) (length run.order.items)
at_run s run h = at_stand s run.order.items run.seats.items run.cells.items run.output.items h.along_order

-- while a core goes on, the order has room
pub room_in : (s : Setup) (run : Run) (c : ℕ) (unit : NextUnit) → Stands s run → IsTurnOf s run c unit → length run.order.items < run.order.room
room_in s run c unit h turn =
    let stand = h.along_order in
    rw h.order_room (room_left s stand.setup run.order.items stand.playable c (omega (arith, stand.count, turn.core)) turn.running)

-- what holds of the seat of a core whose turn it is
pub record IsAtSeat (s : Setup) (run : Run) (c : ℕ) (unit : NextUnit) (seat : Seat) : Type 0 where
  pub core : core_in seat ≡ core_along s run c
  pub local : local_in seat ≡ (core_along s run c).local
  pub seated : IsSeated s.budget seat
  pub room : (local_in seat).units < s.budget
  pub next : IsNextUnit s.program (local_in seat) unit
  pub sound : IsSound (local_in seat)
  pub notes : IfSome seat.notes (λ kept. length kept.items < kept.room)

pub at_seat : (s : Setup) (run : Run) (c : ℕ) (unit : NextUnit) (seat : Seat) → Stands s run → IsTurnOf s run c unit → seat ≡ slice_index_or run.seats.items c seat → IsAtSeat s run c unit seat
at_seat s run c unit seat h turn is =
    let sits = (h.along_order).seats_are c seat turn.core in
    let core : core_in seat ≡ core_along s run c = rw is sits.core_is in
    let seated : IsSeated s.budget seat = rw is sits.seated in
    let local : local_in seat ≡ (core_along s run c).local = ap (λ (x : Core). x.local) core in
    let noted : notes_held seat.notes seat.outcome ≡ (core_along s run c).notes = ap (λ (x : Core). x.notes) core in
    let at = at_run s run h in
    let within = at.reached.cores c in
    let running : (local_in seat).ending ≡ None = ap (λ (l : Local). l.ending) local ∙ turn.running in
    let units : (local_in seat).units ≡ (core_along s run c).local.units = ap (λ (l : Local). l.units) local in
    let below : (core_along s run c).local.units < s.budget = within.below turn.running in
    let few : length (notes_held seat.notes seat.outcome) ≤ (core_along s run c).local.units = rw noted within.notes in
    record {
      core = core;
      local = local;
      seated = seated;
      room = omega arith;
      next = subst (λ (l : Local). IsNextUnit s.program l unit) (sym local) turn.next;
      sound = subst (λ (l : Local). IsSound l) (sym local) within.sound;
      notes = some_room s.budget (core_along s run c).local.units seat.notes seat.outcome (opens _ _ _ _ _ _ running seated.holds) few below;
    }

-- what holds of the cell of a word
pub record IsAtCell (s : Setup) (run : Run) (n : ℕ) (cell : Cell) : Type 0 where
  pub is : cell_at ((along s run.order.items).words n) ≡ cell
  pub few : cell.count ≤ 8388608
  pub range : cell.tag < tags_below s.policy.version

pub at_cell : (s : Setup) (run : Run) (n : ℕ) (cell : Cell) → Stands s run → n < length run.cells.items → cell ≡ slice_index_or run.cells.items n cell → IsAtCell s run n cell
at_cell s run n cell h within is =
    let stand = h.along_order in
    let at = at_run s run h in
    let same : cell ≡ cell_at ((along s run.order.items).words n) = is ∙ get_or_default run.cells.items n cell no_cell within ∙ stand.cells_are n within in
    let few = few_units s stand.setup (along s run.order.items) (length run.order.items) at.reached in
    record {
      is = sym same;
      few = rw same (omega (arith, few, at.reached.accesses n));
      range = rw same (at.reached.tags n);
    }

-- a word that the next unit touches has a cell
pub word_within : (s : Setup) (run : Run) (c : ℕ) (unit : NextUnit) (n : ℕ) (op : Op) → Stands s run → IsTurnOf s run c unit → unit.ask ≡ Touches n op → n < length run.cells.items
word_within s run c unit n op h turn asked =
    let P : CoreAsk → Type 0 = λ ask. TouchesBelow (words_of s.program.layout) ask in
    let below : n < words_of s.program.layout = subst_ask P asked turn.next.below in
    omega (arith, (h.along_order).size)
  where
    subst_ask : (P : CoreAsk → Type 0) → unit.ask ≡ Touches n op → P unit.ask → P (Touches n op)
    subst_ask P e p = rw (sym e) p

-- what has been put out is no more than four bytes a unit
pub output_few : (s : Setup) (order : List ℕ) (seats : List Seat) (cells : List Cell) (output : List ℕ) → StandsAlong s order seats cells output → length output ≤ 4 * length order
output_few s order seats cells output h =
    let at = at_stand s order seats cells output h in
    rw h.output_is (omega (arith, at.written.room))

placed_same : (place : Option ℕ) (new old : List ℕ) → OnSome place (new ≡ old) → bytes_placed place new ≡ bytes_placed place old
placed_same None new old same = refl
placed_same (Some p) new old same = same

pub access_stands : (s : Setup) (run : Run) (c n : ℕ) (op : Op) (unit : NextUnit) (seat after : Seat) (cell left_cell : Cell) (place : Option ℕ) →
    Stands s run → IsTurnOf s run c unit → unit.ask ≡ Touches n op → seat ≡ slice_index_or run.seats.items c seat → cell ≡ slice_index_or run.cells.items n cell →
    ((w : Word) → cell_at w ≡ cell → core_in after ≡ took s (core_in seat) w) →
    ((w : Word) → cell_at w ≡ cell → left_cell ≡ cell_at (left s (core_in seat) w)) →
    after.log.items ≡ seat.log.items ++ record { touch = Some (record { word = n; number = cell.count; found = cell.payload }) } ∷ [] →
    IsSeated s.budget after →
    ((w : Word) → cell_at w ≡ cell → place ≡ placed s.program (local_in seat) (Took (found_in s w))) →
    OnSome place ((local_in after).gathered ≡ (local_in seat).gathered) →
    StandsAlong s (run.order.items ++ c ∷ []) (slice_set run.seats.items c after) (slice_set run.cells.items n left_cell) (run.output.items ++ bytes_placed place (local_in after).gathered)
access_stands s run c n op unit seat after cell left_cell place h turn asked seat_is cell_is core_rule cell_rule log_is seated place_rule kept =
    let word : Word = (along s run.order.items).words n in
    let within = word_within s run c unit n op h turn asked in
    let at = at_seat s run c unit seat h turn seat_is in
    let cell_at_word = at_cell s run n cell h within cell_is in
    let asks = asks_of s.program (core_along s run c).local unit (Touches n op) turn.next.is asked in
    let place_is : place ≡ placed s.program (core_along s run c).local (Took (found_in s word)) = place_rule word cell_at_word.is ∙ ap (λ l. placed s.program l (Took (found_in s word))) at.local in
    let bytes : bytes_placed place (local_in after).gathered ≡ bytes_placed (placed s.program (core_along s run c).local (Took (found_in s word))) (core_along s run c).local.gathered =
    placed_same place (local_in after).gathered (local_in seat).gathered kept ∙ rw place_is (ap (λ (l : Local). bytes_placed (placed s.program (core_along s run c).local (Took (found_in s word))) l.gathered) at.local) in
    took_stands s run.order.items run.seats.items run.cells.items run.output.items c n op seat after left_cell (bytes_placed place (local_in after).gathered) h.along_order turn.core within seat_is turn.running asks
    (core_rule word cell_at_word.is)
    (cell_rule word cell_at_word.is)
    (log_is ∙ rw (← cell_at_word.is) refl)
    seated bytes
