use Rattle.std.proofs.Common.{ℕ, ◌<◌}
use Rattle.std.specs.Prelude.{IsSome, slice_index_or}
use Rattle.inline_tracker.specs.declared.seat.Seat.{Seat}
use Rattle.inline_tracker.specs.Seats.{local_in}
use Rattle.inline_tracker.proofs.tracker.all_ended.Given as goal

abbrev pub invariant-loop-seat : goal.invariant-loop-seat
invariant-loop-seat l = (c : ℕ) (other : Seat) → c < l.seat-index → IsSome (local_in (slice_index_or l.seats c other)).ending
