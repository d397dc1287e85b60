use Rattle.inline_tracker.specs.Standing.{AreFirstSeats}
use Rattle.inline_tracker.proofs.opening.first_seats.Given as goal

abbrev pub invariant-loop-core : goal.invariant-loop-core
invariant-loop-core l = AreFirstSeats l.setup l.core l.seats.items
