use Rattle.inline_tracker.proofs.Beginning.{first_seats_more}
use Rattle.inline_tracker.proofs.opening.first_seats.Goals as goal

pub loop-core-preserved : goal.loop-core-preserved
loop-core-preserved c =
    rw c.in-Ok-push.ensures.items (first_seats_more c.args.setup.now c.loop-core.core c.loop-core.seats.items c.in_ok-seat.seat c.loop-core.invariant c.in_ok-seat.ensures)
