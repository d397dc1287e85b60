use Rattle.std.proofs.Common.{◌∙◌}
use Rattle.live_run.proofs.FirstSeats.{bound_more, seats_more}
use Rattle.live_run.proofs.opening.first_seats.Goals as goal

pub loop-core-preserved : goal.loop-core-preserved
loop-core-preserved c =
    let so_far = c.loop-core.invariant in
    let old = c.args.tables.now in
    record {
      passes = c.in_ok-seat.ensures.passes;
      memory = c.in_ok-seat.ensures.tables.0 ∙ so_far.memory;
      tags = c.in_ok-seat.ensures.tables.1 ∙ so_far.tags;
      seats = seats_more c.args.setup.now old.memory old.tags c.loop-core.core c.loop-core.seats c.push.new.self c.in_ok-seat.seat so_far.seats
          (rw (← so_far.memory, ← so_far.tags) c.in_ok-seat.ensures.seat) c.in_ok-seat.ensures.new
          c.in_ok-push.ensures.harts c.in_ok-push.ensures.followers c.in_ok-push.ensures.items c.in_ok-push.ensures.replies;
      bound = bound_more c.args.bound c.loop-core.seats.items.items c.push.new.self.items.items c.in_ok-seat.seat.items so_far.bound
          c.in_ok-seat.ensures.bound c.in_ok-push.ensures.items;
    }
