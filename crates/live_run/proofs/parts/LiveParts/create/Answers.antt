use Rattle.live_run.proofs.FirstSeats.{are_seats}
use Rattle.live_run.proofs.parts.LiveParts.create.Goals as goal

pub invariant_of-result : goal.invariant_of-result
invariant_of-result c =
    let same = c.in_ok-seats.ensures.tables in
    record {
      tables = rw (same.0, same.1) c.in_ok-tables.ensures.tables_are;
      seats = rw (same.0, same.1) (are_seats c.args.setup.now c.in_ok-tables.tables.memory c.in_ok-tables.tables.tags c.in_ok-seats.seats c.in_ok-seats.ensures.seats);
      some = c.requires.quantum;
      room = c.in_ok-room.ensures;
    }
