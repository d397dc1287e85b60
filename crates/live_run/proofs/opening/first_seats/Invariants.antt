use Rattle.std.proofs.Common.{◌≡◌}
use Rattle.live_run.specs.Beginnings.{HaveBound, HavePasses, AreFirstSeats}
use Rattle.live_run.proofs.opening.first_seats.Given as goal

abbrev pub invariant-loop-core : goal.invariant-loop-core
invariant-loop-core l = record {
  passes : HavePasses l.setup l.core l.tables;
  memory : l.tables.memory ≡ l.fn.tables.memory;
  tags : l.tables.tags ≡ l.fn.tables.tags;
  seats : AreFirstSeats l.setup l.fn.tables.memory l.fn.tables.tags l.core l.seats;
  bound : HaveBound l.fn.bound l.seats.items.items;
}
