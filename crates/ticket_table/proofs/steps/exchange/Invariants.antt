use Rattle.std.proofs.Common.{◌≡◌, ◌+◌, ◌-◌, ◌<◌}
use Rattle.ticket_table.specs.Words.{number_of}
use Rattle.ticket_table.specs.Views.{looked_at}
use Rattle.ticket_table.proofs.steps.exchange.Given as goal

abbrev pub invariant-tries : goal.invariant-tries
invariant-tries l =
    record {
      table : l.seat.table_id ≡ l.fn.seat.table_id;
      me : l.seat.me ≡ (looked_at l.seat.me.0.steps l.fn.seat.me.0 l.word l.seen, l.fn.seat.me.1);
      steps : l.fn.seat.me.0.steps < l.seat.me.0.steps;
      below : number_of l.seen < l.limit + l.fn.seat.me.0.terms.callers;
    }

abbrev pub decreases-tries : goal.decreases-tries
decreases-tries l = 4294967296 - number_of l.seen
