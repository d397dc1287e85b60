use Rattle.std.proofs.Common.{◌≡◌}
use Rattle.ticket_table.proofs.FreshPasses.{Dealt}
use Rattle.ticket_table.proofs.dealing.deal.Given as goal

abbrev pub invariant-loop-caller : goal.invariant-loop-caller
invariant-loop-caller l =
    record {
      table : l.seat.table_id ≡ l.fn.seat.table_id;
      dealt : Dealt l.fn.seat.table_id l.fn.seat.me.0.terms l.callers l.caller l.seat.me l.passes.items;
    }
