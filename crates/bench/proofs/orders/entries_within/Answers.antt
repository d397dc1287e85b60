use Rattle.std.proofs.Common.{List, length, arith, ap, leb-true}
use Rattle.std.proofs.lemmas.List.{at_drop_more, at_drop_all}
use Rattle.order_core.specs.Bounded.{Bounded}
use Rattle.order_core.specs.declared.entry.Entry.{Entry}
use Rattle.order_core.specs.Logs.{logs_of, entry_count}
use Rattle.bench.proofs.orders.entries_within.Goals as goal

pub loop-log-preserved : goal.loop-log-preserved
loop-log-preserved c =
    let more = at_drop_more (λ (xs : List (Bounded Entry)). entry_count (logs_of xs)) c.args.logs.now c.loop-log.log-index c.log-item.result (omega arith) in
    let same = ap (λ (x : Bounded Entry). length x.items) c.log-item.is in
    record {
      rest = omega (arith, c.loop-log.invariant.rest, more, same, c.len.ensures.count);
      small = omega (arith, c.loop-log.invariant.small, c.len.ensures.small);
    }

pub returns : goal.returns
returns c =
    let end = at_drop_all (λ (xs : List (Bounded Entry)). entry_count (logs_of xs)) c.args.logs.now c.loop-log.log-index (omega arith) in
    λ t. omega (arith, c.loop-log.invariant.rest, end, leb-true c.loop-log.total c.from.result t, c.from.ensures)
