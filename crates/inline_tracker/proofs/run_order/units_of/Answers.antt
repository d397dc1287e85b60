use Rattle.std.proofs.Common.{List, length, arith, ap}
use Rattle.std.proofs.lemmas.List.{at_drop_more, at_drop_all}
use Rattle.order_core.specs.Bounded.{Bounded}
use Rattle.order_core.specs.declared.entry.Entry.{Entry}
use Rattle.order_core.specs.Logs.{logs_of, entry_count}
use Rattle.inline_tracker.proofs.run_order.units_of.Goals as goal

pub loop-log-preserved : goal.loop-log-preserved
loop-log-preserved c =
    let more = at_drop_more (λ (xs : List (Bounded Entry)). entry_count (logs_of xs)) c.args.logs.now c.loop-log.log-index c.log-item.result (omega arith) in
    let same = ap (λ (x : Bounded Entry). length x.items) c.log-item.is in
    omega (arith, c.loop-log.invariant, more, same, c.len.ensures.count)

pub returns : goal.returns
returns c =
    let end = at_drop_all (λ (xs : List (Bounded Entry)). entry_count (logs_of xs)) c.args.logs.now c.loop-log.log-index (omega arith) in
    omega (arith, c.loop-log.invariant, end)
