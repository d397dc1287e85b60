use Rattle.std.proofs.Common.{sym, ◌∙◌}
use Rattle.order_core.specs.Logs.{logs_of, log_of}
use Rattle.order_core.specs.Places.{left_at, reached_at}
use Rattle.order_core.proofs.Merging.{touches_below_item, is_ready_item, least_ready_more, least_ready_found, place_below}
use Rattle.order_core.proofs.merge_room.find_least_ready.Goals as goal

pub is_next_ready-requires : goal.is_next_ready-requires
is_next_ready-requires c =
    rw c.as_slice.ensures.items (touches_below_item _ _ _ _ c.requires.words c.loop-core-test.true c.index-logs-core.is)

pub returns-then-is_next_ready-clause-least : goal.returns-then-is_next_ready-clause-least
returns-then-is_next_ready-clause-least c =
    let at = is_ready_item c.args.logs.now c.args.places.now c.args.counts.now _ _ _ c.loop-core-test.true c.index-logs-core.is c.as_slice.ensures.items in
    sym (least_ready_found (left_at (logs_of c.args.logs.now) c.args.places.now) (reached_at c.args.counts.now) _ _ c.loop-core.invariant (at ∙ sym c.is_next_ready.ensures ∙ c.if-is_next_ready.true) c.loop-core-test.true)

pub returns-then-is_next_ready-clause-unfinished : goal.returns-then-is_next_ready-clause-unfinished
returns-then-is_next_ready-clause-unfinished c =
    let at = is_ready_item c.args.logs.now c.args.places.now c.args.counts.now _ _ _ c.loop-core-test.true c.index-logs-core.is c.as_slice.ensures.items in
    place_below (reached_at c.args.counts.now) _ (log_of (logs_of c.args.logs.now) c.loop-core.core) (at ∙ sym c.is_next_ready.ensures ∙ c.if-is_next_ready.true)

pub loop-core-preserved : goal.loop-core-preserved
loop-core-preserved c =
    let at = is_ready_item c.args.logs.now c.args.places.now c.args.counts.now _ _ _ c.loop-core-test.true c.index-logs-core.is c.as_slice.ensures.items in
    least_ready_more (left_at (logs_of c.args.logs.now) c.args.places.now) (reached_at c.args.counts.now) _ c.loop-core.invariant (at ∙ sym c.is_next_ready.ensures ∙ c.if-is_next_ready.false)
