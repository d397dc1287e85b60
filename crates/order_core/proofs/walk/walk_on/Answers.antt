use Rattle.std.proofs.Common.{length, sym, ◌∙◌}
use Rattle.order_core.specs.Logs.{logs_of}
use Rattle.order_core.specs.CanonicalMerge.{least_ready}
use Rattle.order_core.specs.Places.{left_at, reached_at}
use Rattle.order_core.proofs.Sleeping.{least_awake, none_awake}
use Rattle.order_core.proofs.walk.walk_on.Goals as goal

pub returns-then-look_at-clause-least : goal.returns-then-look_at-clause-least
returns-then-look_at-clause-least c =
    let now = c.looks.invariant in
    let logs = logs_of c.args.logs.now in
    sym (least_awake (left_at logs c.looks.places.items) (reached_at c.looks.counts.items) c.looks.waiting.awake c.looks.waiting.sets.items now.waits (length c.args.logs.now) c.in-Some.core c.in-Some.ensures.2
    (sym c.look_at.ensures.ready ∙ c.if-look_at.true) (c.look_at.ensures.within c.if-look_at.true))
    ∙ (λ i. least_ready (left_at logs (now.places i).items) (reached_at (now.counts i).items) (length c.args.logs.now))

pub returns-clause-least : goal.returns-clause-least
returns-clause-least c =
    let now = c.looks.invariant in
    let logs = logs_of c.args.logs.now in
    sym (none_awake (left_at logs c.looks.places.items) (reached_at c.looks.counts.items) c.looks.waiting.awake c.looks.waiting.sets.items now.waits (length c.args.logs.now) c.in_default.ensures)
    ∙ (λ i. least_ready (left_at logs (now.places i).items) (reached_at (now.counts i).items) (length c.args.logs.now))
