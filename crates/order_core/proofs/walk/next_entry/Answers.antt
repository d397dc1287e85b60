use Rattle.std.proofs.Common.{◌<◌, length, All, None, arith}
use Rattle.order_core.specs.Logs.{TouchesBelow}
use Rattle.order_core.proofs.Merging.{touches_below_item}
use Rattle.order_core.proofs.walk.next_entry.Goals as goal

pub returns-then-place-log-clause-below : goal.returns-then-place-log-clause-below
returns-then-place-log-clause-below c = λ words all.
    let found = c.in_ok-get.ensures.lookup in
    let within : c.args.core < length c.args.logs.now = found.3.0 in
    let here : All (TouchesBelow words) c.as_slice-log.result.now = rw c.as_slice-log.ensures.items (touches_below_item words c.args.logs.now c.args.core c.in_ok-get.field-0.now all within found.1) in
    here _ (record { touch = None }) (omega arith)
