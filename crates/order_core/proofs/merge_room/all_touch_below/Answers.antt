use Rattle.order_core.proofs.Merging.{all_touch_below_from_lists, all_touch_below_to_lists}
use Rattle.order_core.proofs.merge_room.all_touch_below.Goals as goal

pub returns : goal.returns
returns c = (
  λ t. all_touch_below_from_lists c.args.words c.args.logs.now (c.each_touches_below.ensures.0 t),
  λ h. c.each_touches_below.ensures.1 (all_touch_below_to_lists c.args.words c.args.logs.now h),
)
