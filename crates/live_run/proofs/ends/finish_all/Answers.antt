use Rattle.std.proofs.Common.{length, ◌<◌, arith}
use Rattle.live_run.proofs.Ending.{going_first, going_more, next_ones}
use Rattle.live_run.proofs.ends.finish_all.Goals as goal

pub loop-harts-init : goal.loop-harts-init
loop-harts-init c = going_first _ _ _ _ _ c.requires.room

pub finish_pair-pair-requires : goal.finish_pair-pair-requires
finish_pair-pair-requires c =
    let some : 0 < length c.loop-harts.harts.items = omega arith in
    let next = next_ones _ _ _ _ c.requires.linked _ _ _ _ _ _ _ _ _ _ _ _ _ c.loop-harts.invariant some
    (c.remove.ensures.value, c.remove.ensures.items) (c.remove-in-loop-harts.ensures.value, c.remove-in-loop-harts.ensures.items)
    (c.remove-in-loop-harts-2.ensures.value, c.remove-in-loop-harts-2.ensures.items) (c.remove-in-loop-harts-3.ensures.value, c.remove-in-loop-harts-3.ensures.items) in
    record {
      hart_ended = c.requires.ended.harts _ _ (next.hart).here;
      follower_ended = c.requires.ended.followers _ _ (next.follower).here;
      linked = c.requires.linked.links _ _ _ _ _ (next.hart).here (next.follower).here (next.item).here (next.reply).here;
    }

pub loop-harts-preserved : goal.loop-harts-preserved
loop-harts-preserved c =
    let some : 0 < length c.loop-harts.harts.items = omega arith in
    let next = next_ones _ _ _ _ c.requires.linked _ _ _ _ _ _ _ _ _ _ _ _ _ c.loop-harts.invariant some
    (c.remove.ensures.value, c.remove.ensures.items) (c.remove-in-loop-harts.ensures.value, c.remove-in-loop-harts.ensures.items)
    (c.remove-in-loop-harts-2.ensures.value, c.remove-in-loop-harts-2.ensures.items) (c.remove-in-loop-harts-3.ensures.value, c.remove-in-loop-harts-3.ensures.items) in
    going_more _ _ _ _ _ _ _ _ _ _ _ _ _ _ _ _ _ _ _ c.loop-harts.invariant next c.finish_pair-pair.ensures.kept c.finish_pair-pair.ensures.left c.keep.ensures
