use Rattle.record_lane.specs.Rings.{left_in as items_left}
use Rattle.record_lane.specs.Lanes.{left_in as replies_left}
use Rattle.live_run.proofs.Leaving.{pair_left, pair_kept}
use Rattle.live_run.proofs.pair.finish_pair.Goals as goal

pub returns-clause-kept : goal.returns-clause-kept
returns-clause-kept c = pair_kept c.args.hart c.args.follower c.finish-end.result c.finish-trap.result c.finish-end.ensures c.finish-trap.ensures

pub returns-clause-left : goal.returns-clause-left
returns-clause-left c s memory tags core seat =
    pair_left s memory tags core c.args.hart c.args.follower c.args.items c.args.replies c.finish-end.result c.finish-trap.result (items_left c.close.result) (replies_left c.close-2.result)
    seat c.finish-end.ensures c.finish-trap.ensures c.close.ensures.whole c.close-2.ensures.whole
