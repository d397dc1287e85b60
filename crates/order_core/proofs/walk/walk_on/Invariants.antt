use Rattle.std.proofs.Common.{◌≡◌, vec_len}
use Rattle.order_core.specs.Logs.{logs_of}
use Rattle.order_core.specs.Places.{left_at, reached_at}
use Rattle.order_core.specs.Walking.{OthersWait}
use Rattle.order_core.proofs.walk.walk_on.Given as goal

-- nothing was given yet, and the cores that were looked at wait
abbrev pub invariant-looks : goal.invariant-looks
invariant-looks l = record {
  places : l.places ≡ l.fn.places;
  counts : l.counts ≡ l.fn.counts;
  sets : vec_len l.waiting.sets ≡ 1024;
  waits : OthersWait (left_at (logs_of l.logs) l.places.items) (reached_at l.counts.items) l.waiting.awake l.waiting.sets.items;
}

abbrev pub decreases-looks : goal.decreases-looks
decreases-looks l = l.waiting.awake.mask
