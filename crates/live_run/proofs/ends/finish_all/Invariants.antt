use Rattle.std.proofs.Common.{vec_len}
use Rattle.live_run.proofs.Ending.{IsGoing}
use Rattle.live_run.proofs.ends.finish_all.Given as goal

abbrev pub invariant-loop-harts : goal.invariant-loop-harts
invariant-loop-harts l =
    IsGoing l.fn.harts.items l.fn.followers.items l.fn.items.items l.fn.replies.items l.harts.items l.followers.items l.items.items l.replies.items l.ends

abbrev pub decreases-loop-harts : goal.decreases-loop-harts
decreases-loop-harts l = vec_len l.harts
