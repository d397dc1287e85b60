use Rattle.std.proofs.Common.{◌≡◌, ℕ, ◌<◌, true, slice_get, Some}
use Rattle.tag_actor.specs.Seen.{TagActorSeen}
use Rattle.live_run.proofs.parts.followers_have_ended.Given as goal

abbrev pub invariant-loop-follower : goal.invariant-loop-follower
invariant-loop-follower l = (core : ℕ) (follower : TagActorSeen) → core < l.follower-index → slice_get l.followers core ≡ Some follower → follower.ended ≡ true
