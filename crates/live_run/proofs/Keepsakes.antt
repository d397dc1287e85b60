-- What the pairs of a run have is what their actors have kept, core by core.
use Rattle.std.proofs.Common.{◌≡◌, suc, List, [], ◌∷◌, map, length, refl, ap₂, arith}
use Rattle.hart_actor.specs.Harts.{Hart}
use Rattle.tag_actor.specs.Seen.{TagActorSeen}
use Rattle.live_run.specs.declared.pair.Pair.{Pair}
use Rattle.live_run.specs.Pairs.{left_in_pair}
use Rattle.live_run.specs.Ends.{lefts_by, AreKept}

pub lefts_are : (harts : List Hart) (followers : List TagActorSeen) (pairs : List Pair) → length followers ≡ length harts → length pairs ≡ length harts
    → AreKept harts followers pairs → map left_in_pair pairs ≡ lefts_by harts followers
unfolding lefts_by
lefts_are [] [] [] followed paired kept = refl
lefts_are [] (follower ∷ followers) pairs followed paired kept = absurd (omega (arith, followed))
lefts_are [] [] (pair ∷ pairs) followed paired kept = absurd (omega (arith, paired))
lefts_are (hart ∷ harts) [] pairs followed paired kept = absurd (omega (arith, followed))
lefts_are (hart ∷ harts) (follower ∷ followers) [] followed paired kept = absurd (omega (arith, paired))
lefts_are (hart ∷ harts) (follower ∷ followers) (pair ∷ pairs) followed paired kept =
    ap₂ (λ left lefts. left ∷ lefts) (kept 0 hart follower pair refl refl refl)
    (lefts_are harts followers pairs (omega (arith, followed)) (omega (arith, paired))
    (λ core other other_follower found at at_follower here. kept (suc core) other other_follower found at at_follower here))
