use Rattle.std.proofs.Common.{◌≡◌, [], drop}
use Rattle.std.proofs.Math.ListN.{drop_of_length-le}
use Rattle.live_run.proofs.LayingOut.{claims_fit, claims_more, claims_over, claims_at}
use Rattle.live_run.proofs.output.lay_out.Goals as goal

pub lay-requires : goal.lay-requires
lay-requires c = claims_fit _ _ _ _ _ _ (claims_at _ _ _ _ _ _ c.claims-item.is c.loop-claims-test.true c.loop-claims.invariant)

pub loop-claims-preserved : goal.loop-claims-preserved
loop-claims-preserved c = rw c.lay.ensures (claims_more _ _ _ _ _ _ (claims_at _ _ _ _ _ _ c.claims-item.is c.loop-claims-test.true c.loop-claims.invariant))

pub returns : goal.returns
returns c =
    let over : drop c.loop-claims.claims-index c.args.claims.now ≡ [] = drop_of_length-le c.args.claims.now c.loop-claims-test.false in
    claims_over _ _ _ _ (rw over at c.loop-claims.invariant)
