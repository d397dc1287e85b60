use Rattle.std.proofs.Common.{◌≡◌, ◌≤◌, [], drop, length}
use Rattle.std.proofs.Math.ListN.{drop_of_length-le}
use Rattle.live_run.proofs.Laying.{next_piece, laying_more, laying_over, next_at}
use Rattle.live_run.proofs.output.lay.Goals as goal

pub split_at-requires : goal.split_at-requires
split_at-requires c =
    let laying = next_at _ _ _ c.as_slice-place-items.result.now _ _ _ c.as_slice-place-items.ensures.items c.loop-place-test.true c.loop-place.invariant in
    (next_piece _ _ _ _ _ _ laying).enough

pub overwrite-requires : goal.overwrite-requires
overwrite-requires c =
    let laying = next_at _ _ _ c.as_slice-place-items.result.now _ _ _ c.as_slice-place-items.ensures.items c.loop-place-test.true c.loop-place.invariant in
    rw c.split_at.ensures.front (next_piece _ _ _ _ _ _ laying).fits

pub loop-place-preserved : goal.loop-place-preserved
loop-place-preserved c =
    let laying = next_at _ _ _ c.as_slice-place-items.result.now _ _ _ c.as_slice-place-items.ensures.items c.loop-place-test.true c.loop-place.invariant in
    rw (c.overwrite.ensures, c.split_at.ensures.front, c.split_at.ensures.back) (laying_more _ _ _ _ _ _ laying)

pub returns : goal.returns
returns c =
    let past : length c.args.claims.now.pieces.items ≤ c.loop-place.place-index = rw c.as_slice-place-items.ensures.items at c.loop-place-test.false in
    let over : drop c.loop-place.place-index c.args.claims.now.pieces.items ≡ [] = drop_of_length-le c.args.claims.now.pieces.items past in
    laying_over _ _ _ _ (rw over at c.loop-place.invariant)
