use Rattle.std.proofs.Common.{rules, arith}
use Rattle.live_run.proofs.Keeping.{each_still, each_at, same_set, over_more, each_below}
use Rattle.live_run.proofs.rounds.go_round.Goals as goal

pub pass_and_visit-visit-requires-after_bounds : goal.pass_and_visit-visit-requires-after_bounds
pass_and_visit-visit-requires-after_bounds g c κs within =
    each_at _ _ _ _ (each_still g.A.Lasting.same (g.A.Actor.fits c.args.place.now) _ _ (g.met.A.Actor.fits_still c.args.place.now) c.requires.fits c.loop-core.invariant.same) (omega arith)

pub loop-core-preserved : goal.loop-core-preserved
loop-core-preserved g c = record {
  same = same_set g.A.Lasting.same _ _ _ _ _ g.met.A.Lasting.same_more c.loop-core.invariant.same (omega arith) c.pass_and_visit-visit.ensures.same;
  over = over_more g.A.Lasting.has_ended _ _ _ c.loop-core.over c.eq-over.result c.loop-core.invariant.over (λ e. search rules);
}

pub returns-clause-ended : goal.returns-clause-ended
returns-clause-ended g c over = each_below g.A.Lasting.has_ended _ c.loop-core.core (omega arith) (c.loop-core.invariant.over over)
