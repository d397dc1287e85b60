use Rattle.std.proofs.Common.{rules}
use Rattle.live_run.proofs.Keeping.{each_still, same_lists_more}
use Rattle.live_run.proofs.rounds.drive.Goals as goal

pub go_round-harts_over-requires-clause-fits : goal.go_round-harts_over-requires-clause-fits
go_round-harts_over-requires-clause-fits g c κs within =
    each_still g.A.Lasting.same (g.A.Actor.fits c.args.place.now) _ _ (g.met.A.Actor.fits_still c.args.place.now) c.requires.harts.0 c.rounds.invariant.harts

pub go_round-followers_over-requires-clause-fits : goal.go_round-followers_over-requires-clause-fits
go_round-followers_over-requires-clause-fits g c κs within =
    each_still g.B.Lasting.same (g.B.Actor.fits c.args.place.now) _ _ (g.met.B.Actor.fits_still c.args.place.now) c.requires.followers.0 c.rounds.invariant.followers

pub returns-then-followers_over-clause-same_harts : goal.returns-then-followers_over-clause-same_harts
returns-then-followers_over-clause-same_harts g c =
    same_lists_more g.A.Lasting.same _ _ _ g.met.A.Lasting.same_more c.rounds.invariant.harts c.go_round-harts_over.ensures.same

pub returns-then-followers_over-clause-same_followers : goal.returns-then-followers_over-clause-same_followers
returns-then-followers_over-clause-same_followers g c =
    same_lists_more g.B.Lasting.same _ _ _ g.met.B.Lasting.same_more c.rounds.invariant.followers c.go_round-followers_over.ensures.same

pub rounds-preserved : goal.rounds-preserved
rounds-preserved g c = record {
  next = search rules;
  finite = search rules;
  harts = same_lists_more g.A.Lasting.same _ _ _ g.met.A.Lasting.same_more c.rounds.invariant.harts c.go_round-harts_over.ensures.same;
  followers = same_lists_more g.B.Lasting.same _ _ _ g.met.B.Lasting.same_more c.rounds.invariant.followers c.go_round-followers_over.ensures.same;
}
