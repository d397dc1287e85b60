use Rattle.std.proofs.Common.{rules, arith, ◌≡◌}
use Rattle.hart_actor.specs.Objects.{IsSameHart}
use Rattle.tag_actor.specs.Turns.{IsSameActor}
use Rattle.live_run.proofs.Keeping.{same_lent}
use Rattle.live_run.proofs.Seating.{seats_fit_harts, seats_fit_followers, seats_still}
use Rattle.live_run.proofs.actors.drive_all.Goals as goal

pub drive-requires-clause-harts : goal.drive-requires-clause-harts
drive-requires-clause-harts g c κs within =
    let lent : c.deref_mut.result.now ≡ c.args.actors.harts.items = search rules in
    (rw lent (seats_fit_harts _ _ _ _ _ _ _ _ c.requires.seats c.requires.quantum), rw lent (omega (arith, c.requires.seats.hart_count, c.guest-guest.ensures.ranges.image.most_cores)))

pub drive-requires-clause-followers : goal.drive-requires-clause-followers
drive-requires-clause-followers g c κs within =
    let lent : c.deref_mut-2.result.now ≡ c.args.actors.followers.items = search rules in
    (rw lent (seats_fit_followers _ _ _ _ _ _ _ _ c.requires.seats c.requires.quantum), rw lent (omega (arith, c.requires.seats.follower_count, c.guest-guest.ensures.ranges.image.most_cores)))

pub returns-clause-seats : goal.returns-clause-seats
returns-clause-seats g c =
    seats_still _ _ _ _ _ _ _ _ _ c.requires.seats
    (same_lent IsSameHart _ c.drive.new.harts _ c.args.actors.harts.len (search rules) (search rules))
    (same_lent IsSameActor _ c.drive.new.followers _ c.args.actors.followers.len (search rules) (search rules))
