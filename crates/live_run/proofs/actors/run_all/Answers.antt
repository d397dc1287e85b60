use Rattle.std.proofs.Common.{rules, arith}
use Rattle.live_run.proofs.Seating.{seats_fit_harts, seats_fit_followers, seats_still}
use Rattle.live_run.proofs.actors.run_all.Goals as goal

pub run_in_threads-harts-requires-clause-harts : goal.run_in_threads-harts-requires-clause-harts
run_in_threads-harts-requires-clause-harts g c κs within =
    (seats_fit_harts _ _ _ _ _ _ _ _ c.requires.seats c.requires.quantum, omega (arith, c.requires.seats.hart_count, c.guest-guest.ensures.ranges.image.most_cores), search rules)

pub run_in_threads-harts-requires-clause-followers : goal.run_in_threads-harts-requires-clause-followers
run_in_threads-harts-requires-clause-followers g c κs within =
    (seats_fit_followers _ _ _ _ _ _ _ _ c.requires.seats c.requires.quantum, omega (arith, c.requires.seats.hart_count, c.requires.seats.follower_count), search rules)

pub drive_all-requires-clause-seats : goal.drive_all-requires-clause-seats
drive_all-requires-clause-seats g c κs within =
    seats_still _ _ _ _ _ _ _ _ _ c.requires.seats c.run_in_threads-harts.ensures.harts c.run_in_threads-harts.ensures.followers
