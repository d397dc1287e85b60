use Rattle.std.proofs.Common.{rules, ◌≡◌}
use Rattle.hart_actor.specs.Objects.{IsSameHart}
use Rattle.hart_actor.proofs.Turning.{same_self as same_hart}
use Rattle.tag_actor.specs.Turns.{IsSameActor}
use Rattle.tag_actor.proofs.Leading.{same_self as same_follower}
use Rattle.live_run.proofs.Keeping.{same_lent, same_lists}
use Rattle.live_run.proofs.Seating.{seats_fit_harts, seats_fit_followers, seats_still}
use Rattle.live_run.proofs.tests.orders.turn_of.Goals as goal
use Rattle.live_run.proofs.tests.orders.turn_of.Goals.{in-Hart, in-Tag}

pub turn_at-requires : goal.turn_at-requires
turn_at-requires g c =
    let lent : c.deref_mut.result.now ≡ c.args.actors.harts.items = search rules in
    record { fits = rw lent (seats_fit_harts _ _ _ _ _ _ _ _ c.requires.seats c.requires.quantum) }

pub turn_at-requires-in-Tag : goal.turn_at-requires-in-Tag
turn_at-requires-in-Tag g c =
    let lent : c.deref_mut-in-Tag.result.now ≡ c.args.actors.followers.items = search rules in
    record { fits = rw lent (seats_fit_followers _ _ _ _ _ _ _ _ c.requires.seats c.requires.quantum) }

pub returns : goal.returns
returns g c = record {
  seats = elim c.match-who.branch [
    | in-Hart w ↦
        seats_still _ _ _ _ _ _ _ _ _ c.requires.seats
        (rw w.harts-is (same_lent IsSameHart _ w.turn_at.new.actors _ c.args.actors.harts.len (search rules) (search rules)))
        (rw w.followers-is (same_lists IsSameActor _ same_follower))
    | in-Tag w ↦
        seats_still _ _ _ _ _ _ _ _ _ c.requires.seats
        (rw w.harts-is (same_lists IsSameHart _ same_hart))
        (rw w.followers-is (same_lent IsSameActor _ w.turn_at-in-Tag.new.actors _ c.args.actors.followers.len (search rules) (search rules)))
  ];
}
