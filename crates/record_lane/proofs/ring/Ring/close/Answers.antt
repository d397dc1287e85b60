use Rattle.std.proofs.Common.{ap, ◌∙◌, arith}
use Rattle.record_lane.proofs.RingShares.{joins}
use Rattle.record_lane.proofs.RingSeats.{seat_sees_all}
use Rattle.record_lane.proofs.ring.Ring.close.Goals as goal

pub join_seat-requires : goal.join_seat-requires
join_seat-requires g c =
    let table = c.args.self.sized in (
      c.requires.sender.0,
      c.requires.taker.0,
      c.args.taker.at_home,
      (let w = table.words in omega arith),
      joins g.T.Item.sound _ _ _ _ _ _ _ (ap (λ v. v.sends) c.requires.sender.1) (ap (λ v. v.takes) c.requires.taker.1),
    )

pub load-requires : goal.load-requires
load-requires g c =
    let table = c.args.self.sized in
    let whole = c.join_seat.ensures.2 in (
      c.join_seat.ensures.0 ∙ c.requires.sender.0,
      (let w = table.words in omega arith),
      seat_sees_all g.T.Item.sound _ _ _ _ table.slots _ _ (ap (λ m. m.1) whole ∙ c.args.sender.at_home)
          (ap (λ m. m.0.sends) whole ∙ ap (λ v. v.sends) c.requires.sender.1) (ap (λ m. m.0.takes) whole),
    )
