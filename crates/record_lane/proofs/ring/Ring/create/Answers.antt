use Rattle.std.proofs.Common.{rules, arith, ap}
use Rattle.record_lane.proofs.RingShares.{opens, splits}
use Rattle.record_lane.proofs.ring.Ring.create.Goals as goal

pub vacant-requires : goal.vacant-requires
vacant-requires g c = opens g.T.Item.sound _ _ _ (search rules)

pub split_seat-taker-requires : goal.split_seat-taker-requires
split_seat-taker-requires g c =
    let made = c.in-Ok.ensures in
    (made.2, (let w = made.0 in omega arith), splits g.T.Item.sound _ _ _ _ _ (ap (λ m. m.0.sends) made.4) (ap (λ m. m.0.takes) made.4))
