use Rattle.std.proofs.Common.{◌<◌, length, arith}
use Rattle.record_lane.proofs.RingSeats.{seat_loads_tail, seat_sees_item}
use Rattle.record_lane.proofs.ring_step.claim_item.Goals as goal

pub load-requires : goal.load-requires
load-requires g c =
    let table = c.requires.place.1 in
    let more : length c.args.seat.now.me.0.taken < length c.args.seat.now.me.0.seen = (let a = c.requires.head in let b = c.requires.tail in omega arith) in (
      c.requires.place.0,
      (let w = table.words in omega arith),
      seat_sees_item g.T.Item.sound _ _ _ _ table.slots _ _ c.requires.seat.0 c.requires.seat.1 c.requires.seat.2 more,
    )

pub load-found-requires : goal.load-found-requires
load-found-requires g c =
    let table = c.requires.place.1 in (
      c.requires.place.0,
      (let w = table.words in omega arith),
      seat_loads_tail g.T.Item.sound _ _ _ _ table.slots _ _ c.requires.seat.0 c.requires.seat.1 c.requires.seat.2,
    )
