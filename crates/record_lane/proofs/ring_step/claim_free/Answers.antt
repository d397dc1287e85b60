use Rattle.std.proofs.Common.{◌+◌, ◌<◌, length, arith}
use Rattle.record_lane.proofs.RingSeats.{seat_loads_head, seat_sees_room}
use Rattle.record_lane.proofs.ring_step.claim_free.Goals as goal

pub load-requires : goal.load-requires
load-requires g c =
    let table = c.requires.place.1 in
    let known = c.requires.head in
    let less : length c.args.seat.now.me.0.sent < c.args.seat.now.me.0.gone + c.args.slots.now.key.bound =
    (let a = c.requires.tail.0 in let b = c.requires.place.1.bounded in omega arith) in (
      c.requires.place.0,
      (let w = table.words in omega arith),
      seat_sees_room g.T.Item.sound _ _ _ _ table.slots _ _ c.requires.seat.0 c.requires.seat.1 c.requires.seat.2 less,
    )

pub load-found-requires : goal.load-found-requires
load-found-requires g c =
    let table = c.requires.place.1 in (
      c.requires.place.0,
      (let w = table.words in omega arith),
      seat_loads_head g.T.Item.sound _ _ _ _ table.slots _ _ c.requires.seat.0 c.requires.seat.1 c.requires.seat.2,
    )
