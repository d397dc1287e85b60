use Rattle.std.proofs.Common.{◌≡◌, ◌%◌, sym, ◌∙◌, arith}
use Rattle.record_lane.proofs.RingSeats.{raises_after_take}
use Rattle.record_lane.proofs.ring_step.take_at.Goals as goal

pub fetch_add-requires : goal.fetch_add-requires
fetch_add-requires g c =
    let table = c.requires.place.1 in
    let bound : c.from.result ≡ c.args.slots.now.key.bound = c.from.ensures ∙ sym c.requires.place.1.bounded in (
      (let a = c.take_out-item.ensures.seat.0 in let b = c.in_ok-known.ensures.place in cc),
      (let w = table.words in omega arith),
      raises_after_take g.T.Item.sound _ _ _ _ _ _ c.in_ok-known.ensures.claimed.0 c.take_out-item.ensures.item c.take_out-item.ensures.seat.2 _ _ _ table.some_slot table.slots _
          (λ k. sym c.requires.head k % bound k) c.requires.seat.1,
    )
