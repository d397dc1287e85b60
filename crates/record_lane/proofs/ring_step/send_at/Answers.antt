use Rattle.std.proofs.Common.{◌≡◌, ℕ, ◌%◌, sym, subst, ◌∙◌, arith}
use Rattle.record_lane.specs.RingRule.{IsRingSend}
use Rattle.record_lane.proofs.RingSeats.{raises_after_claim, sent_in_all}
use Rattle.record_lane.proofs.ring_step.send_at.Goals as goal

pub fetch_add-requires : goal.fetch_add-requires
fetch_add-requires g c =
    let table = c.requires.place.1 in
    let bound : c.from.result ≡ c.args.slots.now.key.bound = c.from.ensures ∙ sym c.requires.place.1.bounded in (
      (let a = c.put_in.ensures.0 in let b = c.in-Some.ensures.place in cc),
      (let w = table.words in omega arith),
      raises_after_claim c.args.slots.now.key.bound (c.args.tail % c.from.result) c.args.item c.args.seat.now.me c.claim_free.new.seat.me c.put_in.new.seat.me c.in-Some.ensures.claimed.0 c.put_in.ensures.2 g.T.Item.sound _ _ _ table.some_slot table.slots _ (λ k. sym c.requires.tail.0 k % bound k) c.requires.seat.1
          c.requires.item (let t = c.requires.tail in omega arith),
    )

pub returns-clause-seat : goal.returns-clause-seat
returns-clause-seat g c = (
  (let a = c.put_in.ensures.0 in let b = c.in-Some.ensures.place in let d = c.fetch_add.ensures.0 in cc),
  (sent_in_all c.args.slots.now.key.bound (c.args.tail % c.from.result) c.args.item c.args.seat.now.me c.claim_free.new.seat.me c.put_in.new.seat.me
      c.in-Some.ensures.claimed.0 c.put_in.ensures.2 c.args.slots.now.table_id.slots c.fetch_add.result _ c.fetch_add.ensures.2).1,
)

pub returns-clause-sent : goal.returns-clause-sent
returns-clause-sent g c =
    let all = sent_in_all c.args.slots.now.key.bound (c.args.tail % c.from.result) c.args.item c.args.seat.now.me c.claim_free.new.seat.me c.put_in.new.seat.me
    c.in-Some.ensures.claimed.0 c.put_in.ensures.2 c.args.slots.now.table_id.slots c.fetch_add.result _ c.fetch_add.ensures.2 in
    let claimed = c.in-Some.ensures.claimed in
    let gone = all.2 in
    (subst (λ (n : ℕ). IsRingSend n c.args.seat.now.me.0 c.args.item c.fetch_add.new.seat.me.0) c.requires.place.1.bounded all.0, claimed.1, omega arith)
