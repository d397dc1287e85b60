-- What contracts see of a ring, of its sender and its taker, and of what is left at its end (this project's own).
-- The names are those of a lane.
use Rattle.std.specs.Prelude.{◌≡◌, ℕ, ◌+◌, true, false, List, [], length, drop}
use Rattle.record_lane.specs.declared.ring.Ring.{Ring}
use Rattle.record_lane.specs.declared.ring_token.RingSender.{RingSender}
use Rattle.record_lane.specs.declared.ring_token.RingTaker.{RingTaker}
use Rattle.record_lane.specs.declared.ring_left.RingLeft.{RingLeft}
use Rattle.record_lane.specs.RingRule.{ring_end}

module _ {T : Type 0} where
  -- how many items a ring holds at most, and the two numbers that its items are sound for
  abbrev pub bound_of : Ring T → ℕ
  bound_of ring = ring.bound

  abbrev pub word_count_of : Ring T → ℕ
  word_count_of ring = ring.table.shared.key.words

  abbrev pub top_of : Ring T → ℕ
  top_of ring = ring.table.shared.key.top

  -- all items that were sent, in order
  abbrev pub sent_by : RingSender T → List T
  sent_by sender = sender.seat.me.0.sent

  -- how many items had been taken when the sender last looked
  abbrev pub gone_by : RingSender T → ℕ
  gone_by sender = sender.seat.me.0.gone

  -- all items that were taken, in order
  abbrev pub taken_by : RingTaker T → List T
  taken_by taker = taker.seat.me.0.taken

  -- all items that had been sent when the taker last looked
  abbrev pub seen_by : RingTaker T → List T
  seen_by taker = taker.seat.me.0.seen

  -- how often the sender, or the taker, has looked at the ring
  abbrev pub sender_looks : RingSender T → ℕ
  sender_looks sender = sender.seat.me.0.looks

  abbrev pub taker_looks : RingTaker T → ℕ
  taker_looks taker = taker.seat.me.0.looks

  -- what is left, oldest first
  abbrev pub left_in : RingLeft T → List T
  left_in left = drop (length left.seat.me.0.taken) left.seat.me.0.sent

  -- the sender, or the taker, is this ring's
  abbrev pub IsSenderOf : Ring T → RingSender T → Type 0
  IsSenderOf ring sender =
      (sender.seat.table_id ≡ ring.table.shared.table_id)
      × (sender.seat.me.0 ≡ ring_end true false (sent_by sender) [] [] (gone_by sender) sender.seat.me.0.looks (word_count_of ring) (top_of ring))

  abbrev pub IsTakerOf : Ring T → RingTaker T → Type 0
  IsTakerOf ring taker =
      (taker.seat.table_id ≡ ring.table.shared.table_id)
      × (taker.seat.me.0 ≡ ring_end false true [] (taken_by taker) (seen_by taker) 0 taker.seat.me.0.looks (word_count_of ring) (top_of ring))

  -- the sender looked once since, and of what it had sent all but as many as the bound had been taken: the ring held those
  abbrev pub WasFull : Ring T → RingSender T → RingSender T → Type 0
  WasFull ring old new = (sender_looks new ≡ sender_looks old + 1) × (length (sent_by new) ≡ gone_by new + bound_of ring)

  -- the taker looked once since, and what it had taken was all that had been sent: the ring held none
  abbrev pub WasEmpty : Ring T → RingTaker T → RingTaker T → Type 0
  WasEmpty ring old new = (taker_looks new ≡ taker_looks old + 1) × (seen_by new ≡ taken_by new)
