-- What contracts see of a lane, of its sender and its taker, and of what is left at its end (this project's own).
use Rattle.std.specs.Prelude.{◌≡◌, ℕ, ◌≤◌, true, false, List, [], ◌++◌, length, drop}
use Rattle.crossbeam_queue.specs.Fifo.{Held}
use Rattle.crossbeam_queue.specs.Passes.{view, IsPassOf}
use Rattle.record_lane.specs.declared.lane.Lane.{Lane}
use Rattle.record_lane.specs.declared.lane_token.Sender.{Sender}
use Rattle.record_lane.specs.declared.lane_token.Taker.{Taker}
use Rattle.record_lane.specs.declared.lane_left.Left.{Left}
use Rattle.record_lane.specs.Histories.{IsPrefix}
use Rattle.record_lane.specs.LaneRule.{side}

module _ {T : Type 0} where
  -- how many items a lane holds at most, and the two numbers that its items are sound for
  abbrev pub bound_of : Lane T → ℕ
  bound_of lane = lane.bound

  abbrev pub word_count_of : Lane T → ℕ
  word_count_of lane = lane.words

  abbrev pub top_of : Lane T → ℕ
  top_of lane = lane.top

  -- all items that were sent, in order
  abbrev pub sent_by : Sender T → List T
  sent_by sender = (view sender.pass).sent

  -- how many items had been taken at the sender's last send
  abbrev pub gone_by : Sender T → ℕ
  gone_by sender = (view sender.pass).gone

  -- all items that were taken, in order
  abbrev pub taken_by : Taker T → List T
  taken_by taker = (view taker.pass).taken

  -- all items that had been sent at the taker's last take
  abbrev pub seen_by : Taker T → List T
  seen_by taker = (view taker.pass).seen

  -- what is left, oldest first
  abbrev pub left_in : Left T → List T
  left_in left = drop (length (view left.pass).taken) (view left.pass).sent

  -- the sender, or the taker, is this lane's
  abbrev pub IsSenderOf : Lane T → Sender T → Type 0
  IsSenderOf lane sender =
      IsPassOf lane.queue sender.pass × (view sender.pass ≡ side true false (sent_by sender) [] [] (gone_by sender) lane.words lane.top lane.bound)

  abbrev pub IsTakerOf : Lane T → Taker T → Type 0
  IsTakerOf lane taker =
      IsPassOf lane.queue taker.pass × (view taker.pass ≡ side false true [] (taken_by taker) (seen_by taker) 0 lane.words lane.top lane.bound)

  -- at one moment the lane held as many items as its bound: these were the last of those sent,
  -- and no fewer had been taken before them than at the sender's last send
  abbrev pub WasFull : Lane T → Sender T → Sender T → Type 0
  WasFull lane old new =
      Held (bound_of lane) (λ items. (taken : List T) × (sent_by old ≡ taken ++ items) × (gone_by old ≤ length taken))

  -- at one moment the lane held no item: what was taken was all that had been sent, and no less than at the taker's last take
  abbrev pub WasEmpty : Lane T → Taker T → Taker T → Type 0
  WasEmpty lane old new =
      Held 0 (λ items. (sent : List T) × (sent ≡ taken_by old ++ items) × IsPrefix (seen_by old) sent)
