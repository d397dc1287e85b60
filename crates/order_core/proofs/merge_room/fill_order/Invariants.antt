use Rattle.std.proofs.Common.{◌≡◌, ℕ, ◌≤◌, length, slice_index, vec_len}
use Rattle.order_core.specs.Logs.{logs_of}
use Rattle.order_core.specs.Places.{left_at, reached_at}
use Rattle.order_core.specs.Giving.{IsGiving}
use Rattle.order_core.proofs.merge_room.fill_order.Given as goal

abbrev pub invariant-entries : goal.invariant-entries
invariant-entries l = record {
  giving : IsGiving (logs_of l.logs) (left_at (logs_of l.logs) l.places.items) (reached_at l.counts.items) l.order.items;
  given : length l.order.items ≡ l.counter;
  room : l.order.room ≡ l.fn.order.room;
  low : (word : ℕ) → slice_index l.counts.items word ≤ l.counter;
  places : vec_len l.places ≡ 32;
  words : vec_len l.counts ≡ vec_len l.fn.counts;
}
