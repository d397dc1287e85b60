-- What a contract sees of a bounded list: its items in order, and how many items it has room for.
use Rattle.std.specs.Prelude.{ℕ, ◌+◌, ◌^◌, ◌<◌, ◌≤◌, List, ◌++◌, take, drop, length}

pub record Bounded (T : Type 0) : Type 0 where
  pub items : List T
  pub room : ℕ

-- the items are within the room, the room is within the memory that was taken, and its number has 32 bits
pub record IsWithinRoom (count room capacity : ℕ) : Type 0 where
  pub items_within : count ≤ room
  pub room_within : room ≤ capacity
  pub small : room < 2 ^ 32

-- the list in which these items stand from a place on
abbrev pub overwritten : {T : Type 0} → List T → ℕ → List T → List T
overwritten old place items = take place old ++ (items ++ drop (place + length items) old)
