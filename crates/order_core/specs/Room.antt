-- What a contract sees of the memory of a merge: how many words it has counts for, and the order that it holds.
use Rattle.std.specs.Prelude.{ℕ}
use Rattle.bounded_list.specs.Bounded.{Bounded}

pub record Room : Type 0 where
  pub words : ℕ
  pub order : Bounded ℕ
