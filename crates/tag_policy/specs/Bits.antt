-- Proof form: a number below 16 by its four bits (this project's own).
use Rattle.std.specs.Prelude.{◌≡◌, ℕ, ◌<◌, Bool}
use Rattle.rv_decode.specs.Four.{bit_of}

pub record IsBits (n : ℕ) (f : ℕ → Bool) : Type 0 where
  pub small : n < 16
  pub same : (i : ℕ) → i < 4 → bit_of n i ≡ f i
