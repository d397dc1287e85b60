-- What a sink over a writer of the host shows.
use Rattle.std.specs.Prelude.{ℕ}

-- its writer, and the count of faults
pub record HostedWriter (W : Type 0) : Type 0 where
  pub writer : W
  pub faults : ℕ
