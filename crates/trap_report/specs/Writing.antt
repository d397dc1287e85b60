-- Proof form: how far a text was handed to a sink.
use Rattle.std.specs.Prelude.{◌≡◌, ℕ, List, ◌++◌}
use Rattle.outside.specs.Sinks.{SinkSeen, Wrote}

-- a front of the text was written, nothing failed, and this is the rest of it
pub record WroteFront (text rest : List ℕ) (before now : SinkSeen) : Type 0 where
  pub front : List ℕ
  pub whole : text ≡ front ++ rest
  pub written : Wrote front before now
