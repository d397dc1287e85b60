use Rattle.std.proofs.Common.{ℕ, ◌≤◌, List, Option, length}
use Rattle.std.specs.Io.KnownBytes.{Consumes}
use Rattle.outside.proofs.host.read_to_end.Given as goal

-- these are the bytes that the reader has given so far, and no more than `most`
pub record HasRead (old new : Option (List ℕ)) (most : ℕ) (bytes : List ℕ) : Type 0 where
  pub within : length bytes ≤ most
  pub consumed : Consumes old new bytes

abbrev pub invariant-loop : goal.invariant-loop
invariant-loop g l =
    HasRead (g.R.Read.remaining l.initial.reader) (g.R.Read.remaining l.reader) l.most l.bytes.items
