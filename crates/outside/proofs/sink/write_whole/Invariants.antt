use Rattle.std.proofs.Common.{◌≡◌, ℕ, ◌-◌, ◌≤◌, List, Option, length, take}
use Rattle.std.specs.Io.KnownBytes.{Appends}
use Rattle.outside.proofs.sink.write_whole.Given as goal

-- the first `at` bytes of the text were written, and nothing failed
pub record WroteFirst (old new : Option (List ℕ)) (before now : ℕ) (text : List ℕ) (at : ℕ) : Type 0 where
  pub within : at ≤ length text
  pub written : Appends old new (take at text)
  pub count : now ≡ before

abbrev pub invariant-loop-at : goal.invariant-loop-at
invariant-loop-at g l =
    WroteFirst (g.S.Sink.written l.initial.sink) (g.S.Sink.written l.sink) (g.S.Sink.faults l.initial.sink) (g.S.Sink.faults l.sink) l.text l.at

abbrev pub decreases-loop-at : goal.decreases-loop-at
decreases-loop-at g l = length l.text - l.at
