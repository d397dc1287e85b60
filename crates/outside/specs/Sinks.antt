-- What a write takes of a piece, and what is seen of a sink over a whole call.
use Rattle.std.specs.Prelude.{◌≡◌, ℕ, ◌<◌, ◌≤◌, List, length, take, ◌⊎◌, Option}
use Rattle.std.specs.Io.KnownBytes.{Appends}
use Rattle.outside.specs.Faults.{Rose}

-- this many bytes of the piece were taken: no more than it has, and some where it is not empty
pub record TakesSome (piece : List ℕ) (taken : ℕ) : Type 0 where
  pub within : taken ≤ length piece
  pub some : 0 < length piece → 1 ≤ taken

-- what a sink shows at one moment: what was written to it, where it tells that, and its count of faults
pub record SinkSeen : Type 0 where
  pub written : Option (List ℕ)
  pub faults : ℕ

-- nothing was written, and nothing failed
pub record Untouched (old new : SinkSeen) : Type 0 where
  pub same : new.written ≡ old.written
  pub count : new.faults ≡ old.faults

-- exactly this text was written, and nothing failed
pub record Wrote (text : List ℕ) (old new : SinkSeen) : Type 0 where
  pub whole : Appends old.written new.written text
  pub count : new.faults ≡ old.faults

-- the first bytes of this text were written, and then a write failed
pub record Cut (text : List ℕ) (old new : SinkSeen) : Type 0 where
  pub length : ℕ
  pub prefix : Appends old.written new.written (take length text)
  pub rose : Rose old.faults new.faults

-- the text was written whole, or a write of it failed
abbrev pub Told : List ℕ → SinkSeen → SinkSeen → Type 0
Told text old new = Wrote text old new ⊎ Cut text old new
