-- Proof form: pieces of output put at their places, one after another.
use Rattle.std.specs.Prelude.{◌≡◌, ◌⊎◌, ℕ, ◌+◌, ◌≤◌, List, [], ◌∷◌, ◌++◌, length}
use Rattle.std.specs.List.{AllByRecursion}
use Rattle.bounded_list.specs.Bounded.{overwritten}
use Rattle.syscall_drain.specs.Pieces.{Piece}
use Rattle.hart_actor.specs.Harts.{cut, cut_length}
use Rattle.live_run.specs.declared.pair.Claims.{Claims}

-- the bytes after all pieces are put down
unfoldable pub laid : List ℕ → List Piece → List ℕ
laid bytes [] = bytes
laid bytes (piece ∷ pieces) = laid (overwritten bytes piece.place piece.bytes) pieces

-- a piece ends within so many bytes
abbrev pub LiesWithin : ℕ → Piece → Type 0
LiesWithin size piece = piece.place + length piece.bytes ≤ size

-- one of two pieces lies behind the other
abbrev pub LieApart : Piece → Piece → Type 0
LieApart piece other = (piece.place + length piece.bytes ≤ other.place) ⊎ (other.place + length other.bytes ≤ piece.place)

-- no two of them have a byte in common
abbrev pub AreApart : List Piece → Type 0
AreApart [] = Unit {0}
AreApart (piece ∷ pieces) = AllByRecursion (LieApart piece) pieces × AreApart pieces

-- the pieces of one core, and of all
abbrev pub pieces_in : Claims → List Piece
pieces_in claims = cut claims.pieces.items claims.output.items

abbrev pub pieces_of : List Claims → List Piece
pieces_of [] = []
pieces_of (claims ∷ rest) = pieces_in claims ++ pieces_of rest

-- a core has the bytes of its pieces and no others, and each of its pieces ends within so many bytes
pub record AreLayable (size : ℕ) (claims : Claims) : Type 0 where
  pub whole : cut_length claims.pieces.items ≡ length claims.output.items
  pub within : AllByRecursion (LiesWithin size) (pieces_in claims)
