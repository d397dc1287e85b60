-- The output of a guest in pieces, each with its place (this project's own).
use Rattle.std.specs.Prelude.{◌≡◌, ℕ, ◌+◌, ◌≤◌, Option, Some, None, OnSome, List, [], ◌∷◌, length}
use Rattle.elf_image.specs.declared.device.TheConstants.{OUTPUT_WORD}
use Rattle.rv_execute.specs.declared.op.Op.TheVariants.{Place}
use Rattle.syscall_drain.specs.Programs.{Program}
use Rattle.syscall_drain.specs.Locals.{Local}
use Rattle.syscall_drain.specs.Units.{next_ask}
use Rattle.syscall_drain.specs.Sound.{due}
use Rattle.syscall_drain.specs.declared.ask.CoreAsk.TheVariants.{Touch as Touches}

pub record Piece : Type 0 where
  pub place : ℕ
  pub bytes : List ℕ

-- the piece of a unit that claimed a place for these bytes
abbrev pub piece_at : Option ℕ → List ℕ → List Piece
piece_at None bytes = []
piece_at (Some place) bytes = record { place = place; bytes = bytes } ∷ []

-- and the bytes themselves
abbrev pub bytes_placed : Option ℕ → List ℕ → List ℕ
bytes_placed None bytes = []
bytes_placed (Some place) bytes = bytes

-- a unit gathers at most four bytes more than it places; one that places bytes has asked for a place for all that are gathered, and leaves none due
pub record PlacesBytes (program : Program) (old new : Local) (place : Option ℕ) : Type 0 where
  pub few : due new + length (bytes_placed place old.gathered) ≤ due old + 4
  pub asked : OnSome place (next_ask program old ≡ Touches OUTPUT_WORD (Place (length old.gathered)))
  pub whole : OnSome place (due old ≡ length old.gathered)
  pub claimed : OnSome place (due new ≡ 0)
  pub kept : OnSome place (new.gathered ≡ old.gathered)
