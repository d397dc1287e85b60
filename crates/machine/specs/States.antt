-- The state of the machine: each core with its tags and its notes, and each word with its count of accesses, its payload, its tag and the output claimed on it.
-- Nothing is queued and nothing is late (this project's own).
use Rattle.std.specs.Prelude.{ℕ, List, []}
use Rattle.elf_image.specs.Layout.{first_word}
use Rattle.record_lane.specs.declared.note.CallNote.{CallNote}
use Rattle.tag_registers.specs.Tags.{Tags, no_tags}
use Rattle.syscall_drain.specs.Locals.{Local, opening_local}
use Rattle.syscall_drain.specs.Pieces.{Piece}
use Rattle.machine.specs.Setups.{Setup}

pub record Core : Type 0 where
  pub local : Local
  pub tags : Tags
  pub notes : List CallNote

-- the pieces of output stand with the word that they were claimed on, in the order of their claims
pub record Word : Type 0 where
  pub count : ℕ
  pub payload : ℕ
  pub tag : ℕ
  pub pieces : List Piece

pub record State : Type 0 where
  pub cores : ℕ → Core
  pub words : ℕ → Word

abbrev pub opening_core : Setup → ℕ → Core
opening_core s c = record { local = opening_local s.program c; tags = no_tags; notes = [] }

abbrev pub opening_word : Setup → ℕ → Word
opening_word s n = record { count = 0; payload = first_word s.program.layout n; tag = 0; pieces = [] }

abbrev pub opening : Setup → State
opening s = record { cores = opening_core s; words = opening_word s }
