-- The outcome of a state: each core's end, units, first trap and notes, the guest's output, and the class of all these (this project's own).
use Rattle.std.specs.Prelude.{ℕ, ◌+◌, ◌-◌, Bool, true, false, ◌&&◌, nat_le, nat_lt, Option, Some, is_some, List, [], ◌∷◌, ◌++◌, map, length, slice_index, if◌then◌else◌}
use Rattle.std.specs.List.{list_any, range_with_len}
use Rattle.record_lane.specs.declared.reply.Trap.{Trap}
use Rattle.record_lane.specs.declared.note.CallNote.{CallNote}
use Rattle.syscall_drain.specs.declared.end.End.{End}
use Rattle.syscall_drain.specs.declared.end.End.TheVariants.{Exit, Fault, Budget, Spent}
use Rattle.machine.specs.Setups.{Setup, core_count}
use Rattle.elf_image.specs.declared.device.TheConstants.{OUTPUT_WORD}
use Rattle.syscall_drain.specs.Pieces.{Piece}
use Rattle.machine.specs.States.{Core, Word, State}

pub record Summary : Type 0 where
  pub ending : Option End
  pub units : ℕ
  pub trap : Option Trap
  pub notes : List CallNote

abbrev pub summary_of : Core → Summary
summary_of c = record { ending = c.local.ending; units = c.local.units; trap = c.tags.trap; notes = c.notes }

-- the cores' summaries in their order
abbrev pub summaries : Setup → State → List Summary
summaries s t = map (λ c. summary_of (t.cores c)) (range_with_len 0 (core_count s))

-- the bytes of pieces, end to end
abbrev pub bytes_in : List Piece → List ℕ
bytes_in [] = []
bytes_in (piece ∷ pieces) = piece.bytes ++ bytes_in pieces

-- the byte at a place of the output: the piece that has the place has it
abbrev pub has_place : Piece → ℕ → Bool
has_place piece place = nat_le piece.place place && nat_lt place (piece.place + length piece.bytes)

abbrev pub output_byte : List Piece → ℕ → ℕ
output_byte [] place = 0
output_byte (piece ∷ pieces) place =
    if has_place piece place then slice_index piece.bytes (place - piece.place) else output_byte pieces place

-- the output: as long as the word of the output device says
abbrev pub output_of : Word → List ℕ
output_of w = map (output_byte w.pieces) (range_with_len 0 w.payload)

unfoldable pub output : State → List ℕ
output t = output_of (t.words OUTPUT_WORD)

-- ---- the status class

abbrev pub is_fault : Option End → Bool
is_fault (Some (Fault fault)) = true
is_fault _ = false

abbrev pub is_spent : Option End → Bool
is_spent (Some Spent) = true
is_spent _ = false

abbrev pub is_budget : Option End → Bool
is_budget (Some Budget) = true
is_budget _ = false

abbrev pub is_failure : Option End → Bool
is_failure (Some (Exit code)) = nat_lt 0 code
is_failure _ = false

-- the first that applies: a trap, a fault, a spent core, a spent budget, an exit code above 0
abbrev pub class_of : List Summary → ℕ
class_of cores =
    if list_any (λ core. is_some core.trap) cores then 2 else
    if list_any (λ core. is_fault core.ending) cores then 3 else
    if list_any (λ core. is_spent core.ending) cores then 5 else
    if list_any (λ core. is_budget core.ending) cores then 4 else
    if list_any (λ core. is_failure core.ending) cores then 1 else
    0

unfoldable pub status_class : Setup → State → ℕ
status_class s t = class_of (summaries s t)
