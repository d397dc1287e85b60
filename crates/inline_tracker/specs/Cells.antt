-- Proof form: the words of the tracker's memory, and what an access finds and leaves there.
use Rattle.std.specs.Prelude.{ℕ, ◌+◌, List, slice_index_or, nat_le, if◌then◌else◌}
use Rattle.elf_image.specs.Layout.{Layout, first_word}
use Rattle.rv_execute.specs.declared.op.Op.{Op}
use Rattle.rv_execute.specs.declared.op.Taken.{Taken}
use Rattle.rv_execute.specs.Payloads.{changed}
use Rattle.machine.specs.States.{Word}
use Rattle.inline_tracker.specs.declared.memory.Cell.{Cell}

-- a word before its first access, and that of an image
abbrev pub untouched : ℕ → Cell
untouched payload = record { payload = payload; count = 0; tag = 0 }

abbrev pub first_cell : Layout → ℕ → Cell
first_cell layout word = untouched (first_word layout word)

abbrev pub no_cell : Cell
no_cell = untouched 0

abbrev pub cell_of : List Cell → ℕ → Cell
cell_of cells word = slice_index_or cells word no_cell

-- what a cell holds of a word
abbrev pub cell_at : Word → Cell
cell_at w = record { payload = w.payload; count = w.count; tag = w.tag }

abbrev pub cell_found : ℕ → Cell → Taken
cell_found limit cell = record { number = cell.count; old = cell.payload; spent = nat_le limit cell.count }

-- after an access, before its tag follows
abbrev pub cell_after : ℕ → Op → Cell → Cell
cell_after limit op cell = record cell {
  payload = if nat_le limit cell.count then cell.payload else changed op cell.count cell.payload;
  count = cell.count + 1;
}
