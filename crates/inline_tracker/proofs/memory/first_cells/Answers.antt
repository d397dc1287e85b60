-- The cells of an image's first words are its first cells.
use Rattle.std.proofs.Common.{◌≡◌, ap, ◌∙◌, map}
use Rattle.std.specs.List.{range_with_len}
use Rattle.elf_image.specs.Layout.{first_word, words_of}
use Rattle.inline_tracker.specs.Cells.{untouched, first_cell}
use Rattle.inline_tracker.proofs.Lists.{map_twice}
use Rattle.inline_tracker.proofs.memory.first_cells.Goals as goal

pub returns : goal.returns
returns c =
    let image = c.args.image.now in
    let are : map untouched c.as_slice.result.now ≡ map (first_cell image) (range_with_len 0 (words_of image)) =
    ap (map untouched) (c.as_slice.ensures.value ∙ c.in-Ok.ensures) ∙ map_twice untouched (first_word image) (range_with_len 0 (words_of image)) in
    rw are at c.cells_of.ensures
