-- The first words of the page are added.
use Rattle.std.proofs.Common.{◌+◌, ◌*◌}
use Rattle.elf_image.specs.Layout.{loaded_word}
use Rattle.elf_image.specs.PageTable.{IsExtended}
use Rattle.elf_image.proofs.contents.push_page.Given as goal

abbrev pub invariant-loop-index : goal.invariant-loop-index
invariant-loop-index l =
    IsExtended l.initial.words.items l.words.items (λ index. loaded_word l.bytes l.segments (4096 * l.page + 4 * index)) l.index
