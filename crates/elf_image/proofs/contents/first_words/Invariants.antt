-- The words of the pages so far are right.
use Rattle.elf_image.specs.Layout.{loaded_word}
use Rattle.elf_image.specs.PageTable.{IsContents}
use Rattle.elf_image.proofs.contents.first_words.Given as goal

abbrev pub invariant-loop-page : goal.invariant-loop-page
invariant-loop-page l = IsContents (loaded_word l.bytes l.segments) l.pages l.words.items l.page-index
