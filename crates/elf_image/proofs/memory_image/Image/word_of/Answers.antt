-- The entry of the page says which word it is.
use Rattle.elf_image.proofs.MemoryLemmas.{word_of_entry, word_of_no_entry}
use Rattle.elf_image.proofs.memory_image.Image.word_of.Goals as goal

pub returns-in_err-page : goal.returns-in_err-page
returns-in_err-page c = rw c.from_residual.ensures (word_of_no_entry _ _ c.in_err-page.ensures)

pub returns : goal.returns
returns c = rw c.index_of.ensures (word_of_entry _ _ _ c.in_ok-page.ensures)
