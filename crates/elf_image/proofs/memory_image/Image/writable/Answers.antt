-- The entry of the page says whether it may be written.
use Rattle.elf_image.proofs.MemoryLemmas.{writable_entry, writable_no_entry}
use Rattle.elf_image.proofs.memory_image.Image.writable.Goals as goal

pub returns-in-None : goal.returns-in-None
returns-in-None c = writable_no_entry _ _ c.in-None.ensures

pub returns-in-Some : goal.returns-in-Some
returns-in-Some c = writable_entry _ _ _ c.in-Some.ensures
