-- The entries of the pages so far are added, and the cursor stands at the next page.
use Rattle.elf_image.specs.Layout.{maps}
use Rattle.elf_image.specs.PageTable.{permissions_of}
use Rattle.elf_image.proofs.DirectoryLemmas.{IsFilled}
use Rattle.elf_image.proofs.page_directory.push_leaf.Given as goal

abbrev pub invariant-loop-page : goal.invariant-loop-page
invariant-loop-page l =
    IsFilled (maps l.segments l.regions.cores l.regions.stack l.regions.heap) (permissions_of l.segments l.regions.cores l.regions.stack l.regions.heap) l.initial.entries.items l.entries.items l.first l.page l.next l.place
