-- The leaves so far say what they should.
use Rattle.elf_image.specs.Layout.{maps}
use Rattle.elf_image.specs.PageTable.{permissions_of}
use Rattle.elf_image.proofs.DirectoryLemmas.{IsBuilt}
use Rattle.elf_image.proofs.page_directory.page_directory.Given as goal

abbrev pub invariant-loop-leaf : goal.invariant-loop-leaf
invariant-loop-leaf l =
    IsBuilt (maps l.segments l.regions.cores l.regions.stack l.regions.heap) (permissions_of l.segments l.regions.cores l.regions.stack l.regions.heap) l.leaves.items l.entries.items l.leaf l.cursor.next l.cursor.place
