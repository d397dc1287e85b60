-- The recursion goes down the list.
use Rattle.std.proofs.Common.{length}
use Rattle.elf_image.proofs.page_table.+next_touched.Given as goal

abbrev pub decreases-next_touched : goal.decreases-next_touched
decreases-next_touched l = length l.segments.now
