-- The recursion goes down the list.
use Rattle.std.proofs.Common.{length}
use Rattle.elf_image.proofs.segments.+overlap.Given as goal

abbrev pub decreases-overlap : goal.decreases-overlap
decreases-overlap l = length l.segments.now
