-- No segment so far has the byte.
use Rattle.std.proofs.Common.{◌≡◌, find, drop}
use Rattle.elf_image.specs.Layout.{fills}
use Rattle.elf_image.proofs.contents.segment_filling.Given as goal

abbrev pub invariant-loop-segment : goal.invariant-loop-segment
invariant-loop-segment l =
    find (fills l.address) (drop l.segment-index l.segments) ≡ find (fills l.address) l.segments
