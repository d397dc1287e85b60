-- No segment passes the limit, so the heap begins at most one page above it.
use Rattle.std.proofs.Common.{arith, ◌≡◌, ◌≤◌}
use Rattle.elf_image.specs.Layout.{highest_end}
use Rattle.elf_image.proofs.SegmentLemmas.{highest_end_le}
use Rattle.elf_image.proofs.validation.end_of_heap.Goals as goal

pub overflow_mul-result : goal.overflow_mul-result
overflow_mul-result c =
    let low : highest_end c.args.segments.now ≤ 0xB0000000 = highest_end_le c.args.segments.now c.requires in
    let bytes : c.from.result ≡ 4096 = c.from.ensures in
    rw bytes (omega arith)

pub overflow_add-result : goal.overflow_add-result
overflow_add-result c =
    let low : highest_end c.args.segments.now ≤ 0xB0000000 = highest_end_le c.args.segments.now c.requires in
    omega arith
