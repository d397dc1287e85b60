-- The segments that are kept are those of the file.
use Rattle.std.proofs.Common.{◌≡◌, List, false, arith, ◌∙◌, ap}
use Rattle.std.specs.List.{list_any}
use Rattle.elf_image.specs.Elf.{segments}
use Rattle.elf_image.specs.ImageFault.{passes_limit}
use Rattle.elf_image.specs.declared.segments.Segment.{Segment}
use Rattle.elf_image.specs.Layout.{Layout}
use Rattle.elf_image.proofs.MemoryLemmas.{segment_at_none, segment_at_some}
use Rattle.elf_image.proofs.SegmentLemmas.{end_le}
use Rattle.elf_image.proofs.memory_image.Image.segment.Goals as goal

pub returns-in_err-segment : goal.returns-in_err-segment
returns-in_err-segment c =
    let kept : c.deref.result.now ≡ segments c.args.self.now.bytes =
    c.deref.ensures.value ∙ c.self.invariant.1.loaded_is ∙ ap (λ (layout : Layout). segments layout.bytes) c.self.view_is in
    rw c.from_residual.ensures (segment_at_none c.args.self.now c.args.place c.deref.result.now kept c.in_err-segment.ensures)

pub returns : goal.returns
returns c =
    let kept : c.deref.result.now ≡ segments c.args.self.now.bytes =
    c.deref.ensures.value ∙ c.self.invariant.1.loaded_is ∙ ap (λ (layout : Layout). segments layout.bytes) c.self.view_is in
    segment_at_some c.args.self.now c.args.place c.deref.result.now c.in_ok-segment.segment kept c.in_ok-segment.ensures

pub overflow_cast-result : goal.overflow_cast-result
overflow_cast-result c =
    let kept : list_any passes_limit c.deref.result.now ≡ false =
    ap (λ (loaded : List Segment). list_any passes_limit loaded) c.deref.ensures.value ∙ c.self.invariant.1.ends in
    let low = end_le c.deref.result.now c.args.place c.in_ok-segment.segment kept c.in_ok-segment.ensures in
    omega arith
