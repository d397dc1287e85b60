-- A leaf is added where the cursor stands in it, and the first leaf serves where it does not.
use Rattle.std.proofs.Common.{◌≡◌, length, None, refl, ◌∙◌, arith}
use Rattle.elf_image.proofs.DirectoryLemmas.{built_leaf, built_none, built_shared}
use Rattle.elf_image.proofs.page_directory.page_directory.Goals as goal
use Rattle.elf_image.proofs.page_directory.page_directory.Goals.{then-cursor-first+in_ok-push+in_ok-cursor, else-cursor-first+in_ok-push-2}

pub loop-leaf-init : goal.loop-leaf-init
loop-leaf-init c =
    let size : length c.resize.new.self.items ≡ 1024 = omega (arith, c.in_ok-resize.ensures.len, c.resize.new.self.ok.0) in
    built_none _ _ _ _ _ c.in_ok-leaves.ensures.items size
    (λ rest low. c.in_ok-resize.ensures.by_index.1 rest None refl (omega (arith, c.new-entries.ensures.len)) low)
    c.next_mapped.ensures

pub loop-leaf-preserved : goal.loop-leaf-preserved
loop-leaf-preserved c =
    elim c.if-cursor-first.branch [
      | then-cursor-first+in_ok-push+in_ok-cursor w ↦
          rw (w.leaves-is, w.entries-is, w.cursor-is)
          (built_leaf _ _ _ _ _ _ _ _ _ _ _ _ c.loop-leaf.invariant (w.len.ensures ∙ c.loop-leaf.entries.ok.0) w.in_ok-push.ensures.items w.in_ok-cursor.ensures.entries w.in_ok-cursor.ensures.cursor)
      | else-cursor-first+in_ok-push-2 w ↦
          rw (w.leaves-is, w.entries-is, w.cursor-is)
          (built_shared _ _ _ _ _ _ _ _ c.loop-leaf.invariant w.in_ok-push-2.ensures.items w.if-cursor-first.false)
    ]
