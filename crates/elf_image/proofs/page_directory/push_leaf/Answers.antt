-- Each page has the entry of a mapped page where the cursor stands, and none elsewhere.
use Rattle.std.proofs.Common.{◌≡◌, ◌-◌, ◌≤◌, ◌++◌, ◌∙◌, ap, map, arith}
use Rattle.std.specs.List.{range_with_len}
use Rattle.elf_image.specs.Layout.{maps}
use Rattle.elf_image.specs.PageTable.{permissions_of}
use Rattle.elf_image.specs.Directory.{page_entry}
use Rattle.elf_image.proofs.DirectoryLemmas.{cursor_below, filled_mapped, filled_other}
use Rattle.elf_image.proofs.page_directory.push_leaf.Goals as goal
use Rattle.elf_image.proofs.page_directory.push_leaf.Goals.{then-page-next+in_ok-push, else-page-next+in_ok-push-2}

pub overflow_add-place : goal.overflow_add-place
overflow_add-place c =
    let below = cursor_below _ _ _ _ c.loop-page.invariant.cursor (omega (arith, c.if-page-next.true)) c.requires.few in
    omega arith

pub loop-page-preserved : goal.loop-page-preserved
loop-page-preserved c =
    let low : c.args.first ≤ c.loop-page.page = omega arith in
    elim c.if-page-next.branch [
      | then-page-next+in_ok-push w ↦
          rw (w.entries-is, w.next-is, w.place-is)
          (filled_mapped _ _ _ _ _ _ _ _ _ _ _ c.loop-page.invariant low (omega arith) w.if-page-next.true w.permissions_on-permissions.ensures w.in_ok-push.ensures.items w.next_mapped-next.ensures)
      | else-page-next+in_ok-push-2 w ↦
          rw (w.entries-is, w.next-is, w.place-is)
          (filled_other _ _ _ _ _ _ _ _ _ c.loop-page.invariant low w.if-page-next.false w.in_ok-push-2.ensures.items)
    ]

pub returns-clause-entries : goal.returns-clause-entries
returns-clause-entries c =
    let size : c.loop-page.page - c.args.first ≡ 1024 = omega arith in
    c.loop-page.invariant.added
    ∙ ap (λ n. c.args.entries.now.items ++ map (page_entry (maps c.args.segments.now c.args.regions.cores c.args.regions.stack c.args.regions.heap) (permissions_of c.args.segments.now c.args.regions.cores c.args.regions.stack c.args.regions.heap)) (range_with_len c.args.first n)) size
