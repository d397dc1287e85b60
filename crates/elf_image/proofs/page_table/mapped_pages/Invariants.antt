-- The mapped pages below the next one are listed.
use Rattle.std.proofs.Common.{◌≡◌, ◌-◌, ◌<◌, ◌≤◌, true, vec_len}
use Rattle.elf_image.specs.Layout.{maps}
use Rattle.elf_image.specs.PageTable.{IsListedBelow}
use Rattle.elf_image.proofs.page_table.mapped_pages.Given as goal

abbrev pub invariant-loop-page : goal.invariant-loop-page
invariant-loop-page l = record {
  table : IsListedBelow (maps l.segments l.regions.cores l.regions.stack l.regions.heap) l.mapped.items l.page;
  few : vec_len l.mapped ≤ 4096;
  high : l.page ≤ 1048576;
  here : l.page < 1048576 → maps l.segments l.regions.cores l.regions.stack l.regions.heap l.page ≡ true;
}

abbrev pub decreases-loop-page : goal.decreases-loop-page
decreases-loop-page l = 1048576 - l.page
