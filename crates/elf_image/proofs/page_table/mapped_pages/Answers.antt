-- The mapped pages below the next one are listed, and one more keeps it so.
use Rattle.std.proofs.Common.{◌∙◌, refl, arith}
use Rattle.elf_image.proofs.TableLemmas.{table_full, table_gap, table_more, table_none}
use Rattle.elf_image.proofs.page_table.mapped_pages.Goals as goal

pub loop-page-init : goal.loop-page-init
loop-page-init c = record {
  table = table_none _ _ _ c.new-mapped.ensures.items c.next_mapped-page.ensures;
  few = omega (arith, c.new-mapped.ensures.len);
  high = c.next_mapped-page.ensures.high;
  here = c.next_mapped-page.ensures.here;
}

pub returns-then-len-ge-MOST_PAGES-clause-refused : goal.returns-then-len-ge-MOST_PAGES-clause-refused
returns-then-len-ge-MOST_PAGES-clause-refused c =
    λ _. (
      refl,
      table_full _ _ _ _ c.loop-page.invariant.table (c.loop-page.invariant.here c.loop-page-test.true) c.loop-page-test.true (c.len.ensures ∙ c.loop-page.mapped.ok.0) c.if-len-ge-MOST_PAGES.true,
    )

pub loop-page-preserved : goal.loop-page-preserved
loop-page-preserved c = record {
  table = table_gap _ _ _ _
      (table_more _ _ _ _ c.loop-page.invariant.table (c.loop-page.invariant.here c.loop-page-test.true) c.in_ok-push.ensures.items)
      c.next_mapped-page-in-loop-page.ensures;
  few = omega (arith, c.in_ok-push.ensures.len, c.len.ensures);
  high = c.next_mapped-page-in-loop-page.ensures.high;
  here = c.next_mapped-page-in-loop-page.ensures.here;
}

pub returns-clause-few : goal.returns-clause-few
returns-clause-few c = c.loop-page.invariant.few
