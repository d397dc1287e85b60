-- The stacks of one more core.
use Rattle.elf_image.proofs.NextLemmas.{next_stacks_more}
use Rattle.elf_image.proofs.page_table.next_stack_page.Goals as goal

pub loop-core-preserved : goal.loop-core-preserved
loop-core-preserved c =
    rw c.min-next.ensures (next_stacks_more _ _ _ _ _ c.loop-core.invariant c.next_page_of_stack.ensures)
