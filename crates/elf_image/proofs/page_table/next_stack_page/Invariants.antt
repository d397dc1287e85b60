-- The first page of the stacks so far.
use Rattle.elf_image.specs.Layout.{is_stack_page}
use Rattle.elf_image.specs.PageTable.{IsNextOf}
use Rattle.elf_image.proofs.page_table.next_stack_page.Given as goal

abbrev pub invariant-loop-core : goal.invariant-loop-core
invariant-loop-core l = IsNextOf (is_stack_page l.core l.stack) l.from l.next
