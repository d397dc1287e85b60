-- The page's distance below the first top says which core it may belong to.
use Rattle.std.proofs.Common.{◌≤◌, ◌<◌, ◌-◌, ◌/◌, refl, sym, ◌∙◌, arith}
use Rattle.std.proofs.lemmas.Bool.{le-ltb}
use Rattle.elf_image.proofs.StackPages.{stack_page_above, stack_page_core, stack_page_other_core}
use Rattle.elf_image.proofs.page_table.is_stack_page.Goals as goal

pub returns-then-page-ge-FIRST_STACK_TOP : goal.returns-then-page-ge-FIRST_STACK_TOP
returns-then-page-ge-FIRST_STACK_TOP c =
    sym (stack_page_above c.args.cores c.args.stack c.args.page c.if-page-ge-FIRST_STACK_TOP.true)

pub returns-then-below-from : goal.returns-then-below-from
returns-then-below-from c =
    let core : (983039 - c.args.page) / 8192 < c.args.cores = omega arith in
    stack_page_core c.args.cores c.args.stack c.args.page (983039 - c.args.page) c.requires.cores c.requires.stack c.if-page-ge-FIRST_STACK_TOP.false refl core

pub returns-else-below-from : goal.returns-else-below-from
returns-else-below-from c =
    let core : c.args.cores ≤ (983039 - c.args.page) / 8192 = omega arith in
    le-ltb _ _ c.if-below-from.false
    ∙ sym (stack_page_other_core c.args.cores c.args.stack c.args.page (983039 - c.args.page) c.requires.cores c.requires.stack c.if-page-ge-FIRST_STACK_TOP.false refl core)
