-- The entry of the page says whether its words may be fetched, and which word it is.
use Rattle.std.proofs.Common.{◌/◌, get_or, Some, sym, ◌∙◌, ap, subst, arith}
use Rattle.std.proofs.lemmas.Bool.{not-true, not-false}
use Rattle.elf_image.specs.Layout.{Layout}
use Rattle.elf_image.specs.Memory.{IsMemoryOf}
use Rattle.elf_image.proofs.MemoryLemmas.{at_entry, fetched_odd, fetched_no_entry, fetched_not_executable, fetched_executable, index_lt, item_at}
use Rattle.elf_image.proofs.memory_image.Image.fetch.Goals as goal

pub returns-then-pc-ne0 : goal.returns-then-pc-ne0
returns-then-pc-ne0 c = fetched_odd c.args.self.now c.args.pc c.if-pc-ne0.true

pub returns-in_err-page : goal.returns-in_err-page
returns-in_err-page c =
    rw c.from_residual.ensures (fetched_no_entry c.args.self.now c.args.pc c.if-pc-ne0.false c.in_err-page.ensures)

pub returns-then-not-page : goal.returns-then-not-page
returns-then-not-page c =
    let says = at_entry c.args.self.now (c.args.pc / 4096) c.in_ok-page.page c.in_ok-page.ensures in
    fetched_not_executable c.args.self.now c.args.pc c.if-pc-ne0.false (sym says.executable ∙ not-true _ c.if-not-page.true)

pub index-requires : goal.index-requires
index-requires c =
    let memory =
    subst (λ (layout : Layout). IsMemoryOf layout c.self.inside.directory.leaves.items c.self.inside.directory.entries.items c.self.inside.words.items) c.self.view_is c.self.invariant.0 in
    rw (c.self.inside.words.ok.0, c.index_of.ensures)
    (index_lt c.args.self.now c.self.inside.directory.leaves.items c.self.inside.directory.entries.items c.self.inside.words.items c.args.pc c.in_ok-page.page memory (omega arith) c.in_ok-page.ensures)

pub returns : goal.returns
returns c =
    let memory =
    subst (λ (layout : Layout). IsMemoryOf layout c.self.inside.directory.leaves.items c.self.inside.directory.entries.items c.self.inside.words.items) c.self.view_is c.self.invariant.0 in
    let says = at_entry c.args.self.now (c.args.pc / 4096) c.in_ok-page.page c.in_ok-page.ensures in
    ap Some
    (c.index.ensures
    ∙ ap (λ n. get_or c.self.inside.words.items n c.index.result.now) c.index_of.ensures
    ∙ item_at c.args.self.now c.self.inside.directory.leaves.items c.self.inside.directory.entries.items c.self.inside.words.items c.args.pc c.index.result.now c.in_ok-page.page memory (omega arith) c.if-pc-ne0.false c.in_ok-page.ensures)
    ∙ fetched_executable c.args.self.now c.args.pc c.if-pc-ne0.false (sym says.executable ∙ not-false _ c.if-not-page.false)
