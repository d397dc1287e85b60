-- The words are those of all mapped pages, after the devices'.
use Rattle.std.proofs.Common.{◌∙◌, subst}
use Rattle.elf_image.specs.Layout.{Layout}
use Rattle.elf_image.specs.Memory.{IsMemoryOf}
use Rattle.elf_image.proofs.MemoryLemmas.{words_of_count}
use Rattle.elf_image.proofs.memory_image.Image.words.Goals as goal

pub returns : goal.returns
returns c =
    let memory =
    subst (λ (layout : Layout). IsMemoryOf layout c.self.inside.directory.leaves.items c.self.inside.directory.entries.items c.self.inside.words.items) c.self.view_is c.self.invariant.0 in
    words_of_count c.args.self.now c.self.inside.words.items c.len.result (c.len.ensures ∙ c.self.inside.words.ok.0) memory.words_size
