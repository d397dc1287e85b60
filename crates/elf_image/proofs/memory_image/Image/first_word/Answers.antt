-- The words of memory are kept, the break's is the break base, and the other devices' are 0.
use Rattle.std.proofs.Common.{◌≤◌, length, sym, ◌∙◌, ap, subst, refl, ◌-◌, arith}
use Rattle.elf_image.specs.Layout.{Layout, break_base, first_word}
use Rattle.elf_image.specs.Memory.{IsMemoryOf}
use Rattle.elf_image.proofs.MemoryLemmas.{first_word_guest, first_word_break, first_word_device, guest_index}
use Rattle.elf_image.proofs.memory_image.Image.first_word.Goals as goal

pub index-requires : goal.index-requires
index-requires c =
    let memory =
    subst (λ (layout : Layout). IsMemoryOf layout c.self.inside.directory.leaves.items c.self.inside.directory.entries.items c.self.inside.words.items) c.self.view_is c.self.invariant.0 in
    let guest : 3 ≤ c.args.word = omega arith in
    guest_index c.args.self.now c.self.inside.words.items c.args.word c.self.inside.words.len guest c.requires c.self.inside.words.ok.0 memory.words_size

pub returns-then-word-lt-BREAK_WORD : goal.returns-then-word-lt-BREAK_WORD
returns-then-word-lt-BREAK_WORD c = first_word_device c.args.self.now c.args.word c.if-word-lt-BREAK_WORD.true

pub returns-then-word-eq-BREAK_WORD : goal.returns-then-word-eq-BREAK_WORD
returns-then-word-eq-BREAK_WORD c =
    c.self.invariant.1.base_is
    ∙ ap break_base c.self.view_is
    ∙ sym (first_word_break c.args.self.now)
    ∙ ap (first_word c.args.self.now) (sym c.if-word-eq-BREAK_WORD.true)

pub returns-else-word-eq-BREAK_WORD : goal.returns-else-word-eq-BREAK_WORD
returns-else-word-eq-BREAK_WORD c =
    let memory =
    subst (λ (layout : Layout). IsMemoryOf layout c.self.inside.directory.leaves.items c.self.inside.directory.entries.items c.self.inside.words.items) c.self.view_is c.self.invariant.0 in
    let guest : 3 ≤ c.args.word = omega arith in
    let inside =
    guest_index c.args.self.now c.self.inside.words.items c.args.word (length c.self.inside.words.items) guest c.requires refl memory.words_size in
    c.index.ensures
    ∙ memory.items (c.args.word - 3) c.index.result.now inside
    ∙ sym (first_word_guest c.args.self.now c.args.word guest)
