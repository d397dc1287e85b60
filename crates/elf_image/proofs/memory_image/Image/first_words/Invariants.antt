-- The words so far are the first of the image's first words.
use Rattle.std.proofs.Common.{◌≡◌, map}
use Rattle.std.specs.List.{range_with_len}
use Rattle.elf_image.specs.Layout.{first_word}
use Rattle.elf_image.proofs.memory_image.Image.first_words.Given as goal

abbrev pub invariant-loop-word : goal.invariant-loop-word
invariant-loop-word l = l.words.items ≡ map (first_word l.self) (range_with_len 0 l.word)
