use Rattle.std.proofs.Common.{◌≡◌, ◌++◌, take}
use Rattle.guest_images.specs.Files.{bytes_of}
use Rattle.guest_images.proofs.files.push_words.Given as goal

abbrev pub invariant-loop-word : goal.invariant-loop-word
invariant-loop-word l = l.bytes.items ≡ l.fn.bytes.items ++ bytes_of (take l.word-index l.words)
