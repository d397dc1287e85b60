-- The image of a program, and the program that writes `hi`, by the names that the report's computation has for them.
use Rattle.std.proofs.Common.{ℕ, List}
use Rattle.guest_images.specs.Files.{small_image}
use Rattle.guest_images.specs.declared.programs.TheConstants.{HI}

abbrev pub image_of : List ℕ → List ℕ
image_of = small_image

abbrev pub hi_words : List ℕ
hi_words = HI
