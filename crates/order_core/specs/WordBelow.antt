-- That the word of a shape, if it is an access, is one of so many words.
use Rattle.std.specs.Prelude.{ℕ, ◌<◌}
use Rattle.order_core.specs.declared.shape.Shape.{Shape}
use Rattle.order_core.specs.declared.shape.Shape.TheVariants.{Quiet, Touch, Meet, End}

abbrev pub IsWordBelow : ℕ → Shape → Type 0
IsWordBelow words Quiet = Unit {0}
IsWordBelow words (Touch word) = word < words
IsWordBelow words Meet = Unit {0}
IsWordBelow words End = Unit {0}
