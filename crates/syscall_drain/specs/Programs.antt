-- What a guest is to a contract: the memory map of its image, and its input (this project's own).
use Rattle.std.specs.Prelude.{ℕ, List}
use Rattle.elf_image.specs.Layout.{Layout}

pub record Program : Type 0 where
  pub layout : Layout
  pub input : List ℕ
