-- Where two texts differ first (this project's own).
use Rattle.std.specs.Prelude.{◌≡◌, ◌≢◌, ℕ, List, take, slice_get, Option, Some, None}

-- they are the same before this place and not at it; a text that ends there has nothing at it
pub record DifferFirstAt (place : ℕ) (text other : List ℕ) : Type 0 where
  pub same : take place text ≡ take place other
  pub differ : slice_get text place ≢ slice_get other place

-- no place exactly where they are the same text
abbrev pub IsFirstDifference : List ℕ → List ℕ → Option ℕ → Type 0
IsFirstDifference text other None = text ≡ other
IsFirstDifference text other (Some place) = DifferFirstAt place text other
