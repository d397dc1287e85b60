-- A function with the value at one number replaced: how a state of many cores or words changes at one of them.
use Rattle.std.specs.Prelude.{ℕ, ◌==◌, if◌then◌else◌}

abbrev pub set_at : {A : Type 0} → (ℕ → A) → ℕ → A → ℕ → A
set_at f i a = λ j. if j == i then a else f j
