-- Items of several cores in one order, each marked with its core: the marks alone, a core's part, and a word's numbers.
use Rattle.std.specs.Prelude.{ℕ, ◌==◌, if◌then◌else◌, List, [], ◌∷◌, ◌++◌, map, Option, Some, None}
use Rattle.order_core.specs.declared.entry.Access.{Access}
use Rattle.order_core.specs.declared.entry.Entry.{Entry}

-- the marks alone
abbrev pub marks_of : {A : Type 0} → List (ℕ × A) → List ℕ
marks_of marked = map (λ m. m.0) marked

-- the items of one core, in their order
abbrev pub part_of : {A : Type 0} → ℕ → List (ℕ × A) → List A
part_of core [] = []
part_of core (m ∷ marked) = if m.0 == core then m.1 ∷ part_of core marked else part_of core marked

-- the number of an access to this word, if there is an access
abbrev pub number_at : ℕ → Option Access → List ℕ
number_at word None = []
number_at word (Some access) = if access.word == word then access.number ∷ [] else []

-- the numbers of the items' accesses to a word, in their order
abbrev pub numbers_by : {A : Type 0} → (A → Option Access) → ℕ → List (ℕ × A) → List ℕ
numbers_by touch word [] = []
numbers_by touch word (m ∷ marked) = number_at word (touch m.1) ++ numbers_by touch word marked

-- an entry and the core that made it
abbrev pub Marked : Type 0
Marked = ℕ × Entry

abbrev pub numbers_of : ℕ → List Marked → List ℕ
numbers_of word marked = numbers_by (λ entry. entry.touch) word marked
