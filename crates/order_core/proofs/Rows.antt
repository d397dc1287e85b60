-- The definitions computed at small logs.
use Rattle.std.proofs.Common.{◌≡◌, ℕ, [], ◌∷◌, Some, None, refl}
use Rattle.order_core.specs.declared.entry.Entry.{Entry}
use Rattle.order_core.specs.CanonicalMerge.{canonical, canonical_from}

quiet : Entry
quiet = record { touch = None }

touch : ℕ → ℕ → Entry
touch word number = record { touch = Some (record { word = word; number = number; found = 0 }) }

-- core 0 has a unit without access and then access 1 to word 5; core 1 has access 0 to word 5
merged : canonical ((quiet ∷ touch 5 1 ∷ []) ∷ (touch 5 0 ∷ []) ∷ []) ≡ 0 ∷ 1 ∷ 0 ∷ []
unfolding canonical_from quiet touch
merged = refl

-- where no core is ready the merge ends
stuck : canonical ((touch 5 1 ∷ []) ∷ []) ≡ []
unfolding canonical_from quiet touch
stuck = refl

one_empty : canonical ([] ∷ []) ≡ []
unfolding canonical_from
one_empty = refl
