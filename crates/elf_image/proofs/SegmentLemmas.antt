-- Lemmas on lists of segments.
use Rattle.std.proofs.Common.{◌≡◌, ℕ, ◌≤◌, List, [], ◌∷◌, max, Bool, true, false, fold, arith, refl, zero, suc, Some, slice_get, ◌||◌}
use Rattle.std.proofs.lemmas.Bool.{ltb-false}
use Rattle.std.specs.List.{list_any}
use Rattle.elf_image.specs.Layout.{highest_end}
use Rattle.elf_image.specs.ImageFault.{passes_limit, address_limit}
use Rattle.elf_image.specs.declared.segments.Segment.{Segment}

-- a disjunction that fails fails on both sides
pub or_false : (a b : Bool) → (a || b) ≡ false → (a ≡ false) × (b ≡ false)
or_false true b h = cc
or_false false b h = (refl, h)

pub fold_max_le : (low : ℕ) (loaded : List Segment) → low ≤ address_limit → list_any passes_limit loaded ≡ false → fold (λ high segment. max high segment.end) low loaded ≤ address_limit
fold_max_le low [] h none = h
fold_max_le low (segment ∷ rest) h none =
    let parts = or_false (passes_limit segment) (list_any passes_limit rest) none in
    let below : segment.end ≤ address_limit = grind (arith, parts.0) in
    fold_max_le (max low segment.end) rest (omega arith) parts.1

-- where no segment passes the limit, the highest end does not
pub highest_end_le : (loaded : List Segment) → list_any passes_limit loaded ≡ false → highest_end loaded ≤ address_limit
highest_end_le loaded none = fold_max_le 0 loaded (omega arith) none

-- where no segment passes the limit, the one at a place does not
pub end_le : (loaded : List Segment) (place : ℕ) (segment : Segment) → list_any passes_limit loaded ≡ false → Some segment ≡ slice_get loaded place → segment.end ≤ address_limit
end_le [] place segment none found = cc
end_le (first ∷ rest) zero segment none found =
    let parts = or_false (passes_limit first) (list_any passes_limit rest) none in
    let same : segment ≡ first = cc in
    rw same (ltb-false _ _ parts.0)
end_le (first ∷ rest) (suc place) segment none found =
    let parts = or_false (passes_limit first) (list_any passes_limit rest) none in
    end_le rest place segment parts.1 found
