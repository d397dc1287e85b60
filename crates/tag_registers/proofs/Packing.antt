-- The tags of all registers as one number, register by register from the last down.
use Rattle.std.proofs.Common.{◌≡◌, ℕ, suc, ◌+◌, ◌-◌, ◌*◌, ◌^◌, ◌<◌, ◌≤◌, List, ◌∷◌, length, get_or, drop, refl, ◌∙◌, ap, subst, arith, lit<}
use Rattle.std.proofs.Math.Nat.{pow-suc, pow-le-pow_right}
use Rattle.std.proofs.Math.Seq.{drop-cons}
use Rattle.std.proofs.lemmas.List.{drop_all}
use Rattle.std.specs.Prelude.{slice_index}
use Rattle.tag_registers.specs.Tags.{packed}

-- the tags from this register on
pub record IsPackedFrom (tags : List ℕ) (register all : ℕ) : Type 0 where
  pub count : length tags ≡ 32
  pub within : register ≤ 32
  pub value : all ≡ packed (drop register tags)
  pub bounded : all < 16 ^ (32 - register)

one_more : (tags : List ℕ) (place all tag : ℕ) → IsPackedFrom tags (suc place) all → tag ≡ slice_index tags place → tag < 16
    → IsPackedFrom tags place (all * 16 + tag)
one_more tags place all tag is e small =
    let within : place < length tags = omega (arith, is.count, is.within) in
    let power : 16 ^ (32 - place) ≡ 16 ^ (32 - suc place) * 16 =
    (let less : 32 - place ≡ suc (32 - suc place) = omega (arith, is.within) in ap (λ n. 16 ^ n) less ∙ pow-suc 16 (32 - suc place)) in
    let first : drop place tags ≡ get_or tags place 0 ∷ drop (suc place) tags = drop-cons tags place 0 within in
    record {
      count = is.count;
      within = omega (arith, is.within);
      value = rw (first, e, is.value) (omega arith);
      bounded = omega (arith, power, is.bounded, small);
    }

pub packed_more : (tags : List ℕ) (register all tag : ℕ) → 0 < register → IsPackedFrom tags register all → tag ≡ slice_index tags (register - 1) → tag < 16
    → IsPackedFrom tags (register - 1) (all * 16 + tag)
packed_more tags register all tag h is e small =
    let less : register ≡ suc (register - 1) = omega arith in
    let P : ℕ → Type 0 = λ n. IsPackedFrom tags n all in
    one_more tags (register - 1) all tag (subst P less is) e small

pub packed_none : (tags : List ℕ) → length tags ≡ 32 → IsPackedFrom tags 32 0
packed_none tags count = record {
  count = count;
  within = omega arith;
  value = rw (drop_all 32 tags (omega arith)) refl;
  bounded = lit< tt;
}

-- all of them fit 128 bits
pub packed_fits : (tags : List ℕ) (register all : ℕ) → IsPackedFrom tags register all → all < 2 ^ 128
packed_fits tags register all is =
    let most : 16 ^ (32 - register) ≤ 16 ^ 32 = pow-le-pow_right {n = 16} (lit< tt) {i = 32 - register} {j = 32} (omega arith) in
    omega (arith, is.bounded, most)

pub packed_room : (tags : List ℕ) (register all : ℕ) → 0 < register → IsPackedFrom tags register all → all * 16 < 2 ^ 128
packed_room tags register all h is =
    let most : 16 ^ (32 - register) ≤ 16 ^ 31 = pow-le-pow_right {n = 16} (lit< tt) {i = 32 - register} {j = 31} (omega arith) in
    omega (arith, is.bounded, most)
