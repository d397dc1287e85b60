-- What the least ready core is, and how the computed canonical order goes on.
use Rattle.std.proofs.Common.{◌≡◌, ℕ, zero, suc, ◌<◌, List, [], ◌∷◌, drop, Bool, true, false, Option, Some, None, refl, sym, ap, ◌∙◌, inl, inr, arith, eq-or-lt_of_le, le_of_suc-le-suc}
use Rattle.std.specs.Option.{option_or, option_map_or}
use Rattle.std.specs.Bool.{then_some}
use Rattle.order_core.specs.declared.entry.Entry.{Entry}
use Rattle.order_core.specs.CanonicalMerge.{is_ready, least_ready, IsLeastReady, left_after, reached_after, canonical_from}

module _ (left : ℕ → List Entry) (reached : ℕ → ℕ) where
  pub least_ready_none : (count : ℕ) → least_ready left reached count ≡ None → (core : ℕ) → core < count → is_ready reached (left core) ≡ false
  least_ready_none zero e core h = absurd (omega arith)
  least_ready_none (suc count) e core h = go (least_ready left reached count) (is_ready reached (left count)) refl refl e (least_ready_none count)
    where
      go : (o : Option ℕ) (b : Bool) → least_ready left reached count ≡ o → is_ready reached (left count) ≡ b → option_or o (then_some b count) ≡ None
          → (least_ready left reached count ≡ None → (core : ℕ) → core < count → is_ready reached (left core) ≡ false) → is_ready reached (left core) ≡ false
      go (Some d) b p q e below = cc
      go None true p q e below = cc
      go None false p q e below =
          elim (eq-or-lt_of_le (le_of_suc-le-suc h)) [
            | inl same ↦ ap (λ (c : ℕ). is_ready reached (left c)) same ∙ q
            | inr less ↦ below p core less
          ]

  pub least_ready_some : (count core : ℕ) → least_ready left reached count ≡ Some core → (core < count) × IsLeastReady left reached core
  least_ready_some zero core e = cc
  least_ready_some (suc count) core e = go (least_ready left reached count) (is_ready reached (left count)) refl refl e (least_ready_some count core)
    where
      go : (o : Option ℕ) (b : Bool) → least_ready left reached count ≡ o → is_ready reached (left count) ≡ b → option_or o (then_some b count) ≡ Some core
          → (least_ready left reached count ≡ Some core → (core < count) × IsLeastReady left reached core) → (core < suc count) × IsLeastReady left reached core
      go (Some d) b p q e below = let h = below (p ∙ e) in (omega arith, h.1)
      go None true p q e below =
          let same : count ≡ core = cc in (
            omega arith,
            record {
              ready = ap (λ (c : ℕ). is_ready reached (left c)) (sym same) ∙ q;
              least = λ lower h. least_ready_none count p lower (omega arith);
            },
          )
      go None false p q e below = cc

  pub canonical_from_some : (count most core : ℕ) → least_ready left reached count ≡ Some core
      → canonical_from count left reached (suc most) ≡ core ∷ canonical_from count (left_after left core) (reached_after reached (left core)) most
  unfolding canonical_from
  canonical_from_some count most core e = ap (λ (o : Option ℕ). option_map_or (λ (core : ℕ). core ∷ canonical_from count (left_after left core) (reached_after reached (left core)) most) o []) e

  pub canonical_from_none : (count most : ℕ) → least_ready left reached count ≡ None → canonical_from count left reached most ≡ []
  unfolding canonical_from
  canonical_from_none count zero e = refl
  canonical_from_none count (suc most) e = ap (λ (o : Option ℕ). option_map_or (λ (core : ℕ). core ∷ canonical_from count (left_after left core) (reached_after reached (left core)) most) o []) e

  pub canonical_from_zero : (count : ℕ) → canonical_from count left reached zero ≡ []
  unfolding canonical_from
  canonical_from_zero count = refl

-- a ready core has a next entry
pub is_ready_entry : (reached : ℕ → ℕ) (entries : List Entry) → is_ready reached entries ≡ true → (entry : Entry) × (entries ≡ entry ∷ drop 1 entries)
is_ready_entry reached [] e = cc
is_ready_entry reached (entry ∷ entries) e = (entry, refl)
