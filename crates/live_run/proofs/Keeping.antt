-- Lists of the same actors at a later moment, one actor after another.
use Rattle.std.proofs.Common.{◌≡◌, ◌≢◌, ◌⊎◌, ℕ, zero, suc, ◌+◌, ◌<◌, List, [], ◌∷◌, ◌++◌, length, slice_get, set, Some, refl, sym, ◌∙◌, ap, subst, inl, inr, arith, ◌≤◌, Bool, true, false, ◌&&◌, IsTrue, get_or, take, length-append}
use Rattle.std.proofs.Math.ListN.{length-set}
use Rattle.std.proofs.Math.Seq.{take-append_seam}
use Rattle.std.proofs.lemmas.Option.{slice_get_within, slice_get-get_or}
use Rattle.live_run.specs.Places.{EachIs, AreSame}

-- ---- what stands at a place of a changed list

place_of_set : {A : Type 0} (xs : List A) (place : ℕ) (new : A) (other : ℕ) (x : A) → slice_get (set xs place new) other ≡ Some x → ((other ≡ place) × (x ≡ new)) ⊎ ((other ≢ place) × (slice_get xs other ≡ Some x))
place_of_set [] place new other x at = absurd (cc)
place_of_set (y ∷ ys) zero new zero x at = let e : new ≡ x = cc in inl (refl, sym e)
place_of_set (y ∷ ys) zero new (suc other) x at = inr (λ e. absurd (omega arith), at)
place_of_set (y ∷ ys) (suc place) new zero x at = inr (λ e. absurd (omega arith), at)
place_of_set (y ∷ ys) (suc place) new (suc other) x at = elim (place_of_set ys place new other x at) [ inl h ↦ inl (ap suc h.0, h.1) | inr h ↦ inr (λ e. h.0 (omega arith), h.1) ]

place_of_push : {A : Type 0} (xs : List A) (new : A) (place : ℕ) (x : A) → slice_get (xs ++ new ∷ []) place ≡ Some x → (slice_get xs place ≡ Some x) ⊎ ((place ≡ length xs) × (x ≡ new))
place_of_push [] new zero x at = let e : new ≡ x = cc in inr (refl, sym e)
place_of_push [] new (suc place) x at = absurd (cc)
place_of_push (y ∷ ys) new zero x at = inl at
place_of_push (y ∷ ys) new (suc place) x at = elim (place_of_push ys new place x at) [ inl h ↦ inl h | inr h ↦ inr (ap suc h.0, h.1) ]

-- ---- the same actors

-- an actor of the second list was one of the first
pub same_at : {A : Type 0} (same : A → A → Type 0) (old new : List A) (place : ℕ) (b : A) → AreSame same old new → slice_get new place ≡ Some b → (a : A) × (slice_get old place ≡ Some a) × same a b
same_at same old new place b are at =
    let within : place < length old = omega (arith, are.count, slice_get_within new place b at) in
    let found = slice_get-get_or old place b within in
    (get_or old place b, found, are.each place (get_or old place b) b found at)

pub same_lists : {A : Type 0} (same : A → A → Type 0) (xs : List A) → ((a : A) → same a a) → AreSame same xs xs
same_lists {A} same xs self = record { count = refl; each = λ place a b first second. let e : a ≡ b = cc in subst (λ (x : A). same a x) e (self a) }

pub same_lists_more : {A : Type 0} (same : A → A → Type 0) (xs ys zs : List A) → ((a b c : A) → same a b → same b c → same a c) → AreSame same xs ys → AreSame same ys zs → AreSame same xs zs
same_lists_more same xs ys zs more one two = record {
  count = two.count ∙ one.count;
  each = λ place a c first last.
      let within : place < length ys = omega (arith, two.count, slice_get_within zs place c last) in
      let found = slice_get-get_or ys place a within in
      more a (get_or ys place a) c (one.each place a (get_or ys place a) first found) (two.each place (get_or ys place a) c found last);
}

-- what holds of actors, and of each at later moments, holds of the same actors
pub each_still : {A : Type 0} (same : A → A → Type 0) (fits : ℕ → A → Type 0) (old new : List A) → ((core : ℕ) (a b : A) → fits core a → same a b → fits core b) → EachIs fits old → AreSame same old new → EachIs fits new
each_still same fits old new still each are place b at =
    let was = same_at same old new place b are at in
    still place was.0 b (each place was.0 was.1) was.2

pub each_at : {A : Type 0} (fits : ℕ → A → Type 0) (xs : List A) (place : ℕ) (d : A) → EachIs fits xs → place < length xs → fits place (get_or xs place d)
each_at fits xs place d each within = each place (get_or xs place d) (slice_get-get_or xs place d within)

-- one actor has moved on
pub same_set : {A : Type 0} (same : A → A → Type 0) (old xs : List A) (place : ℕ) (d new : A) → ((a b c : A) → same a b → same b c → same a c)
    → AreSame same old xs → place < length xs → same (get_or xs place d) new → AreSame same old (set xs place new)
same_set {A} same old xs place d new more are within moved = record {
  count = length-set xs place new ∙ are.count;
  each = λ other a b first last.
      elim (place_of_set xs place new other b last) [
        | inl h ↦
            let was = are.each other a (get_or xs place d) first (subst (λ k. slice_get xs k ≡ Some (get_or xs place d)) (sym h.0) (slice_get-get_or xs place d within)) in
            subst (λ (x : A). same a x) (sym h.1) (more a (get_or xs place d) new was moved)
        | inr h ↦ are.each other a b first h.1
      ];
}

-- an actor has come back to the end of the list
pub same_push : {A : Type 0} (same : A → A → Type 0) (xs ys : List A) (old new : A) → AreSame same xs ys → same old new → AreSame same (xs ++ old ∷ []) (ys ++ new ∷ [])
same_push {A} same xs ys old new are moved = record {
  count = length-append ys (new ∷ []) ∙ (ap (λ n. n + 1) are.count ∙ sym (length-append xs (old ∷ [])));
  each = λ place a b first last.
      elim (place_of_push xs old place a first) [
        | inl h ↦ elim (place_of_push ys new place b last) [
          | inl k ↦ are.each place a b h k
          | inr k ↦ absurd (omega (arith, slice_get_within xs place a h, are.count, k.0))
        ]
        | inr h ↦ elim (place_of_push ys new place b last) [
          | inl k ↦ absurd (omega (arith, slice_get_within ys place b k, are.count, h.0))
          | inr k ↦ subst (λ (x : A). same x b) (sym h.1) (subst (λ (y : A). same old y) (sym k.1) moved)
        ]
      ];
}

-- ---- ended

pub over_more : {A : Type 0} (has_ended : A → Type 0) (xs : List A) (core : ℕ) (new : A) (over now : Bool)
    → (IsTrue over → (place : ℕ) (a : A) → place < core → slice_get xs place ≡ Some a → has_ended a) → (IsTrue now → has_ended new)
    → IsTrue (over && now) → (place : ℕ) (a : A) → place < core + 1 → slice_get (set xs core new) place ≡ Some a → has_ended a
over_more {A} has_ended xs core new true true before last both place a below at =
    elim (place_of_set xs core new place a at) [
      | inl h ↦ subst has_ended (sym h.1) (last both)
      | inr h ↦ before both place a (omega (arith, h.0)) h.1
    ]
over_more has_ended xs core new true false before last both place a below at = absurd (cc)
over_more has_ended xs core new false now before last both place a below at = absurd (cc)

pub each_below : {A : Type 0} (has_ended : A → Type 0) (xs : List A) (core : ℕ) → length xs ≤ core → ((place : ℕ) (a : A) → place < core → slice_get xs place ≡ Some a → has_ended a) → EachIs (λ _. has_ended) xs
each_below has_ended xs core all before place a at = before place a (omega (arith, slice_get_within xs place a at)) at

-- a list that was lent out whole and came back with as many actors
pub same_lent : {A : Type 0} (same : A → A → Type 0) (old new rest : List A) (count : ℕ) → AreSame same old new → count ≡ length old → AreSame same old (take count (new ++ rest))
same_lent {A} same old new rest count are counted =
    let whole : take count (new ++ rest) ≡ new = ap (λ (n : ℕ). take n (new ++ rest)) (counted ∙ sym are.count) ∙ take-append_seam new rest in
    subst (λ (xs : List A). AreSame same old xs) (sym whole) are
