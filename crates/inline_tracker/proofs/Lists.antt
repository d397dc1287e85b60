-- Facts on lists that the state of a run needs.
use Rattle.std.proofs.Common.{◌≡◌, ◌||◌, Bool, Option, Some, None, List, [], ◌∷◌, ◌++◌, refl, ap, ◌∙◌}
use Rattle.std.specs.Prelude.{map, IsSome, option_to_list}
use Rattle.std.specs.List.{list_any}
use Rattle.std.proofs.lemmas.List.{map-append}

-- some element of a mapped list passes where some element passes by its value
pub list_any_map : {A B : Type 0} (p : B → Bool) (f : A → B) (xs : List A) → list_any p (map f xs) ≡ list_any (λ x. p (f x)) xs
list_any_map p f [] = refl
list_any_map p f (x ∷ xs) = ap (λ b. p (f x) || b) (list_any_map p f xs)

-- one more element that is there
pub some_more : {A : Type 0} (xs : List A) (ys : List (Option A)) (more : Option A) → map Some xs ≡ ys → IsSome more → map Some (xs ++ option_to_list more) ≡ ys ++ more ∷ []
some_more xs ys None are some = absurd (cc)
some_more xs ys (Some x) are some = map-append Some xs (x ∷ []) ∙ ap (λ (zs : List _). zs ++ Some x ∷ []) are

-- two maps are one
pub map_twice : {A B C : Type 0} (g : B → C) (f : A → B) (xs : List A) → map g (map f xs) ≡ map (λ x. g (f x)) xs
map_twice g f [] = refl
map_twice g f (x ∷ xs) = ap (λ ys. g (f x) ∷ ys) (map_twice g f xs)
