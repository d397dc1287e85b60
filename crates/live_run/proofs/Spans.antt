-- Spans of output that lie apart, in lists of them.
use Rattle.std.proofs.Common.{◌≡◌, ◌⊎◌, ℕ, ◌+◌, ◌≤◌, List, [], ◌∷◌, ◌++◌, inl, inr, arith}
use Rattle.std.specs.List.{AllByRecursion}

-- how long they are together
abbrev pub total : List (ℕ × ℕ) → ℕ
total [] = 0
total (span ∷ rest) = span.1 + total rest

pub total_append : (xs ys : List (ℕ × ℕ)) → total (xs ++ ys) ≡ total xs + total ys
total_append [] ys = omega arith
total_append (x ∷ xs) ys = omega (arith, total_append xs ys)

-- a span ends by a place, begins at a place, and lies apart from another
abbrev pub EndsBy : ℕ → ℕ × ℕ → Type 0
EndsBy place span = span.0 + span.1 ≤ place

abbrev pub BeginsAt : ℕ → ℕ × ℕ → Type 0
BeginsAt place span = span.0 ≡ place

abbrev pub SpansApart : ℕ × ℕ → ℕ × ℕ → Type 0
SpansApart span other = (span.0 + span.1 ≤ other.0) ⊎ (other.0 + other.1 ≤ span.0)

-- all of one list from all of another, and all of one list from each other
abbrev pub AllApart : List (ℕ × ℕ) → List (ℕ × ℕ) → Type 0
AllApart xs ys = AllByRecursion (λ x. AllByRecursion (SpansApart x) ys) xs

abbrev pub EachApart : List (ℕ × ℕ) → Type 0
EachApart [] = Unit {0}
EachApart (x ∷ xs) = AllByRecursion (SpansApart x) xs × EachApart xs

-- ---- what holds of all

pub all_append : {A : Type 0} (P : A → Type 0) (xs ys : List A) → AllByRecursion P xs → AllByRecursion P ys → AllByRecursion P (xs ++ ys)
all_append P [] ys all more = more
all_append P (x ∷ xs) ys all more = (all.0, all_append P xs ys all.1 more)

pub all_split : {A : Type 0} (P : A → Type 0) (xs ys : List A) → AllByRecursion P (xs ++ ys) → AllByRecursion P xs × AllByRecursion P ys
all_split P [] ys all = (tt, all)
all_split P (x ∷ xs) ys all = let rest = all_split P xs ys all.1 in ((all.0, rest.0), rest.1)

pub ends_later : (place later : ℕ) (xs : List (ℕ × ℕ)) → place ≤ later → AllByRecursion (EndsBy place) xs → AllByRecursion (EndsBy later) xs
ends_later place later [] less ends = tt
ends_later place later (x ∷ xs) less ends = let here : x.0 + x.1 ≤ place = ends.0 in (omega (arith, here, less), ends_later place later xs less ends.1)

pub begun_ends : (place later : ℕ) (xs : List (ℕ × ℕ)) → place + total xs ≤ later → AllByRecursion (BeginsAt place) xs → AllByRecursion (EndsBy later) xs
begun_ends place later [] room begin = tt
begun_ends place later (x ∷ xs) room begin = let here : x.0 ≡ place = begin.0 in (omega (arith, here, room), begun_ends place later xs (omega (arith, room)) begin.1)

-- ---- apart

apart_sym : (x y : ℕ × ℕ) → SpansApart x y → SpansApart y x
apart_sym x y (inl before) = inr before
apart_sym x y (inr behind) = inl behind

pub apart_none : (xs : List (ℕ × ℕ)) → AllApart xs []
apart_none [] = tt
apart_none (x ∷ xs) = (tt, apart_none xs)

apart_cons : (ys : List (ℕ × ℕ)) (x : ℕ × ℕ) (xs : List (ℕ × ℕ)) → AllByRecursion (SpansApart x) ys → AllApart ys xs → AllApart ys (x ∷ xs)
apart_cons [] x xs here rest = tt
apart_cons (y ∷ ys) x xs here rest = ((apart_sym x y here.0, rest.0), apart_cons ys x xs here.1 rest.1)

pub all_apart_sym : (xs ys : List (ℕ × ℕ)) → AllApart xs ys → AllApart ys xs
all_apart_sym [] ys apart = apart_none ys
all_apart_sym (x ∷ xs) ys apart = apart_cons ys x xs apart.0 (all_apart_sym xs ys apart.1)

pub apart_left : (xs more ys : List (ℕ × ℕ)) → AllApart xs ys → AllApart more ys → AllApart (xs ++ more) ys
apart_left xs more ys = all_append (λ x. AllByRecursion (SpansApart x) ys) xs more

pub apart_right : (xs ys more : List (ℕ × ℕ)) → AllApart xs ys → AllApart xs more → AllApart xs (ys ++ more)
apart_right xs ys more apart rest =
    all_apart_sym (ys ++ more) xs (apart_left ys more xs (all_apart_sym xs ys apart) (all_apart_sym xs more rest))

pub each_append : (xs ys : List (ℕ × ℕ)) → EachApart xs → EachApart ys → AllApart xs ys → EachApart (xs ++ ys)
each_append [] ys own more apart = more
each_append (x ∷ xs) ys own more apart = (all_append (SpansApart x) xs ys own.0 apart.0, each_append xs ys own.1 more apart.1)

-- what begins where others end lies apart from them
begun_apart : (place : ℕ) (x : ℕ × ℕ) (ys : List (ℕ × ℕ)) → EndsBy place x → AllByRecursion (BeginsAt place) ys → AllByRecursion (SpansApart x) ys
begun_apart place x [] ends begin = tt
begun_apart place x (y ∷ ys) ends begin = let here : y.0 ≡ place = begin.0 in (inl (omega (arith, here, ends)), begun_apart place x ys ends begin.1)

pub ended_apart : (place : ℕ) (xs ys : List (ℕ × ℕ)) → AllByRecursion (EndsBy place) xs → AllByRecursion (BeginsAt place) ys → AllApart xs ys
ended_apart place [] ys ends begin = tt
ended_apart place (x ∷ xs) ys ends begin = (begun_apart place x ys ends.0 begin, ended_apart place xs ys ends.1 begin)
