-- What a word is by itself, and how it is spelled.
use Rattle.std.proofs.Common.{◌≡◌, ◌≢◌, ◌∙◌, ◌⊎◌, inl, inr, ℕ, zero, suc, Bool, true, false, cond, not, List, [], ◌∷◌, ◌++◌, length, get_or, Option, Some, None, refl, sym, ap, subst, arith, eq-eqb, ne_eqb}
use Rattle.std.specs.Prelude.{◌==◌, option_and_then}
use Rattle.std.specs.List.{list_any}
use Rattle.std.specs.Str.{bytes_eq}
use Rattle.std.proofs.lemmas.Bool.{and_parts, not-true, cases_eq, or_cases}
use Rattle.std.proofs.lemmas.List.Folds.{list_any_at}
use Rattle.std.proofs.lemmas.Slice.Eq.{bytes_eq-Decides}
use Rattle.clap.specs.Lexer.{long_of, long_of_rest, strip_byte, name_and_value}
use Rattle.clap.proofs.CutLemmas.{Lacks}
use Rattle.clap.proofs.LexerLemmas.{name_and_value-at, name_and_value-without}
use Rattle.command_options.specs.Given.{Known, Text, GivenOption, one_word, name_word, is_name, is_value, is_listed, has_names}
use Rattle.command_options.specs.Words.{has_good_value}
use Rattle.command_options.proofs.Scan.{token, token_of_long, token_of_value, plain, flag, whole}

-- ---- names

name_lacks : (name : Text) → is_name name ≡ true → Lacks 61 name
name_lacks [] h = λ i lt. absurd (omega arith)
name_lacks (b ∷ rest) h = λ i lt e.
    let none = not-true (list_any (λ x. x == 61) (b ∷ rest)) h in
    let some = list_any_at (λ x. x == 61) (b ∷ rest) i 0 lt (eq-eqb (get_or (b ∷ rest) i 0) 61 e) in
    let no : true ≡ false = sym some ∙ none in
    cc

pub listed_is_name : (table : List Known) (name : Text) → has_names table ≡ true → is_listed table name ≡ true → is_name name ≡ true
listed_is_name [] name good h = cc
listed_is_name (row ∷ rest) name good h =
    let parts = and_parts (is_name row.name) (has_names rest) good in
    elim (or_cases (bytes_eq row.name name) (is_listed rest name) h) [
      | inl same ↦ subst (λ n. is_name n ≡ true) ((bytes_eq-Decides row.name name).0 same) parts.0
      | inr more ↦ listed_is_name rest name parts.1 more
    ]

-- ---- from a spelling to a token

long_of_some : (b : ℕ) (rest : Text) (p : Text × Option Text) → name_and_value (b ∷ rest) ≡ p → long_of_rest (b ∷ rest) ≡ Some p
long_of_some b rest p h = ap (λ q. Some q) h

pub token_of_value_word : (word : Text) → is_value word ≡ true → token word ≡ plain
token_of_value_word word h = rw h refl

pub token_of_name_word : (option : GivenOption) → is_name option.name ≡ true → token (name_word option) ≡ flag option.name
token_of_name_word option h = go option.name h
  where
    go : (name : Text) → is_name name ≡ true → token_of_long (long_of_rest name) ≡ flag name
    go [] g = cc
    go (b ∷ rest) g = ap token_of_long (long_of_some b rest _ (name_and_value-without (b ∷ rest) (name_lacks (b ∷ rest) g)))

pub token_of_one_word : (option : GivenOption) → is_name option.name ≡ true → is_value option.value ≡ true → token (one_word option) ≡ whole option.name option.value
token_of_one_word option h good = go option.name h
  where
    value_token : (name : Text) → token_of_value name (Some option.value) ≡ whole name option.value
    value_token name = rw good refl

    go : (name : Text) → is_name name ≡ true → token_of_long (long_of_rest (name ++ 61 ∷ option.value)) ≡ whole name option.value
    go [] g = cc
    go (b ∷ rest) g = ap token_of_long (long_of_some b (rest ++ 61 ∷ option.value) _ (name_and_value-at (b ∷ rest) option.value (name_lacks (b ∷ rest) g))) ∙ value_token (b ∷ rest)

-- ---- what follows `--`

pub good_with_value : (name value : Text) → Lacks 61 name → has_good_value (long_of_rest (name ++ 61 ∷ value)) ≡ is_value value
good_with_value [] value l = ap has_good_value (long_of_some 61 value _ (name_and_value-at [] value l))
good_with_value (b ∷ rest) value l = ap has_good_value (long_of_some b (rest ++ 61 ∷ value) _ (name_and_value-at (b ∷ rest) value l))

pub good_without_value : (text : Text) → Lacks 61 text → has_good_value (long_of_rest text) ≡ not (length text == 0)
good_without_value [] l = refl
good_without_value (b ∷ rest) l = ap has_good_value (long_of_some b rest _ (name_and_value-without (b ∷ rest) l))
    ∙ sym (ap not (ne_eqb (length (b ∷ rest)) 0 (λ e. let nothing : ⊥ = omega (arith, e) in nothing)))

-- ---- from a word to its spelling

pub record IsFlag (word name : Text) : Type 0 where
  pub spelled : word ≡ 45 ∷ 45 ∷ name
  pub long : long_of word ≡ Some (name, None)

pub record IsWhole (word name value : Text) : Type 0 where
  pub spelled : word ≡ 45 ∷ 45 ∷ (name ++ 61 ∷ value)
  pub long : long_of word ≡ Some (name, Some value)

abbrev pub Shape : Text → Type 0
Shape word = (long_of word ≡ None) ⊎ (((name : Text) × IsFlag word name) ⊎ ((name : Text) × (value : Text) × IsWhole word name value))

lacks_more : (b : ℕ) (rest : Text) → b ≢ 61 → Lacks 61 rest → Lacks 61 (b ∷ rest)
lacks_more b rest ne l zero lt = ne
lacks_more b rest ne l (suc i) lt = l i (omega arith)

-- the place of the first `=`
cut : (text : Text) → Lacks 61 text ⊎ ((name : Text) × (value : Text) × (text ≡ name ++ 61 ∷ value) × Lacks 61 name)
cut [] = inl (λ i lt. absurd (omega arith))
cut (b ∷ rest) = go (cases_eq b 61) (cut rest)
  where
    go : (b ≡ 61) ⊎ (b ≢ 61) → Lacks 61 rest ⊎ ((name : Text) × (value : Text) × (rest ≡ name ++ 61 ∷ value) × Lacks 61 name)
        → Lacks 61 (b ∷ rest) ⊎ ((name : Text) × (value : Text) × (b ∷ rest ≡ name ++ 61 ∷ value) × Lacks 61 name)
    go (inl e) more = inr ([], rest, ap (λ (c : ℕ). c ∷ rest) e, λ i lt. absurd (omega arith))
    go (inr ne) (inl l) = inl (lacks_more b rest ne l)
    go (inr ne) (inr r) = inr (b ∷ r.0, r.1, ap (λ (t : Text). b ∷ t) r.2, lacks_more b r.0 ne r.3)

long_shape : (rest : Text) → Shape (45 ∷ 45 ∷ rest)
long_shape [] = inl refl
long_shape (b ∷ rest) = go (cut (b ∷ rest))
  where
    go : Lacks 61 (b ∷ rest) ⊎ ((name : Text) × (value : Text) × (b ∷ rest ≡ name ++ 61 ∷ value) × Lacks 61 name) → Shape (45 ∷ 45 ∷ (b ∷ rest))
    go (inl l) = inr (inl (b ∷ rest, record { spelled = refl; long = long_of_some b rest _ (name_and_value-without (b ∷ rest) l) }))
    go (inr r) = inr (inr (
      r.0,
      r.1,
      record {
        spelled = ap (λ (t : Text). 45 ∷ 45 ∷ t) r.2;
        long = long_of_some b rest _ (ap name_and_value r.2 ∙ name_and_value-at r.0 r.1 r.3);
      },
    ))

pub shape_of_word : (word : Text) → Shape word
shape_of_word [] = inl refl
shape_of_word (a ∷ rest) = go (cases_eq a 45)
  where
    second : (word : Text) → Shape (45 ∷ word)
    second [] = inl refl
    second (c ∷ more) = elim (cases_eq c 45) [
      | inl e ↦ subst (λ (x : ℕ). Shape (45 ∷ x ∷ more)) (sym e) (long_shape more)
      | inr ne ↦ inl (ap (λ (b : Bool). option_and_then long_of_rest (cond b (Some more) None)) (ne_eqb c 45 ne))
    ]

    go : (a ≡ 45) ⊎ (a ≢ 45) → Shape (a ∷ rest)
    go (inl e) = subst (λ (x : ℕ). Shape (x ∷ rest)) (sym e) (second rest)
    go (inr ne) = inl (ap (λ (b : Bool). option_and_then long_of_rest (option_and_then (strip_byte 45) (cond b (Some rest) None))) (ne_eqb a 45 ne))
