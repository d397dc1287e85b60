-- The words read one by one give the options exactly where the definition does.
use Rattle.std.proofs.Common.{◌≡◌, ◌∙◌, ◌⊎◌, inl, inr, Bool, true, false, cond, not, ◌&&◌, ◌||◌, List, [], ◌∷◌, ◌++◌, Option, Some, None, refl, sym, ap, subst, append-nil, append_assoc}
use Rattle.std.specs.Prelude.{find, option_and_then, option_map, IsSome}
use Rattle.std.specs.Str.{bytes_eq}
use Rattle.std.proofs.lemmas.Slice.Eq.{bytes_eq-Decides}
use Rattle.std.specs.List.{list_all}
use Rattle.std.specs.Option.{option_map_or}
use Rattle.std.proofs.lemmas.Bool.{and_cases, and_parts, and_from, not-true, or_cases}
use Rattle.clap.specs.Lexer.{long_of}
use Rattle.command_options.specs.Given.{Known, Text, GivenOption, Spells, IsRead, one_word, name_word, is_value, is_listed, is_given, are_new, has_required, has_names, value_given}
use Rattle.command_options.specs.Laws.{ReadOnce, RequiredGiven, is_required}
use Rattle.command_options.specs.Words.{has_good_value, is_tame}
use Rattle.command_options.proofs.Scan.{Token, token, token_of_long, token_of_value, bad, plain, flag, whole, State, settled, waiting, pending, option_of, with_option, settle, Next, on_whole, on_flag, turn, finish, run}
use Rattle.command_options.proofs.TokenLemmas.{IsFlag, IsWhole, shape_of_word, listed_is_name, token_of_value_word, token_of_name_word, token_of_one_word}

-- an option whose name is new is as good as settled
pub pending_is_settled : (table : List Known) (name value : Text) (before : List GivenOption) (words : List Text) → is_given before name ≡ false
    → run table (pending name value) before words ≡ run table settled (with_option before name value) words
pending_is_settled table name value before [] new = rw new refl
pending_is_settled table name value before (word ∷ words) new = go (token word)
  where
    next : Next
    next = λ s given. run table s given words

    go : (k : Token) → turn table (pending name value) before word k next ≡ turn table settled (with_option before name value) word k next
    go bad = refl
    go plain = refl
    go (flag n) = rw new refl
    go (whole n v) = rw new refl

-- an option whose name is not new is never read
pub pending_fails : (table : List Known) (name value : Text) (before : List GivenOption) (words : List Text) → is_given before name ≡ true
    → run table (pending name value) before words ≡ None
pending_fails table name value before [] old = rw old refl
pending_fails table name value before (word ∷ words) old = go (token word)
  where
    go : (k : Token) → turn table (pending name value) before word k (λ s given. run table s given words) ≡ None
    go bad = refl
    go plain = refl
    go (flag n) = rw old refl
    go (whole n v) = rw old refl

-- ---- from the definition

module _ (table : List Known) (good : has_names table ≡ true) where
  pub run_reads : (given before : List GivenOption) (words : List Text) → Spells given words → list_all (λ option. is_listed table option.name) given ≡ true
      → list_all (λ option. is_value option.value) given ≡ true → are_new before given ≡ true → has_required table (before ++ given) ≡ true
      → run table settled before words ≡ Some (before ++ given)
  run_reads [] before words spelled listed values new required =
      let all : before ++ [] ≡ before = append-nil before in
      let has : has_required table before ≡ true = rw all at required in
      rw (spelled, has, all) refl
  run_reads (option ∷ given) before words spelled listed values new required =
      let l = and_parts (is_listed table option.name) (list_all (λ o. is_listed table o.name) given) listed in
      let v = and_parts (is_value option.value) (list_all (λ o. is_value o.value) given) values in
      let n = and_parts (not (is_given before option.name)) (are_new (before ++ option ∷ []) given) new in
      let name = listed_is_name table option.name good l.0 in
      let fresh = not-true (is_given before option.name) n.0 in
      let all : (before ++ option ∷ []) ++ given ≡ before ++ (option ∷ given) = append_assoc before (option ∷ []) given in
      let rest = run_reads given (before ++ option ∷ []) spelled.0 spelled.2 l.1 v.1 n.1 (rw all required) ∙ ap (λ (gs : List GivenOption). Some gs) all in
      elim spelled.1 [
        | inl one ↦ rw (one, token_of_one_word option name v.0, l.0, fresh) rest
        | inr two ↦ rw (two, token_of_name_word option name, l.0, token_of_value_word option.value v.0) (pending_is_settled table option.name option.value before spelled.0 fresh ∙ rest)
      ]

-- ---- to the definition

-- how the options grow over words
pub record Grows (table : List Known) (before : List GivenOption) (words : List Text) (all : List GivenOption) : Type 0 where
  pub given : List GivenOption
  pub whole : all ≡ before ++ given
  pub spelled : Spells given words
  pub listed : list_all (λ option. is_listed table option.name) given ≡ true
  pub values : list_all (λ option. is_value option.value) given ≡ true
  pub once : are_new before given ≡ true
  pub required : has_required table all ≡ true

some_of_cond : {X : Type 0} (b : Bool) (o : Option X) (x : X) → cond b o None ≡ Some x → (b ≡ true) × (o ≡ Some x)
some_of_cond true o x h = (refl, h)
some_of_cond false o x h = cc

some_of_no : {X : Type 0} (b : Bool) (o : Option X) (x : X) → cond b None o ≡ Some x → (b ≡ false) × (o ≡ Some x)
some_of_no true o x h = cc
some_of_no false o x h = (refl, h)

grows_end : (table : List Known) (before all : List GivenOption) → finish table before ≡ Some all → Grows table before [] all
grows_end table before all h =
    let parts = some_of_cond (has_required table before) (Some before) all h in
    let same : before ≡ all = cc in
    record {
      given = [];
      whole = sym same ∙ sym (append-nil before);
      spelled = refl;
      listed = refl;
      values = refl;
      once = refl;
      required = subst (λ (g : List GivenOption). has_required table g ≡ true) same parts.0;
    }

grows_more : (table : List Known) (before all : List GivenOption) (name value : Text) (words rest : List Text)
    → (words ≡ one_word (option_of name value) ∷ rest) ⊎ (words ≡ name_word (option_of name value) ∷ value ∷ rest)
    → is_listed table name ≡ true → is_value value ≡ true → is_given before name ≡ false
    → Grows table (with_option before name value) rest all → Grows table before words all
grows_more table before all name value words rest spelled listed good new g = record {
  given = option_of name value ∷ g.given;
  whole = g.whole ∙ append_assoc before (option_of name value ∷ []) g.given;
  spelled = (rest, spelled, g.spelled);
  listed = and_from (is_listed table name) (list_all (λ option. is_listed table option.name) g.given) listed g.listed;
  values = and_from (is_value value) (list_all (λ option. is_value option.value) g.given) good g.values;
  once = and_from (not (is_given before name)) (are_new (with_option before name value) g.given) (ap not new) g.once;
  required = g.required;
}

-- what a word is, where its token says more than that it is bad
abbrev pub IsSpelled : Text → Token → Type 0
IsSpelled word bad = Unit {0}
IsSpelled word plain = is_value word ≡ true
IsSpelled word (flag name) = IsFlag word name
IsSpelled word (whole name value) = IsWhole word name value × (is_value value ≡ true)

long_is_spelled : (word : Text) → IsSpelled word (token_of_long (long_of word))
long_is_spelled word = elim (shape_of_word word) [
  | inl none ↦ rw none tt
  | inr (inl f) ↦ rw f.1.long f.1
  | inr (inr w) ↦ rw w.2.long (value_is_spelled w.0 w.1 w.2 (is_value w.1) refl)
]
  where
    value_is_spelled : (name value : Text) → IsWhole word name value → (b : Bool) → is_value value ≡ b → IsSpelled word (cond b (whole name value) bad)
    value_is_spelled name value w true e = (w, e)
    value_is_spelled name value w false e = tt

pub token_is_spelled : (word : Text) → IsSpelled word (token word)
token_is_spelled word = go (is_value word) refl
  where
    go : (b : Bool) → is_value word ≡ b → IsSpelled word (cond b plain (token_of_long (long_of word)))
    go true e = e
    go false e = long_is_spelled word

module _ (table : List Known) where
  abbrev After : List Text → Type 0
  After words = (before all : List GivenOption) → run table settled before words ≡ Some all → Grows table before words all

  after_whole : (word name value : Text) (rest : List Text) → IsWhole word name value → is_value value ≡ true → After rest
      → (before all : List GivenOption) → on_whole table name value (λ s given. run table s given rest) before ≡ Some all → Grows table before (word ∷ rest) all
  after_whole word name value rest is good more before all h =
      let l = some_of_cond (is_listed table name) _ all h in
      let n = some_of_no (is_given before name) _ all l.1 in
      grows_more table before all name value (word ∷ rest) rest (inl (ap (λ (w : Text). w ∷ rest) is.spelled)) l.0 good n.0 (more (with_option before name value) all n.1)

  -- the value of an option
  after_name : (word name value : Text) (rest : List Text) → IsFlag word name → is_listed table name ≡ true → After rest → (k : Token) → IsSpelled value k
      → (before all : List GivenOption) → turn table (waiting name) before value k (λ s given. run table s given rest) ≡ Some all → Grows table before (word ∷ value ∷ rest) all
  after_name word name value rest is listed more plain good before all h = go (is_given before name) refl
    where
      go : (b : Bool) → is_given before name ≡ b → Grows table before (word ∷ value ∷ rest) all
      go true e = let no : None ≡ Some all = sym (pending_fails table name value before rest e) ∙ h in cc
      go false e =
          let now = sym (pending_is_settled table name value before rest e) ∙ h in
          grows_more table before all name value (word ∷ value ∷ rest) rest (inr (ap (λ (w : Text). w ∷ value ∷ rest) is.spelled)) listed good e
          (more (with_option before name value) all now)
  after_name word name value rest is listed more bad good before all h = cc
  after_name word name value rest is listed more (flag n) good before all h = cc
  after_name word name value rest is listed more (whole n v) good before all h = cc

  after_flag : (word name : Text) (rest : List Text) → IsFlag word name → is_listed table name ≡ true
      → ((value : Text) (more : List Text) → rest ≡ value ∷ more → After more)
      → (before all : List GivenOption) → run table (waiting name) before rest ≡ Some all → Grows table before (word ∷ rest) all
  after_flag word name [] is listed more before all h = cc
  after_flag word name (value ∷ rest) is listed more before all h =
      after_name word name value rest is listed (more value rest refl) (token value) (token_is_spelled value) before all h

  after_word : (word : Text) (rest : List Text) → After rest → ((value : Text) (more : List Text) → rest ≡ value ∷ more → After more)
      → (k : Token) → IsSpelled word k → (before all : List GivenOption)
      → turn table settled before word k (λ s given. run table s given rest) ≡ Some all → Grows table before (word ∷ rest) all
  after_word word rest next later bad is before all h = cc
  after_word word rest next later plain is before all h = cc
  after_word word rest next later (flag name) is before all h =
      let l = some_of_cond (is_listed table name) _ all h in
      after_flag word name rest is l.0 later before all l.1
  after_word word rest next later (whole name value) is before all h = after_whole word name value rest is.0 is.1 next before all h

  pub run_grows : (words : List Text) → After words
  run_grows [] before all h = grows_end table before all h
  run_grows (word ∷ []) before all h = after_word word [] (run_grows []) (λ value more e. cc) (token word) (token_is_spelled word) before all h
  run_grows (word ∷ value ∷ rest) before all h =
      let later : (v : Text) (more : List Text) → (value ∷ rest) ≡ v ∷ more → After more = λ v more e.
      let same : rest ≡ more = cc in subst After same (run_grows rest) in
      after_word word (value ∷ rest) (run_grows (value ∷ rest)) later (token word) (token_is_spelled word) before all h

-- ---- words that are not tame

cond_none : (b : Bool) → ◌≡◌ {A = Option (List GivenOption)} (cond b None None) None
cond_none true = refl
cond_none false = refl

tame_tells : (value : Bool) (long : Option (Text × Option Text)) → (value || has_good_value long) ≡ true → cond value plain (token_of_long long) ≡ bad → ⊥
tame_tells true long tame is = cc
tame_tells false None tame is = cc
tame_tells false (Some p) tame is = value_is_good p.0 p.1 tame is
  where
    value_is_good : (name : Text) (value : Option Text) → option_map_or is_value value true ≡ true → token_of_value name value ≡ bad → ⊥
    value_is_good name None good e = cc
    value_is_good name (Some value) good e = let other : whole name value ≡ bad = rw good at e in cc

untame_tells : (value : Bool) (long : Option (Text × Option Text)) → (value || has_good_value long) ≡ false → cond value plain (token_of_long long) ≡ bad
untame_tells true long untame = cc
untame_tells false None untame = refl
untame_tells false (Some p) untame = value_is_bad p.0 p.1 untame
  where
    value_is_bad : (name : Text) (value : Option Text) → option_map_or is_value value true ≡ false → token_of_value name value ≡ bad
    value_is_bad name None wrong = cc
    value_is_bad name (Some value) wrong = rw wrong refl

pub tame_is_not_bad : (word : Text) → is_tame word ≡ true → token word ≡ bad → ⊥
tame_is_not_bad word tame is = tame_tells (is_value word) (long_of word) tame is

turn_none : (table : List Known) (state : State) (before : List GivenOption) (word : Text) (k : Token) (next : Next)
    → ((s : State) (given : List GivenOption) → next s given ≡ None) → turn table state before word k next ≡ None
turn_none table state before word bad next none = refl
turn_none table settled before word plain next none = refl
turn_none table (waiting name) before word plain next none = none (pending name word) before
turn_none table (pending name value) before word plain next none = refl
turn_none table state before word (flag name) next none = go (settle state before)
  where
    go : (o : Option (List GivenOption)) → option_and_then (on_flag table name next) o ≡ None
    go None = refl
    go (Some given) = rw (none (waiting name) given) (cond_none (is_listed table name))
turn_none table state before word (whole name value) next none = go (settle state before)
  where
    go : (o : Option (List GivenOption)) → option_and_then (on_whole table name value next) o ≡ None
    go None = refl
    go (Some given) = rw (none settled (with_option given name value), cond_none (is_given given name)) (cond_none (is_listed table name))

pub run_untame : (table : List Known) (state : State) (before : List GivenOption) (words : List Text) → list_all is_tame words ≡ false → run table state before words ≡ None
run_untame table state before [] untame = cc
run_untame table state before (word ∷ rest) untame = elim (and_cases (is_tame word) (list_all is_tame rest) untame) [
  | inl here ↦ rw (untame_tells (is_value word) (long_of word) here) refl
  | inr more ↦ turn_none table state before word (token word) (λ s given. run table s given rest) (λ s given. run_untame table s given rest more)
]

-- ---- both

pub read_by_run : (table : List Known) (words : List Text) (given : List GivenOption) → run table settled [] words ≡ Some given → IsRead table words given
read_by_run table words given h =
    let g = run_grows table words [] given h in
    let same : given ≡ g.given = g.whole in
    record {
      spelled = rw same g.spelled;
      listed = rw same g.listed;
      values = rw same g.values;
      once = rw same g.once;
      required = g.required;
    }

pub run_by_read : (table : List Known) (words : List Text) (given : List GivenOption) → has_names table ≡ true → IsRead table words given
    → run table settled [] words ≡ Some given
run_by_read table words given good r = run_reads table good given [] words r.spelled r.listed r.values r.once r.required

pub read_once : ReadOnce
read_once table words one other good r s =
    let e : Some one ≡ Some other = sym (run_by_read table words one good r) ∙ run_by_read table words other good s in
    cc

-- ---- values

name_has_value : (given : List GivenOption) (name : Text) → is_given given name ≡ true → IsSome (value_given given name)
name_has_value [] name h = cc
name_has_value (option ∷ given) name h = go (bytes_eq option.name name) h (name_has_value given name)
  where
    go : (b : Bool) → (b || is_given given name) ≡ true → (is_given given name ≡ true → IsSome (value_given given name))
        → IsSome (option_map (λ (o : GivenOption). o.value) (cond b (Some option) (find (λ (o : GivenOption). bytes_eq o.name name) given)))
    go true k more = refl
    go false k more = more k

has_required_name : (table : List Known) (given : List GivenOption) (name : Text) → has_required table given ≡ true → is_required table name ≡ true
    → is_given given name ≡ true
has_required_name [] given name has is = cc
has_required_name (row ∷ table) given name has is =
    let h = and_parts (not row.required || is_given given row.name) (has_required table given) has in
    elim (or_cases (row.required && bytes_eq row.name name) (is_required table name) is) [
      | inl here ↦
          let k = and_parts row.required (bytes_eq row.name name) here in
          let there : is_given given row.name ≡ true = rw k.0 at h.0 in
          subst (λ (n : Text). is_given given n ≡ true) ((bytes_eq-Decides row.name name).0 k.1) there
      | inr more ↦ has_required_name table given name h.1 more
    ]

pub required_given : RequiredGiven
required_given table words given name read is = name_has_value given name (has_required_name table given name read.required is)
