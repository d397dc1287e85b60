-- The parser of command lines agrees with the words read one by one.
use Rattle.std.proofs.Common.{◌≡◌, ◌∙◌, Bool, true, false, cond, ◌&&◌, List, [], ◌∷◌, Option, Some, None, inl, inr, refl, sym, ap, subst}
use Rattle.std.specs.Prelude.{fold, option_and_then}
use Rattle.std.specs.List.{list_all}
use Rattle.std.proofs.lemmas.Bool.{and_parts}
use Rattle.clap.specs.Matches.{found_of}
use Rattle.clap.specs.Simple.{App, HasMatchesOf, is_simple, matches_of}
use Rattle.clap.specs.declared.parser.matches.ArgMatches.{ArgMatches}
use Rattle.clap.specs.declared.error.Error.{Error}
use Rattle.clap.specs.Values.{kind_of}
use Rattle.clap.specs.Walk.{Row, Rule, Walk, has_row, rows_of, walked, with_default, with_values, without}
use Rattle.clap.specs.Kinds.{HasKind, IsAmong, Kinds, or_else}
use Rattle.clap.specs.Faults.{fault_of, is_simple_and_free, turn_fault, walk_fault, defaults_fault, check_fault}
use Rattle.clap.specs.declared.builder.value_parser.Reading.TheVariants as reading
use Rattle.clap.specs.declared.error.kind.ErrorKind.TheVariants as kind
use Rattle.clap.specs.declared.parser.matches.ValueSource.TheVariants.{CommandLine}
use Rattle.command_options.specs.Given.{Known, Text, GivenOption, is_listed, is_given, has_required, has_names, IsRead}
use Rattle.command_options.specs.Words.{app_for, have_values, is_tame, options_found}
use Rattle.command_options.proofs.Scan.{Token, token, bad, plain, flag, whole, State, settled, waiting, pending, with_option, settle, Next, on_whole, on_flag, turn, finish, run}
use Rattle.command_options.proofs.ScanLemmas.{IsSpelled, token_is_spelled, read_by_run, run_by_read, tame_is_not_bad, run_untame}
use Rattle.command_options.proofs.Parse.{Agrees, fault_from, rows_from, rules_for, shape_with, rows_for, walk_at}
use Rattle.command_options.proofs.TableLemmas.{by_id, fault_is, is_known, is_simple_app, rows_are, lacks_required, no_defaults, none_added}
use Rattle.command_options.proofs.RowLemmas.{options_are, values_are, has_row_is, used_once}
use Rattle.command_options.proofs.StepLemmas.{first_fault, name_refused, name_taken, option_taken, rows_after, value_refused, value_taken}

-- ---- faults

or_else_assoc : (a b c : Kinds) → or_else (or_else a b) c ≡ or_else a (or_else b c)
or_else_assoc [] b c = refl
or_else_assoc (k ∷ a) b c = refl

or_else_none : (a : Kinds) → or_else a [] ≡ a
or_else_none [] = refl
or_else_none (k ∷ a) = refl

or_else_first : (a b : Kinds) → or_else a b ≡ [] → a ≡ []
or_else_first [] b h = refl
or_else_first (k ∷ a) b h = cc

-- a fault of the first step stays
stops : (fault more : Kinds) → (fault ≡ [] → ⊥) → or_else fault more ≡ [] → ⊥
stops fault more some h = some (or_else_first fault more h)

and_true : (b : Bool) → (b && true) ≡ b
and_true true = refl
and_true false = refl

module _ (table : List Known) where
  abbrev rules : List Rule
  rules = rules_for table

  -- ---- what is pending

  abbrev IsKnown : State → Type 0
  IsKnown settled = Unit {0}
  IsKnown (waiting name) = is_listed table name ≡ true
  IsKnown (pending name value) = is_listed table name ≡ true

  settle_agrees : (state : State) (before : List GivenOption) → IsKnown state
      → Agrees (settle state before) (first_fault table state (rows_for before)) (rows_after table state (rows_for before))
  settle_agrees settled before known = (refl, refl)
  settle_agrees (waiting name) before known =
      let r = by_id table name known in
      let is : first_fault table (waiting name) (rows_for before) ≡ kind.InvalidValue ∷ [] = rw r.is refl in
      λ h. let no : kind.InvalidValue ∷ [] ≡ [] = sym is ∙ h in cc
  settle_agrees (pending name value) before known = go (is_given before name) refl
    where
      go : (b : Bool) → is_given before name ≡ b
          → Agrees (cond b None (Some (with_option before name value))) (first_fault table (pending name value) (rows_for before)) (rows_after table (pending name value) (rows_for before))
      go true old =
          let r = by_id table name known in
          let is : first_fault table (pending name value) (rows_for before) ≡ kind.ArgumentConflict ∷ [] = rw (r.is, has_row_is before name, old) refl in
          λ h. let no : kind.ArgumentConflict ∷ [] ≡ [] = sym is ∙ h in cc
      go false new =
          let r = by_id table name known in
          (rw (r.is, has_row_is before name, new) refl, rw r.is (used_once before name value new))

  -- ---- the end

  finish_agrees : (o : Option (List GivenOption)) (fault : Kinds) (rows : List Row) → Agrees o fault rows
      → Agrees (option_and_then (finish table) o)
      (or_else fault (or_else (defaults_fault rows rules) (check_fault (shape_with rules) (fold with_default rows rules) false))) (fold with_default rows rules)
  finish_agrees None fault rows a = stops fault _ a
  finish_agrees (Some given) fault rows a = go (has_required table given) refl
    where
      go : (b : Bool) → has_required table given ≡ b → Agrees (cond b (Some given) None)
          (or_else fault (or_else (defaults_fault rows rules) (check_fault (shape_with rules) (fold with_default rows rules) false))) (fold with_default rows rules)
      go true has = (rw (a.0, a.1, no_defaults (rows_for given) table, none_added (rows_for given) table, lacks_required table given, has) refl, rw a.1 (none_added (rows_for given) table))
      go false lacks =
          let is : or_else fault (or_else (defaults_fault rows rules) (check_fault (shape_with rules) (fold with_default rows rules) false)) ≡ kind.MissingRequiredArgument ∷ []
          = rw (a.0, a.1, no_defaults (rows_for given) table, none_added (rows_for given) table, lacks_required table given, lacks) refl in
          λ h. let no : kind.MissingRequiredArgument ∷ [] ≡ [] = sym is ∙ h in cc

  -- ---- one word more

  abbrev AgreesAt : Option (List GivenOption) → Walk → List Text → Type 0
  AgreesAt o walk words = Agrees o (fault_from rules walk words) (rows_from rules walk words)

  abbrev After : List Text → Type 0
  After words = (state : State) (before : List GivenOption) → IsKnown state → AgreesAt (run table state before words) (walk_at state (rows_for before)) words

  goes_on : (o : Option (List GivenOption)) (fault : Kinds) (walk next : Walk) (words : List Text) → fault ≡ [] → walk ≡ next → AgreesAt o next words
      → Agrees o (or_else fault (fault_from rules walk words)) (rows_from rules walk words)
  goes_on o fault walk next words none same a = rw (none, same) a

  flag_unlisted : (o : Option (List GivenOption)) (name : Text) (next : Next) → is_listed table name ≡ false → option_and_then (on_flag table name next) o ≡ None
  flag_unlisted None name next unlisted = refl
  flag_unlisted (Some given) name next unlisted = rw unlisted refl

  whole_unlisted : (o : Option (List GivenOption)) (name value : Text) (next : Next) → is_listed table name ≡ false → option_and_then (on_whole table name value next) o ≡ None
  whole_unlisted None name value next unlisted = refl
  whole_unlisted (Some given) name value next unlisted = rw unlisted refl

  flag_agrees : (o : Option (List GivenOption)) (first fault : Kinds) (rows : List Row) (walk : Walk) (name : Text) (rest : List Text) → is_listed table name ≡ true → After rest
      → fault ≡ or_else first [] → walk ≡ walk_at (waiting name) rows → Agrees o first rows
      → Agrees (option_and_then (on_flag table name (λ s given. run table s given rest)) o) (or_else fault (fault_from rules walk rest)) (rows_from rules walk rest)
  flag_agrees None first fault rows walk name rest listed more is at a = stops fault _ (λ h. a (sym (is ∙ or_else_none first) ∙ h))
  flag_agrees (Some given) first fault rows walk name rest listed more is at a =
      rw listed (goes_on _ fault walk _ rest (is ∙ or_else_none first ∙ a.0) (at ∙ ap (walk_at (waiting name)) a.1) (more (waiting name) given listed))

  whole_agrees : (o : Option (List GivenOption)) (first fault : Kinds) (rows : List Row) (walk : Walk) (name value : Text) (rest : List Text) → is_listed table name ≡ true → After rest
      → fault ≡ or_else (or_else first (or_else (cond (has_row name rows && true) (kind.ArgumentConflict ∷ []) []) [])) []
      → walk ≡ walk_at settled (with_values name reading.AsWritten CommandLine (value ∷ []) (without name rows)) → Agrees o first rows
      → Agrees (option_and_then (on_whole table name value (λ s given. run table s given rest)) o) (or_else fault (fault_from rules walk rest)) (rows_from rules walk rest)
  whole_agrees None first fault rows walk name value rest listed more is at a =
      stops fault _ (λ h. a (or_else_first first _ (or_else_first _ [] (sym is ∙ h))))
  whole_agrees (Some given) first fault rows walk name value rest listed more is at a = rw listed (go (is_given given name) refl)
    where
      go : (b : Bool) → is_given given name ≡ b
          → Agrees (cond b None (run table settled (with_option given name value) rest)) (or_else fault (fault_from rules walk rest)) (rows_from rules walk rest)
      go true old =
          let e : fault ≡ kind.ArgumentConflict ∷ [] = is ∙ rw (a.0, a.1, has_row_is given name, old) refl in
          stops fault _ (λ h. let none : kind.ArgumentConflict ∷ [] ≡ [] = sym e ∙ h in cc)
      go false new =
          goes_on _ fault walk (walk_at settled (rows_for (with_option given name value))) rest
          (is ∙ rw (a.0, a.1, has_row_is given name, new) refl)
          (at ∙ ap (walk_at settled) (rw a.1 (used_once given name value new)))
          (more settled (with_option given name value) tt)

  word_agrees : (word : Text) (rest : List Text) → After rest → (k : Token) → IsSpelled word k → (k ≡ bad → ⊥) → (state : State) (before : List GivenOption) → IsKnown state
      → Agrees (turn table state before word k (λ s given. run table s given rest))
      (or_else (turn_fault (shape_with rules) [] (walk_at state (rows_for before)) word) (fault_from rules (walked rules [] (walk_at state (rows_for before)) word) rest))
      (rows_from rules (walked rules [] (walk_at state (rows_for before)) word) rest)
  word_agrees word rest more bad is tame state before known = absurd (tame refl)
  word_agrees word rest more plain is tame settled before known =
      stops _ _ (λ h. let no : kind.UnknownArgument ∷ [] ≡ [] = sym (value_refused table settled word (rows_for before) refl is) ∙ h in cc)
  word_agrees word rest more plain is tame (pending name value) before known =
      stops _ _ (λ h. let no : kind.UnknownArgument ∷ [] ≡ [] = sym (value_refused table (pending name value) word (rows_for before) refl is) ∙ h in cc)
  word_agrees word rest more plain is tame (waiting name) before known =
      let t = value_taken table name word (rows_for before) known is in
      goes_on _ _ _ _ rest t.0 t.1 (more (pending name word) before known)
  word_agrees word rest more (flag name) is tame state before known = go (is_listed table name) refl
    where
      go : (b : Bool) → is_listed table name ≡ b
          → Agrees (option_and_then (on_flag table name (λ s given. run table s given rest)) (settle state before))
          (or_else (turn_fault (shape_with rules) [] (walk_at state (rows_for before)) word) (fault_from rules (walked rules [] (walk_at state (rows_for before)) word) rest))
          (rows_from rules (walked rules [] (walk_at state (rows_for before)) word) rest)
      go true listed =
          let t = name_taken table state word name (rows_for before) listed is.long in
          flag_agrees (settle state before) _ _ _ _ name rest listed more t.0 t.1 (settle_agrees state before known)
      go false unlisted =
          let t = name_refused table state word name None (rows_for before) unlisted is.long in
          rw (flag_unlisted (settle state before) name (λ s given. run table s given rest) unlisted)
          (stops _ _ (λ h. let none : kind.UnknownArgument ∷ [] ≡ [] = sym t ∙ h in cc))
  word_agrees word rest more (whole name value) is tame state before known = go (is_listed table name) refl
    where
      go : (b : Bool) → is_listed table name ≡ b
          → Agrees (option_and_then (on_whole table name value (λ s given. run table s given rest)) (settle state before))
          (or_else (turn_fault (shape_with rules) [] (walk_at state (rows_for before)) word) (fault_from rules (walked rules [] (walk_at state (rows_for before)) word) rest))
          (rows_from rules (walked rules [] (walk_at state (rows_for before)) word) rest)
      go true listed =
          let t = option_taken table state word name value (rows_for before) listed is.0.long in
          whole_agrees (settle state before) _ _ _ _ name value rest listed more t.0 t.1 (settle_agrees state before known)
      go false unlisted =
          let t = name_refused table state word name (Some value) (rows_for before) unlisted is.0.long in
          rw (whole_unlisted (settle state before) name value (λ s given. run table s given rest) unlisted)
          (stops _ _ (λ h. let none : kind.UnknownArgument ∷ [] ≡ [] = sym t ∙ h in cc))

  -- ---- all words

  run_agrees : (words : List Text) → list_all is_tame words ≡ true → After words
  unfolding walk_fault
  run_agrees [] tame state before known = finish_agrees (settle state before) _ _ (settle_agrees state before known)
  run_agrees (word ∷ rest) tame state before known =
      let t = and_parts (is_tame word) (list_all is_tame rest) tame in
      let walk = walk_at state (rows_for before) in
      rw (or_else_assoc (turn_fault (shape_with rules) [] walk word) _ _)
      (word_agrees word rest (run_agrees rest t.1) (token word) (token_is_spelled word) (tame_is_not_bad word t.0) state before known)

  pub parse_agrees : (words : List Text) → list_all is_tame words ≡ true → Agrees (run table settled [] words) (fault_of (app_for table) words) (matches_of (app_for table) words)
  parse_agrees words tame = rw (fault_is table words, rows_are table words) (run_agrees words tame settled [] tt)

-- ---- what a caller of the parser learns

module _ (table : List Known) (words : List Text) where
  -- the options are those that the words give
  pub matches_read : (app : App) (m : ArgMatches) → app ≡ app_for table → list_all is_tame words ≡ true
      → (is_simple_and_free app ≡ true → fault_of app words ≡ []) → HasMatchesOf app words m
      → IsRead table words (options_found (found_of m)) × (have_values (found_of m) ≡ true)
  matches_read app m same tame none rows = go (run table settled [] words) refl (parse_agrees table words tame)
    where
      no_fault : fault_of (app_for table) words ≡ []
      no_fault = subst (λ (a : App). fault_of a words ≡ []) same (none (ap is_simple_and_free same ∙ is_known table))

      found : rows_of (found_of m) ≡ matches_of (app_for table) words
      found = (rows (ap is_simple same ∙ is_simple_app table)).0 ∙ ap (λ (a : App). matches_of a words) same

      go : (o : Option (List GivenOption)) → run table settled [] words ≡ o → Agrees o (fault_of (app_for table) words) (matches_of (app_for table) words)
          → IsRead table words (options_found (found_of m)) × (have_values (found_of m) ≡ true)
      go None is a = absurd (a no_fault)
      go (Some given) is a =
          let rows_are_for : rows_of (found_of m) ≡ rows_for given = found ∙ a.1 in (
            rw (rows_are_for, options_are given) (read_by_run table words given is),
            rw rows_are_for (values_are given),
          )

  -- an error that is not want of memory comes only where they give none
  pub error_refuses : (app : App) (e : Error) → app ≡ app_for table → has_names table ≡ true → list_all is_tame words ≡ true
      → (is_simple_and_free app ≡ true → HasKind (fault_of app words) e) → (kind_of e ≡ kind.OutOfMemory → ⊥)
      → (given : List GivenOption) → IsRead table words given → ⊥
  error_refuses app e same good tame kinds other given read =
      let a : Agrees (Some given) (fault_of (app_for table) words) (matches_of (app_for table) words) =
      subst (λ (o : Option (List GivenOption)). Agrees o (fault_of (app_for table) words) (matches_of (app_for table) words)) (run_by_read table words given good read) (parse_agrees table words tame) in
      elim (subst (λ (x : App). HasKind (fault_of x words) e) same (kinds (ap is_simple_and_free same ∙ is_known table))) [
        | inl memory ↦ other memory
        | inr among ↦ subst (IsAmong (kind_of e)) a.0 among
      ]

  -- and a word that may not stand there is among none
  pub untame_refuses : has_names table ≡ true → list_all is_tame words ≡ false → (given : List GivenOption) → IsRead table words given → ⊥
  untame_refuses good untame given read =
      let same : None ≡ Some given = sym (run_untame table settled [] words untame) ∙ run_by_read table words given good read in
      cc
