-- The command of a table: that it is one whose matches and faults are known, and how its options are found.
use Rattle.std.proofs.Common.{◌≡◌, ◌∙◌, ℕ, ◌+◌, ◌<◌, length, take, get_or, add-one, Bool, true, false, cond, not, ◌&&◌, ◌||◌, List, [], ◌∷◌, ◌++◌, map, Option, Some, None, refl, sym, ap}
use Rattle.std.specs.Prelude.{find, fold, is_some}
use Rattle.std.specs.Option.{option_map_or}
use Rattle.clap.specs.Facts.{explicit_source}
use Rattle.std.specs.List.{list_all, list_any}
use Rattle.std.specs.Str.{bytes_eq}
use Rattle.std.proofs.lemmas.List.{map-append}
use Rattle.std.proofs.Math.Seq.{take-suc}
use Rattle.std.proofs.lemmas.Slice.Eq.{bytes_eq-Decides}
use Rattle.clap.specs.Walk.{Rule, Row, arg_by_id, arg_by_long, arg_by_index, is_early_multiple, nothing_held, walk, with_default, has_row, finished}
use Rattle.clap.specs.Words.{new_app, with_rule}
use Rattle.clap.specs.Simple.{filled_from, is_simple}
use Rattle.clap.specs.Takes.{is_given as is_explicit_in}
use Rattle.clap.specs.Faults.{fault_of, built_fault, level_fault, is_simple_and_free, entered_fault, defaults_fault}
use Rattle.clap.specs.Simple.{entered, matches_of}
use Rattle.command_options.specs.declared.options.OptionRow.{OptionRow}
use Rattle.command_options.specs.Given.{Known, known, known_in, Text, GivenOption, is_listed, is_given, has_required}
use Rattle.command_options.specs.Words.{rule_for, app_for}
use Rattle.command_options.proofs.Parse.{filled_rule, rules_for, shape_with, app_with, row_for, rows_for}

-- ---- the command that is made

app_more : (table : List OptionRow) (row : OptionRow) → with_rule (app_for (known_in table)) (rule_for (known row)) ≡ app_for (known_in (table ++ row ∷ []))
app_more table row = ap (λ (rules : List Rule). record { top = record (new_app []).top { rules = rules; no_binary_name = true; disable_help_flag = true }; subs = [] })
    (sym (ap (map rule_for) (map-append known table (row ∷ [])) ∙ map-append rule_for (known_in table) (known row ∷ [])))

pub app_taken : (table : List OptionRow) (place : ℕ) (row : OptionRow) → place < length table
    → with_rule (app_for (known_in (take place table))) (rule_for (known (get_or table place row))) ≡ app_for (known_in (take (place + 1) table))
app_taken table place row h = app_more (take place table) (get_or table place row) ∙ ap (λ (rows : List OptionRow). app_for (known_in rows)) (sym (rw add-one (take-suc table place row h)))

-- ---- the command that is built

filled_is : (place : ℕ) (table : List Known) → filled_from place (map rule_for table) ≡ rules_for table
filled_is place [] = refl
filled_is place (row ∷ table) = ap (λ (rules : List Rule). filled_rule row.name row.required ∷ rules) (filled_is place table)

rules_are_simple : (table : List Known) → list_all (λ (a : Rule). a.is_simple) (map rule_for table) ≡ true
rules_are_simple [] = refl
rules_are_simple (row ∷ table) = rules_are_simple table

filled_are_simple : (table : List Known) → list_all (λ (a : Rule). a.is_simple) (rules_for table) ≡ true
filled_are_simple [] = refl
filled_are_simple (row ∷ table) = filled_are_simple table

filled_are_free : (table : List Known) → list_all (λ (a : Rule). a.is_free) (rules_for table) ≡ true
filled_are_free [] = refl
filled_are_free (row ∷ table) = filled_are_free table

none_early : (n : ℕ) (table : List Known) → list_any (is_early_multiple n) (rules_for table) ≡ false
none_early n [] = refl
none_early n (row ∷ table) = none_early n table

pub is_known : (table : List Known) → is_simple_and_free (app_for table) ≡ true
is_known table = rw (filled_is 1 table, rules_are_simple table, filled_are_simple table, none_early _ table, filled_are_free table) refl

pub is_simple_app : (table : List Known) → is_simple (app_for table) ≡ true
is_simple_app table = rw (filled_is 1 table, rules_are_simple table, filled_are_simple table, none_early _ table) refl

no_subcommand : (rules : List Rule) (words : List Text) → built_fault (app_with rules) nothing_held words ≡ level_fault (shape_with rules) [] nothing_held words false []
no_subcommand rules words = go (walk rules [] nothing_held words).stopped
  where
    go : (stop : Option (Text × List Text)) → level_fault (shape_with rules) [] nothing_held words (is_some (entered (app_with rules) stop)) (entered_fault (app_with rules) stop)
        ≡ level_fault (shape_with rules) [] nothing_held words false []
    go None = refl
    go (Some p) = refl

pub fault_is : (table : List Known) (words : List Text) → fault_of (app_for table) words ≡ level_fault (shape_with (rules_for table)) [] nothing_held words false []
fault_is table words = ap (λ (rules : List Rule). built_fault (app_with rules) nothing_held words) (filled_is 1 table) ∙ no_subcommand (rules_for table) words

pub rows_are : (table : List Known) (words : List Text) → matches_of (app_for table) words ≡ finished (rules_for table) (walk (rules_for table) [] nothing_held words).held
rows_are table words = ap (λ (rules : List Rule). finished rules (walk rules [] nothing_held words).held) (filled_is 1 table)

-- ---- its options, by their names

pub record IsRule (found : Option Rule) (name : Text) : Type 0 where
  pub required : Bool
  pub is : found ≡ Some (filled_rule name required)

pub by_id : (table : List Known) (name : Text) → is_listed table name ≡ true → IsRule (arg_by_id (rules_for table) name) name
by_id [] name h = cc
by_id (row ∷ table) name h = go (bytes_eq row.name name) refl h (by_id table name)
  where
    go : (b : Bool) → bytes_eq row.name name ≡ b → (b || is_listed table name) ≡ true
        → (is_listed table name ≡ true → IsRule (arg_by_id (rules_for table) name) name)
        → IsRule (cond b (Some (filled_rule row.name row.required)) (arg_by_id (rules_for table) name)) name
    go true e k more = record { required = row.required; is = ap (λ (n : Text). Some (filled_rule n row.required)) ((bytes_eq-Decides row.name name).0 e) }
    go false e k more = more k

pub by_long : (table : List Known) (name : Text) → is_listed table name ≡ true → IsRule (arg_by_long (rules_for table) name) name
by_long [] name h = cc
by_long (row ∷ table) name h = go (bytes_eq row.name name) refl h (by_long table name)
  where
    go : (b : Bool) → bytes_eq row.name name ≡ b → (b || is_listed table name) ≡ true
        → (is_listed table name ≡ true → IsRule (arg_by_long (rules_for table) name) name)
        → IsRule (cond (b || false) (Some (filled_rule row.name row.required)) (arg_by_long (rules_for table) name)) name
    go true e k more = record { required = row.required; is = ap (λ (n : Text). Some (filled_rule n row.required)) ((bytes_eq-Decides row.name name).0 e) }
    go false e k more = more k

pub not_by_long : (table : List Known) (name : Text) → is_listed table name ≡ false → arg_by_long (rules_for table) name ≡ None
not_by_long [] name h = refl
not_by_long (row ∷ table) name h = go (bytes_eq row.name name) h (not_by_long table name)
  where
    go : (b : Bool) → (b || is_listed table name) ≡ false
        → (is_listed table name ≡ false → arg_by_long (rules_for table) name ≡ None)
        → cond (b || false) (Some (filled_rule row.name row.required)) (arg_by_long (rules_for table) name) ≡ None
    go true k more = cc
    go false k more = more k

pub no_positional : (table : List Known) (place : ℕ) → arg_by_index (rules_for table) place ≡ None
no_positional [] place = refl
no_positional (row ∷ table) place = no_positional table place

-- ---- its end: no option has a default, and each that is required is looked for

or_true : (b : Bool) → (b || true) ≡ true
or_true true = refl
or_true false = refl

cond_same : {X : Type 0} (b : Bool) (x : X) → cond b x x ≡ x
cond_same true x = refl
cond_same false x = refl

pub no_defaults : (rows : List Row) (table : List Known) → defaults_fault rows (rules_for table) ≡ []
unfolding defaults_fault
no_defaults rows [] = refl
no_defaults rows (row ∷ table) =
    let here = or_true (has_row row.name rows) in
    rw here (no_defaults (with_default rows (filled_rule row.name row.required)) table)

pub none_added : (rows : List Row) (table : List Known) → fold with_default rows (rules_for table) ≡ rows
none_added rows [] = refl
none_added rows (row ∷ table) =
    ap (λ (r : List Row). fold with_default r (rules_for table)) (cond_same (has_row row.name rows) rows) ∙ none_added rows table

pub is_in_rows : (given : List GivenOption) (name : Text) → is_explicit_in name (rows_for given) ≡ is_given given name
is_in_rows [] name = refl
is_in_rows (option ∷ given) name =
    elim (bytes_eq option.name name)
    as (λ b. option_map_or (λ (r : Row). explicit_source r.source) (cond b (Some (row_for option)) (find (λ (r : Row). bytes_eq r.id name) (rows_for given))) false ≡ (b || is_given given name))
    [ true ↦ refl | false ↦ is_in_rows given name ]

lacks_one : (required given rest : Bool) → ((required && not given) || not rest) ≡ not ((not required || given) && rest)
lacks_one true true rest = refl
lacks_one true false rest = refl
lacks_one false given rest = refl

pub lacks_required : (table : List Known) (given : List GivenOption)
    → list_any (λ (a : Rule). a.required && not (is_explicit_in a.id (rows_for given))) (rules_for table) ≡ not (has_required table given)
lacks_required [] given = refl
lacks_required (row ∷ table) given =
    rw (is_in_rows given row.name, lacks_required table given) (lacks_one row.required (is_given given row.name) (has_required table given))
