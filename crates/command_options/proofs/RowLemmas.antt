-- The matches of the options that are given.
use Rattle.std.proofs.Common.{◌≡◌, ◌∙◌, Bool, true, false, cond, ◌||◌, List, [], ◌∷◌, ◌++◌, map, Option, Some, None, refl, sym, ap, append-nil}
use Rattle.std.specs.Prelude.{find, is_some, option_map, option_and_then, slice_get, unwrap_or}
use Rattle.std.specs.List.{list_all}
use Rattle.std.proofs.lemmas.Bool.{and_parts}
use Rattle.clap.specs.Matches.{first_value}
use Rattle.clap.proofs.WalkLemmas.{first_value-rows}
use Rattle.clap.specs.declared.parser.matches.Found.{Found}
use Rattle.std.specs.Str.{bytes_eq}
use Rattle.std.proofs.lemmas.List.{map-append}
use Rattle.clap.specs.Walk.{Row, at_row, first_of, has_row, more_values, rows_of, with_values, without}
use Rattle.clap.specs.declared.builder.value_parser.Reading.TheVariants as reading
use Rattle.clap.specs.declared.parser.matches.ValueSource.TheVariants.{CommandLine}
use Rattle.command_options.specs.Given.{Text, GivenOption, is_given, value_given}
use Rattle.command_options.specs.Words.{have_values, option_found, options_found}
use Rattle.command_options.proofs.Scan.{option_of, with_option}
use Rattle.command_options.proofs.Parse.{row_for, rows_for}

pub or_no : (a b : Bool) → (a || b) ≡ false → (a ≡ false) × (b ≡ false)
or_no true b h = cc
or_no false b h = (refl, h)

pub has_row_is : (given : List GivenOption) (name : Text) → has_row name (rows_for given) ≡ is_given given name
has_row_is [] name = refl
has_row_is (option ∷ given) name = ap (λ (b : Bool). bytes_eq option.name name || b) (has_row_is given name)

at_row_new : (given : List GivenOption) (name : Text) (change : Row → List Row) (missing : List Row) → is_given given name ≡ false
    → at_row name change missing (rows_for given) ≡ rows_for given ++ missing
at_row_new [] name change missing new = refl
at_row_new (option ∷ given) name change missing new =
    let parts = or_no (bytes_eq option.name name) (is_given given name) new in
    rw parts.0 (ap (λ (rows : List Row). row_for option ∷ rows) (at_row_new given name change missing parts.1))

-- a first use of an option
pub used_once : (given : List GivenOption) (name value : Text) → is_given given name ≡ false
    → with_values name reading.AsWritten CommandLine (value ∷ []) (without name (rows_for given)) ≡ rows_for (with_option given name value)
used_once given name value new =
    let kept : without name (rows_for given) ≡ rows_for given = at_row_new given name (λ row. []) [] new ∙ append-nil (rows_for given) in
    rw kept (at_row_new given name (more_values CommandLine (value ∷ [])) (row_for (option_of name value) ∷ []) new ∙ sym (map-append row_for given (option_of name value ∷ [])))

-- ---- from the matches to the options

pub options_are : (given : List GivenOption) → map option_found (rows_for given) ≡ given
options_are [] = refl
options_are (option ∷ given) = ap (λ (more : List GivenOption). option ∷ more) (options_are given)

pub values_are : (given : List GivenOption) → list_all (λ (row : Row). is_some (slice_get row.values 0)) (rows_for given) ≡ true
values_are [] = refl
values_are (option ∷ given) = values_are given

some_is : {X : Type 0} (o : Option X) (other : X) → is_some o ≡ true → o ≡ Some (unwrap_or o other)
some_is None other h = cc
some_is (Some x) other h = refl

-- the value that is found for a name
first_is : (rows : List Row) (name : Text) → list_all (λ (row : Row). is_some (slice_get row.values 0)) rows ≡ true
    → first_of name rows ≡ value_given (map option_found rows) name
first_is [] name have = refl
first_is (row ∷ rows) name have =
    let parts = and_parts (is_some (slice_get row.values 0)) (list_all (λ (r : Row). is_some (slice_get r.values 0)) rows) have in
    elim (bytes_eq row.id name)
    as (λ b. option_and_then (λ (r : Row). slice_get r.values 0) (cond b (Some row) (find (λ (r : Row). bytes_eq r.id name) rows))
    ≡ option_map (λ (o : GivenOption). o.value) (cond b (Some (option_found row)) (find (λ (o : GivenOption). bytes_eq o.name name) (map option_found rows))))
    [ true ↦ some_is (slice_get row.values 0) [] parts.0 | false ↦ first_is rows name parts.1 ]

pub value_is : (found : Found) (name : Text) → have_values found ≡ true → first_value found name ≡ value_given (options_found found) name
value_is found name have = first_value-rows found name ∙ first_is (rows_of found) name have
