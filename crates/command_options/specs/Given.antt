-- Which options the words of a command give (this project's own; their spellings are those of long options with a value in GNU's `getopt_long`).
use Rattle.std.specs.Prelude.{◌≡◌, ◌⊎◌, ◌==◌, ◌&&◌, ◌||◌, ℕ, Bool, true, false, not, List, [], ◌∷◌, ◌++◌, Option, find, map, option_map}
use Rattle.std.specs.List.{list_all, list_any}
use Rattle.std.specs.Str.{bytes_eq}
use Rattle.command_options.specs.declared.options.OptionRow.{OptionRow}

abbrev pub Text : Type 0
Text = List ℕ

-- ---- options that a command knows; 45 is `-`, and 61 is `=`

-- an option that a command knows
pub record Known : Type 0 where
  pub name : Text
  pub required : Bool

-- one that the words must give, and one that they may give
abbrev pub required_option : Text → Known
required_option name = record { name = name; required = true }

abbrev pub other_option : Text → Known
other_option name = record { name = name; required = false }

-- what a row tells, and a table
abbrev pub known : OptionRow → Known
known row = record { name = row.name.now; required = row.required }

abbrev pub known_in : List OptionRow → List Known
known_in table = map known table

-- a name is not empty, and has no `=`
abbrev pub is_name : Text → Bool
is_name [] = false
is_name (byte ∷ rest) = not (list_any (λ b. b == 61) (byte ∷ rest))

abbrev pub has_names : List Known → Bool
has_names table = list_all (λ row. is_name row.name) table

-- a value is not empty, and does not begin with `-`
abbrev pub is_value : Text → Bool
is_value [] = false
is_value (byte ∷ rest) = not (byte == 45)

-- ---- options that are given

pub record GivenOption : Type 0 where
  pub name : Text
  pub value : Text

-- `--name=value`
abbrev pub one_word : GivenOption → Text
one_word option = 45 ∷ 45 ∷ (option.name ++ 61 ∷ option.value)

-- `--name`, which stands before the value
abbrev pub name_word : GivenOption → Text
name_word option = 45 ∷ 45 ∷ option.name

-- the words are those of the options in their order, each as one word or as two
abbrev pub Spells : List GivenOption → List Text → Type 0
Spells [] words = words ≡ []
Spells (option ∷ given) words = (rest : List Text)
    × ((words ≡ one_word option ∷ rest) ⊎ (words ≡ name_word option ∷ option.value ∷ rest)) × Spells given rest

abbrev pub is_listed : List Known → Text → Bool
is_listed table name = list_any (λ row. bytes_eq row.name name) table

abbrev pub is_given : List GivenOption → Text → Bool
is_given given name = list_any (λ option. bytes_eq option.name name) given

-- no name stands twice, among the options and those before them
abbrev pub are_new : List GivenOption → List GivenOption → Bool
are_new before [] = true
are_new before (option ∷ given) = not (is_given before option.name) && are_new (before ++ option ∷ []) given

-- each option that the table requires is given
abbrev pub has_required : List Known → List GivenOption → Bool
has_required table given = list_all (λ row. not row.required || is_given given row.name) table

-- the words give these options, under the table
pub record IsRead (table : List Known) (words : List Text) (given : List GivenOption) : Type 0 where
  pub spelled : Spells given words
  pub listed : list_all (λ option. is_listed table option.name) given ≡ true
  pub values : list_all (λ option. is_value option.value) given ≡ true
  pub once : are_new [] given ≡ true
  pub required : has_required table given ≡ true

-- the value of a name
abbrev pub value_given : List GivenOption → Text → Option Text
value_given given name = option_map (λ option. option.value) (find (λ option. bytes_eq option.name name) given)
