-- The words read one by one, as a function that stands between the definition and the parser of command lines.
use Rattle.std.specs.Prelude.{◌∷◌, ◌++◌, [], List, Option, Some, None, if◌then◌else◌, option_and_then}
use Rattle.clap.specs.Lexer.{long_of}
use Rattle.command_options.specs.Given.{Known, Text, GivenOption, is_value, is_listed, is_given, has_required}

-- what a word is by itself
pub data Token : Type 0 where
  bad : Token
  plain : Token
  flag : Text → Token
  whole : Text → Text → Token

abbrev pub token_of_value : Text → Option Text → Token
token_of_value name None = flag name
token_of_value name (Some value) = if is_value value then whole name value else bad

abbrev pub token_of_long : Option (Text × Option Text) → Token
token_of_long None = bad
token_of_long (Some p) = token_of_value p.0 p.1

abbrev pub token : Text → Token
token word = if is_value word then plain else token_of_long (long_of word)

-- what the words before left: nothing, an option without its value, or one whose name is not yet tested
pub data State : Type 0 where
  settled : State
  waiting : Text → State
  pending : Text → Text → State

abbrev pub option_of : Text → Text → GivenOption
option_of name value = record { name = name; value = value }

abbrev pub with_option : List GivenOption → Text → Text → List GivenOption
with_option before name value = before ++ option_of name value ∷ []

abbrev pub settle : State → List GivenOption → Option (List GivenOption)
settle settled before = Some before
settle (waiting name) before = None
settle (pending name value) before = if is_given before name then None else Some (with_option before name value)

abbrev pub Next : Type 0
Next = State → List GivenOption → Option (List GivenOption)

abbrev pub on_whole : List Known → Text → Text → Next → List GivenOption → Option (List GivenOption)
on_whole table name value next before =
    if is_listed table name then (if is_given before name then None else next settled (with_option before name value))
    else None

abbrev pub on_flag : List Known → Text → Next → List GivenOption → Option (List GivenOption)
on_flag table name next before = if is_listed table name then next (waiting name) before else None

abbrev pub on_plain : State → Text → Next → List GivenOption → Option (List GivenOption)
on_plain settled word next before = None
on_plain (waiting name) word next before = next (pending name word) before
on_plain (pending name value) word next before = None

abbrev pub turn : List Known → State → List GivenOption → Text → Token → Next → Option (List GivenOption)
turn table state before word bad next = None
turn table state before word plain next = on_plain state word next before
turn table state before word (flag name) next = option_and_then (on_flag table name next) (settle state before)
turn table state before word (whole name value) next = option_and_then (on_whole table name value next) (settle state before)

abbrev pub finish : List Known → List GivenOption → Option (List GivenOption)
finish table given = if has_required table given then Some given else None

abbrev pub run : List Known → State → List GivenOption → List Text → Option (List GivenOption)
run table state before [] = option_and_then (finish table) (settle state before)
run table state before (word ∷ words) = turn table state before word (token word) (λ s given. run table s given words)
