-- What words look like to the parser of command lines, the command that it is given, and the options that it finds (this project's own, in the words of the kit's `clap`).
use Rattle.std.specs.Prelude.{◌||◌, [], Bool, true, false, List, map, Option, Some, is_some, slice_get, unwrap_or}
use Rattle.std.specs.Option.{option_map_or}
use Rattle.std.specs.List.{list_all}
use Rattle.clap.specs.Lexer.{long_of}
use Rattle.clap.specs.Words.{App, Row, Rule, new_app, new_rule, rows_of}
use Rattle.clap.specs.declared.parser.matches.Found.{Found}
use Rattle.clap.specs.declared.builder.action.ArgAction.TheVariants.{Set}
use Rattle.command_options.specs.Given.{Known, Text, GivenOption, is_value}

-- a value that a word has after its `=` may stand there
abbrev pub has_good_value : Option (Text × Option Text) → Bool
has_good_value long = option_map_or (λ p. option_map_or is_value p.1 true) long false

-- the word may stand where options are spelled: it may be a value, or it is `--name` or `--name=value`
abbrev pub is_tame : Text → Bool
is_tame word = is_value word || has_good_value (long_of word)

-- an option as an argument of the command
abbrev pub rule_for : Known → Rule
rule_for row = record (new_rule row.name) { long = Some row.name; action = Some Set; required = row.required }

-- a command with these options, which reads words without its own name and knows no `--help`
abbrev pub app_for : List Known → App
app_for table = record {
  top = record (new_app []).top { rules = map rule_for table; no_binary_name = true; disable_help_flag = true };
  subs = [];
}

-- an option that was found
abbrev pub option_found : Row → GivenOption
option_found row = record { name = row.id; value = unwrap_or (slice_get row.values 0) [] }

abbrev pub options_found : Found → List GivenOption
options_found found = map option_found (rows_of found)

-- each option that was found has a value
abbrev pub have_values : Found → Bool
have_values found = list_all (λ row. is_some (slice_get row.values 0)) (rows_of found)
