-- What holds of all words (this project's own).
use Rattle.std.specs.Prelude.{◌≡◌, ◌&&◌, true, Bool, List, IsSome}
use Rattle.std.specs.List.{list_any}
use Rattle.std.specs.Str.{bytes_eq}
use Rattle.command_options.specs.Given.{Known, Text, GivenOption, IsRead, has_names, value_given}

-- words give one list of options at most
abbrev pub ReadOnce : Type 0
ReadOnce = (table : List Known) (words : List Text) (one other : List GivenOption) → has_names table ≡ true
    → IsRead table words one → IsRead table words other → one ≡ other

abbrev pub is_required : List Known → Text → Bool
is_required table name = list_any (λ row. row.required && bytes_eq row.name name) table

-- a required option has a value
abbrev pub RequiredGiven : Type 0
RequiredGiven = (table : List Known) (words : List Text) (given : List GivenOption) (name : Text) → IsRead table words given
    → is_required table name ≡ true → IsSome (value_given given name)
