-- What the parser of command lines makes of the words, from where it stands between two of them.
use Rattle.std.specs.Prelude.{◌≡◌, [], ◌∷◌, Bool, true, false, List, map, Option, Some, None, fold}
use Rattle.clap.specs.Walk.{Held, Row, Rule, Waiting, Walk, idle, option, walked, finished, settled as settled_held}
use Rattle.clap.specs.Simple.{App, Shape, new_rule, new_shape}
use Rattle.clap.specs.Kinds.{Kinds, or_else}
use Rattle.clap.specs.Faults.{walk_fault, settle_fault, defaults_fault, check_fault}
use Rattle.clap.specs.declared.builder.action.ArgAction.TheVariants.{Set}
use Rattle.clap.specs.declared.builder.value_parser.Reading.TheVariants as reading
use Rattle.clap.specs.declared.builder.value_parser.ValueParser.TheVariants as parser
use Rattle.clap.specs.declared.parser.matches.ValueSource.TheVariants.{CommandLine}
use Rattle.command_options.specs.Given.{Known, Text, GivenOption}
use Rattle.command_options.proofs.Scan.{State, settled, waiting, pending}

-- ---- the command as the parser builds it

abbrev pub filled_rule : Text → Bool → Rule
filled_rule name required = record (new_rule name) {
  long = Some name;
  action = Some Set;
  required = required;
  parser = Some parser.String;
  range = Some (record { start_inclusive = 1; end_inclusive = 1 });
}

abbrev pub rules_for : List Known → List Rule
rules_for table = map (λ row. filled_rule row.name row.required) table

abbrev pub shape_with : List Rule → Shape
shape_with rules = record (new_shape []) {
  rules = rules;
  no_binary_name = true;
  disable_help_flag = true;
  disable_help_subcommand = true;
  is_built = true;
}

abbrev pub app_with : List Rule → App
app_with rules = record { top = shape_with rules; subs = [] }

-- ---- its matches

abbrev pub row_for : GivenOption → Row
row_for given = record {
  id = given.name;
  values = given.value ∷ [];
  count = None;
  source = Some CommandLine;
  reading = reading.AsWritten;
}

abbrev pub rows_for : List GivenOption → List Row
rows_for given = map row_for given

-- ---- where it stands

abbrev pub pending_at : State → Option (Text × List Text)
pending_at settled = None
pending_at (waiting name) = Some (name, [])
pending_at (pending name value) = Some (name, value ∷ [])

abbrev pub waiting_at : State → Waiting
waiting_at settled = idle
waiting_at (waiting name) = option name
waiting_at (pending name value) = idle

abbrev pub held_at : State → List Row → Held
held_at state rows = record { rows = rows; pending = pending_at state; skip = 0 }

abbrev pub walk_at : State → List Row → Walk
walk_at state rows = record {
  held = held_at state rows;
  waiting = waiting_at state;
  position = 1;
  is_trailing = false;
  stopped = None;
}

-- ---- what it still finds

abbrev pub end_fault : List Rule → Held → Kinds
end_fault rules held = or_else (settle_fault rules false held)
    (or_else (defaults_fault (settled_held rules held).rows rules) (check_fault (shape_with rules) (finished rules held) false))

abbrev pub walk_over : List Rule → Walk → List Text → Walk
walk_over rules walk words = fold (walked rules []) walk words

abbrev pub fault_from : List Rule → Walk → List Text → Kinds
fault_from rules walk words = or_else (walk_fault (shape_with rules) [] walk words) (end_fault rules (walk_over rules walk words).held)

abbrev pub rows_from : List Rule → Walk → List Text → List Row
rows_from rules walk words = finished rules (walk_over rules walk words).held

-- no options, where a fault comes; else no fault, and the rows of the options
abbrev pub Agrees : Option (List GivenOption) → Kinds → List Row → Type 0
Agrees None fault rows = fault ≡ [] → ⊥
Agrees (Some given) fault rows = (fault ≡ []) × (rows ≡ rows_for given)
