-- The keys of a policy text, and what a policy table says by them (TOML, toml.io, for what a key, a boolean and a string are; the keys are this project's own).
use Rattle.std.specs.Prelude.{ℕ, ◌-◌, Bool, true, false, List, [], ◌∷◌, slice_index_or, codes, Option, Some, None, if◌then◌else◌}
use Rattle.std.specs.Str.{bytes_eq}
use Rattle.toml.specs.Data.{Data, string, boolean, Members, get_member}
use Rattle.tag_policy.specs.declared.keys.KeyKind.{KeyKind}
use Rattle.tag_policy.specs.declared.keys.KeyKind.TheVariants.{Required, Word, Flag}
use Rattle.tag_policy.specs.declared.rules.Mode.{Mode}
use Rattle.tag_policy.specs.declared.rules.Mode.TheVariants.{Clear, Or, And}
use Rattle.tag_policy.specs.declared.rules.Rules.{Rules}

-- a key: its name, and its kind with the default
pub record PolicyKey : Type 0 where
  pub name : List ℕ
  pub kind : KeyKind

abbrev pub key : List ℕ → KeyKind → PolicyKey
key name kind = record { name = name; kind = kind }

-- outside of the policy tables
abbrev pub top_keys : List (List ℕ)
top_keys = codes "version" ∷ codes "policy" ∷ []

-- those of a policy table, in the order of their numbers from 1 on
unfoldable pub keys : List PolicyKey
keys =
    key (codes "source") Required
    ∷ key (codes "arith") (Word Or)
    ∷ key (codes "logic") (Word Or)
    ∷ key (codes "shift") (Word Or)
    ∷ key (codes "compare") (Word Or)
    ∷ key (codes "muldiv") (Word Or)
    ∷ key (codes "load_data") (Flag true)
    ∷ key (codes "load_address") (Flag false)
    ∷ key (codes "store_data") (Flag true)
    ∷ key (codes "store_address") (Flag false)
    ∷ key (codes "check_jump") (Flag false)
    ∷ key (codes "check_load_address") (Flag false)
    ∷ key (codes "check_store_address") (Flag false)
    ∷ key (codes "check_branch") (Flag false)
    ∷ key (codes "check_call_number") (Flag false)
    ∷ key (codes "check_call_argument") (Flag false)
    ∷ key (codes "check_sink") (Flag false)
    ∷ []

abbrev pub key_at : ℕ → PolicyKey
key_at number = slice_index_or keys (number - 1) (key [] Required)

-- the mode of a word
abbrev pub mode_named : List ℕ → Option Mode
mode_named word =
    if bytes_eq word (codes "none") then Some Clear else
    if bytes_eq word (codes "or") then Some Or else
    if bytes_eq word (codes "and") then Some And else
    None

abbrev pub mode_or : Mode → Option Mode → Mode
mode_or default None = default
mode_or default (Some mode) = mode

-- what a boolean key and a mode's key say, of the value that stands there
abbrev pub flag_said : KeyKind → Option Data → Bool
flag_said kind (Some (boolean b)) = b
flag_said (Flag default) None = default
flag_said kind found = false

abbrev pub mode_said : KeyKind → Option Data → Mode
mode_said (Word default) None = default
mode_said (Word default) (Some (string word)) = mode_or default (mode_named word)
mode_said kind found = Clear

abbrev pub flag_at : Members → ℕ → Bool
flag_at members number = flag_said (key_at number).kind (get_member (key_at number).name members)

abbrev pub mode_at : Members → ℕ → Mode
mode_at members number = mode_said (key_at number).kind (get_member (key_at number).name members)

-- what a policy table says of its bit
unfoldable pub rules_of_table : Members → Rules
rules_of_table members = record {
  source = flag_at members 1;
  arith = mode_at members 2;
  logic = mode_at members 3;
  shift = mode_at members 4;
  compare = mode_at members 5;
  muldiv = mode_at members 6;
  load_data = flag_at members 7;
  load_address = flag_at members 8;
  store_data = flag_at members 9;
  store_address = flag_at members 10;
  check_jump = flag_at members 11;
  check_load_address = flag_at members 12;
  check_store_address = flag_at members 13;
  check_branch = flag_at members 14;
  check_call_number = flag_at members 15;
  check_call_argument = flag_at members 16;
  check_sink = flag_at members 17;
}
