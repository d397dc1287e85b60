-- What a policy text means: a list of tests, of which the first that applies is its fault, and else its policy
-- (which bytes are a document, and which table they give, is as TOML, toml.io, in the reading of the kit's `toml`; the tests are this project's own).
use Rattle.std.specs.Prelude.{ℕ, ◌+◌, ℤ, pos, negsuc, Bool, true, false, not, ◌==◌, nat_lt, List, [], ◌∷◌, ◌++◌, length, map, codes, Option, Some, None, Result, Ok, Err, if◌then◌else◌}
use Rattle.std.specs.List.{list_any}
use Rattle.std.specs.Option.{is_none, option_and_then}
use Rattle.std.specs.Str.{bytes_eq}
use Rattle.std.specs.Str.Lossy.{utf8_valid_len}
use Rattle.toml.specs.Data.{Data, string, Items, no_items, item, Members, no_members, member, get_member, as_str, as_integer, as_bool, as_array, as_table}
use Rattle.toml.specs.Parse.{parse_document}
use Rattle.tag_policy.specs.declared.fault.PolicyKind.{PolicyKind}
use Rattle.tag_policy.specs.declared.fault.PolicyKind.TheVariants.{Text, UnknownKey, MissingKey, WrongKind, TooMany, BadValue}
use Rattle.tag_policy.specs.declared.fault.PolicyFault.{PolicyFault}
use Rattle.tag_policy.specs.declared.fault.PolicyFault.TheVariants.{Bad}
use Rattle.tag_policy.specs.declared.keys.KeyKind.{KeyKind}
use Rattle.tag_policy.specs.declared.keys.KeyKind.TheVariants.{Required, Word}
use Rattle.tag_policy.specs.declared.rules.Version.{Version}
use Rattle.tag_policy.specs.declared.rules.Version.TheVariants.{WordTags, ByteTags}
use Rattle.tag_policy.specs.declared.rules.Rules.{Rules}
use Rattle.tag_policy.specs.Rules.{PolicySeen}
use Rattle.tag_policy.specs.Keys.{PolicyKey, top_keys, keys, mode_named, rules_of_table}

-- a test's answer, with the fault that it finds, and the first fault that is found
pub record PolicyTest : Type 0 where
  pub applies : Bool
  pub fault : PolicyFault

abbrev pub test : Bool → PolicyKind → ℕ → ℕ → PolicyTest
test applies kind place number = record { applies = applies; fault = Bad kind place number }

abbrev pub first_fault : List PolicyTest → Option PolicyFault
first_fault [] = None
first_fault (one ∷ rest) = if one.applies then Some one.fault else first_fault rest

-- a key that is none of these
abbrev pub names_in : Members → List (List ℕ)
names_in no_members = []
names_in (member name value rest) = name ∷ names_in rest

abbrev pub is_among : List (List ℕ) → List ℕ → Bool
is_among names name = list_any (λ known. bytes_eq name known) names

abbrev pub has_other_key : List (List ℕ) → Members → Bool
has_other_key names members = list_any (λ name. not (is_among names name)) (names_in members)

-- ---- one key of a policy table, with what stands at it

abbrev pub lacks : KeyKind → Option Data → Bool
lacks Required None = true
lacks kind found = false

abbrev pub has_other_kind : KeyKind → Option Data → Bool
has_other_kind kind None = false
has_other_kind (Word default) (Some value) = is_none (as_str value)
has_other_kind kind (Some value) = is_none (as_bool value)

abbrev pub has_other_word : KeyKind → Option Data → Bool
has_other_word (Word default) (Some (string word)) = is_none (mode_named word)
has_other_word kind found = false

abbrev pub value_tests : ℕ → ℕ → KeyKind → Option Data → List PolicyTest
value_tests place number kind found =
    test (lacks kind found) MissingKey place number
    ∷ test (has_other_kind kind found) WrongKind place number
    ∷ test (has_other_word kind found) BadValue place number
    ∷ []

-- ---- one policy table, the place-th: all its keys, then key by key

unfoldable pub keys_tests : ℕ → Members → ℕ → List PolicyKey → List PolicyTest
keys_tests place inner number [] = []
keys_tests place inner number (key ∷ rest) =
    value_tests place number key.kind (get_member key.name inner) ++ keys_tests place inner (number + 1) rest

unfoldable pub key_names : List (List ℕ)
key_names = map (λ key. key.name) keys

unfoldable pub table_tests : ℕ → Members → List PolicyTest
table_tests place members = test (has_other_key key_names members) UnknownKey place 0 ∷ keys_tests place members 1 keys

abbrev pub members_in : Option Members → Members
members_in None = no_members
members_in (Some members) = members

abbrev pub item_tests : ℕ → Data → List PolicyTest
item_tests place value = test (is_none (as_table value)) WrongKind place 0 ∷ table_tests place (members_in (as_table value))

unfoldable pub items_tests : ℕ → List Data → List PolicyTest
items_tests place [] = []
items_tests place (value ∷ rest) = item_tests place value ++ items_tests (place + 1) rest

-- ---- the document

abbrev pub version_numbered : ℤ → Option Version
version_numbered (pos n) = if n == 1 then Some WordTags else if n == 2 then Some ByteTags else None
version_numbered (negsuc n) = None

abbrev pub version_said : Option Data → Option Version
version_said found = option_and_then version_numbered (option_and_then as_integer found)

abbrev pub version_tests : Option Data → List PolicyTest
version_tests found =
    test (is_none found) MissingKey 0 1
    ∷ test (is_none (option_and_then as_integer found)) WrongKind 0 1
    ∷ test (is_none (version_said found)) BadValue 0 1
    ∷ []

abbrev pub listed : Items → List Data
listed no_items = []
listed (item value rest) = value ∷ listed rest

abbrev pub items_in : Option Items → List Data
items_in None = []
items_in (Some items) = listed items

-- the items of the array that stands at a key
abbrev pub items_at : Option Data → List Data
items_at found = items_in (option_and_then as_array found)

abbrev pub array_tests : Option Data → List PolicyTest
array_tests found =
    test (is_none found) MissingKey 0 2
    ∷ test (is_none (option_and_then as_array found)) WrongKind 0 2
    ∷ test (nat_lt 4 (length (items_at found))) TooMany 0 2
    ∷ []

abbrev pub policy_tests : Option Data → List PolicyTest
policy_tests found = array_tests found ++ items_tests 1 (items_at found)

abbrev pub document_tests : Members → List PolicyTest
document_tests members =
    test (has_other_key top_keys members) UnknownKey 0 0
    ∷ version_tests (get_member (codes "version") members)
    ++ policy_tests (get_member (codes "policy") members)

-- ---- the policy

abbrev pub version_or : Option Version → Version
version_or None = WordTags
version_or (Some version) = version

abbrev pub rules_of_item : Data → Rules
rules_of_item value = rules_of_table (members_in (as_table value))

abbrev pub policy_of_document : Members → PolicySeen
policy_of_document members = record {
  version = version_or (version_said (get_member (codes "version") members));
  rules = map rules_of_item (items_at (get_member (codes "policy") members));
}

-- the fault, or what is meant where there is none
abbrev pub judged : {A : Type 0} → Option PolicyFault → A → Result A PolicyFault
judged None meaning = Ok meaning
judged (Some fault) meaning = Err fault

-- the table that the bytes are
abbrev pub document_of : List ℕ → Option Members
document_of bytes = if utf8_valid_len bytes == length bytes then parse_document bytes else None

abbrev pub policy_in_document : Option Members → Result PolicySeen PolicyFault
policy_in_document None = Err (Bad Text 0 0)
policy_in_document (Some members) = judged (first_fault (document_tests members)) (policy_of_document members)

unfoldable pub policy_of : List ℕ → Result PolicySeen PolicyFault
policy_of bytes = policy_in_document (document_of bytes)
