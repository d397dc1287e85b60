-- The definition of policy texts tried on texts, by computation.
use Rattle.std.proofs.Common.{◌≡◌, ℕ, true, false, List, [], ◌∷◌, ◌++◌, Ok, Err, refl, codes}
use Rattle.std.specs.Prelude.{⊤}
use Rattle.std.specs.Str.{is_utf8, chars}
use Rattle.std.specs.Str.Lossy.{utf8_valid_len}
use Rattle.toml.proofs.OnLiterals.{toml_on_literals}
use Rattle.tag_policy.specs.declared.fault.PolicyFault.TheVariants.{Bad}
use Rattle.tag_policy.specs.declared.fault.PolicyKind.TheVariants.{Text, UnknownKey, MissingKey, WrongKind, TooMany, BadValue}
use Rattle.tag_policy.specs.declared.rules.Mode.TheVariants.{Clear, And}
use Rattle.tag_policy.specs.declared.rules.Version.TheVariants.{WordTags, ByteTags}
use Rattle.tag_policy.specs.Policies.{line, standard_text, standard_policy, standard_rules}
use Rattle.tag_policy.specs.Keys.{keys, rules_of_table}
use Rattle.tag_policy.specs.Grammar.{keys_tests, key_names, table_tests, items_tests, policy_of}

unfoldable texts_compute : ⊤
unfolding policy_of toml_on_literals utf8_valid_len is_utf8 chars keys key_names rules_of_table keys_tests table_tests items_tests
texts_compute = tt

pub standard_reads : policy_of standard_text ≡ Ok standard_policy
unfolding standard_text texts_compute
standard_reads = refl

-- ---- one text for each fault, and texts that are read

abbrev version_1 : List ℕ
version_1 = line (codes "version = 1")

no_version : policy_of ([]) ≡ Err (Bad MissingKey 0 1)
unfolding texts_compute
no_version = refl

no_text : policy_of ((255 ∷ [])) ≡ Err (Bad Text 0 0)
unfolding texts_compute
no_text = refl

no_document : policy_of (line (codes "version")) ≡ Err (Bad Text 0 0)
unfolding texts_compute
no_document = refl

extra_key : policy_of (version_1 ++ line (codes "policy = []") ++ line (codes "extra = 1")) ≡ Err (Bad UnknownKey 0 0)
unfolding texts_compute
extra_key = refl

version_in_quotes : policy_of (line (codes "version = '1'")) ≡ Err (Bad WrongKind 0 1)
unfolding texts_compute
version_in_quotes = refl

version_true : policy_of (line (codes "version = true")) ≡ Err (Bad WrongKind 0 1)
unfolding texts_compute
version_true = refl

version_three : policy_of (line (codes "version = 3")) ≡ Err (Bad BadValue 0 1)
unfolding texts_compute
version_three = refl

no_policy : policy_of (version_1) ≡ Err (Bad MissingKey 0 2)
unfolding texts_compute
no_policy = refl

policy_is_a_number : policy_of (version_1 ++ line (codes "policy = 3")) ≡ Err (Bad WrongKind 0 2)
unfolding texts_compute
policy_is_a_number = refl

policy_is_a_table : policy_of (version_1 ++ line (codes "policy = {}")) ≡ Err (Bad WrongKind 0 2)
unfolding texts_compute
policy_is_a_table = refl

item_is_a_number : policy_of (version_1 ++ line (codes "policy = [1]")) ≡ Err (Bad WrongKind 1 0)
unfolding texts_compute
item_is_a_number = refl

five_items_that_are_no_tables : policy_of (version_1 ++ line (codes "policy = [1, 1, 1, 1, 1]")) ≡ Err (Bad TooMany 0 2)
unfolding texts_compute
five_items_that_are_no_tables = refl

unknown_key : policy_of (version_1 ++ line (codes "policy = [{sourc = true}]")) ≡ Err (Bad UnknownKey 1 0)
unfolding texts_compute
unknown_key = refl

no_source : policy_of (version_1 ++ line (codes "policy = [{}]")) ≡ Err (Bad MissingKey 1 1)
unfolding texts_compute
no_source = refl

source_is_a_number : policy_of (version_1 ++ line (codes "policy = [{source = 1}]")) ≡ Err (Bad WrongKind 1 1)
unfolding texts_compute
source_is_a_number = refl

sink_is_a_word : policy_of (version_1 ++ line (codes "policy = [{source = true, check_sink = 'x'}]")) ≡ Err (Bad WrongKind 1 17)
unfolding texts_compute
sink_is_a_word = refl

mode_xor : policy_of (version_1 ++ line (codes "policy = [{source = true, arith = 'xor'}]")) ≡ Err (Bad BadValue 1 2)
unfolding texts_compute
mode_xor = refl

mode_is_a_boolean : policy_of (version_1 ++ line (codes "policy = [{source = true, muldiv = true}]")) ≡ Err (Bad WrongKind 1 6)
unfolding texts_compute
mode_is_a_boolean = refl

second_table : policy_of (version_1 ++ line (codes "policy = [{source = true}, {source = true, logic = 'xor', check_sink = 1}]")) ≡ Err (Bad BadValue 2 3)
unfolding texts_compute
second_table = refl

first_of_two_tables : policy_of (version_1 ++ line (codes "policy = [{source = true, check_sink = 1}, 1]")) ≡ Err (Bad WrongKind 1 17)
unfolding texts_compute
first_of_two_tables = refl

no_policies : policy_of (version_1 ++ line (codes "policy = []")) ≡ Ok (record { version = WordTags; rules = [] })
unfolding texts_compute
no_policies = refl

byte_tags : policy_of (line (codes "version = 2") ++ line (codes "policy = [{source = true, check_jump = true, check_call_number = true}]")) ≡ Ok (record { version = ByteTags; rules = standard_rules ∷ [] })
unfolding texts_compute
byte_tags = refl

all_modes : policy_of (version_1 ++ line (codes "policy = [{source = false, arith = 'none', logic = 'and', shift = 'or', load_address = true, store_data = false}]")) ≡ Ok (record { version = WordTags; rules = record standard_rules { source = false; arith = Clear; logic = And; load_address = true; store_data = false; check_jump = false; check_call_number = false } ∷ [] })
unfolding texts_compute
all_modes = refl
