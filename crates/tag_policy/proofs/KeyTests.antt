-- The tests of a policy table's keys, one after another.
use Rattle.std.proofs.Common.{◌≡◌, ℕ, ◌+◌, ◌<◌, ◌≤◌, Bool, true, false, not, ◌||◌, List, [], ◌∷◌, ◌++◌, length, get_or, drop, Option, Some, None, if◌then◌else◌, refl, sym, ◌∙◌, ap, string_bytes}
use Rattle.std.proofs.lemmas.List.{drop_more, drop_all}
use Rattle.std.specs.List.{list_any}
use Rattle.std.specs.Map.{keys_of}
use Rattle.std.specs.Str.{bytes_eq}
use Rattle.toml.specs.Data.{Data, Members, get_member}
use Rattle.toml.specs.View.{members_view}
use Rattle.toml.proofs.Views.{Entry}
use Rattle.tag_policy.specs.declared.fault.PolicyFault.{PolicyFault}
use Rattle.tag_policy.specs.declared.keys.Key.{Key}
use Rattle.tag_policy.specs.Grammar.{PolicyTest, first_fault, is_among, has_other_key, value_tests, keys_tests}
use Rattle.tag_policy.specs.Keys.{keys}
use Rattle.tag_policy.specs.ReadForms.{policy_keys, names_of}

-- ---- the first fault of two lists of tests

fault_or : (one : PolicyTest) (rest : List PolicyTest) (f : PolicyFault) → (applies : Bool) → (if applies then Some one.fault else first_fault rest) ≡ Some f
    → (more : List PolicyTest) → (first_fault rest ≡ Some f → first_fault (rest ++ more) ≡ Some f) → (if applies then Some one.fault else first_fault (rest ++ more)) ≡ Some f
fault_or one rest f true e more tail = e
fault_or one rest f false e more tail = tail e

pub fault_first : (tests more : List PolicyTest) (f : PolicyFault) → first_fault tests ≡ Some f → first_fault (tests ++ more) ≡ Some f
fault_first [] more f e = cc
fault_first (one ∷ rest) more f e = fault_or one rest f one.applies e more (fault_first rest more f)

pass_or : (one : PolicyTest) (rest more : List PolicyTest) (applies : Bool) → (if applies then Some one.fault else first_fault rest) ≡ None
    → (first_fault rest ≡ None → first_fault (rest ++ more) ≡ first_fault more) → (if applies then Some one.fault else first_fault (rest ++ more)) ≡ first_fault more
pass_or one rest more true e tail = cc
pass_or one rest more false e tail = tail e

pub fault_after : (tests more : List PolicyTest) → first_fault tests ≡ None → first_fault (tests ++ more) ≡ first_fault more
fault_after [] more e = refl
fault_after (one ∷ rest) more e = pass_or one rest more one.applies e (fault_after rest more)

-- ---- one key more

split_keys : (place : ℕ) (members : Members) (keys : List Key) (i : ℕ) (d : Key) → i < length keys
    → keys_tests place members (i + 1) (policy_keys (drop i keys))
    ≡ value_tests place (i + 1) (get_or keys i d).1 (get_member (get_or keys i d).0.now members) ++ keys_tests place members (i + 1 + 1) (policy_keys (drop (i + 1) keys))
unfolding keys_tests
split_keys place members keys i d within = ap (λ rest. keys_tests place members (i + 1) (policy_keys rest)) (drop_more keys i d within)

pub keys_pass : (place : ℕ) (members : Members) (keys : List Key) (i : ℕ) (d : Key) (found : Option Data) → i < length keys
    → found ≡ get_member (get_or keys i d).0.now members
    → None ≡ first_fault (value_tests place (i + 1) (get_or keys i d).1 found)
    → first_fault (keys_tests place members (i + 1) (policy_keys (drop i keys))) ≡ first_fault (keys_tests place members (i + 1 + 1) (policy_keys (drop (i + 1) keys)))
keys_pass place members keys i d found within at passes =
    let here : first_fault (value_tests place (i + 1) (get_or keys i d).1 (get_member (get_or keys i d).0.now members)) ≡ None =
    ap (λ value. first_fault (value_tests place (i + 1) (get_or keys i d).1 value)) (sym at) ∙ sym passes in
    ap first_fault (split_keys place members keys i d within)
    ∙ fault_after (value_tests place (i + 1) (get_or keys i d).1 (get_member (get_or keys i d).0.now members))
    (keys_tests place members (i + 1 + 1) (policy_keys (drop (i + 1) keys))) here

pub keys_fail : (place : ℕ) (members : Members) (keys : List Key) (i : ℕ) (d : Key) (found : Option Data) (f : PolicyFault) → i < length keys
    → found ≡ get_member (get_or keys i d).0.now members
    → Some f ≡ first_fault (value_tests place (i + 1) (get_or keys i d).1 found)
    → first_fault (keys_tests place members (i + 1) (policy_keys (drop i keys))) ≡ Some f
keys_fail place members keys i d found f within at fails =
    let here : first_fault (value_tests place (i + 1) (get_or keys i d).1 (get_member (get_or keys i d).0.now members)) ≡ Some f =
    ap (λ value. first_fault (value_tests place (i + 1) (get_or keys i d).1 value)) (sym at) ∙ sym fails in
    ap first_fault (split_keys place members keys i d within)
    ∙ fault_first (value_tests place (i + 1) (get_or keys i d).1 (get_member (get_or keys i d).0.now members))
    (keys_tests place members (i + 1 + 1) (policy_keys (drop (i + 1) keys))) f here

pub keys_end : (place : ℕ) (members : Members) (keys : List Key) (i : ℕ) → length keys ≤ i → first_fault (keys_tests place members (i + 1) (policy_keys (drop i keys))) ≡ None
unfolding keys_tests
keys_end place members keys i past = ap (λ rest. first_fault (keys_tests place members (i + 1) (policy_keys rest))) (drop_all i keys past)

-- ---- a key that is none of these

known_is : (name : List ℕ) (keys : List Key) → list_any (λ k. bytes_eq name k.0.now) keys ≡ is_among (names_of keys) name
known_is name [] = refl
known_is name (k ∷ keys) = ap (λ rest. bytes_eq name k.0.now || rest) (known_is name keys)

pub other_key_is : (own : List Key) (entries : List Entry)
    → list_any (λ name. not (list_any (λ k. bytes_eq (string_bytes name) k.0.now) own)) (keys_of entries) ≡ has_other_key (names_of own) (members_view entries)
other_key_is own [] = refl
other_key_is own (entry ∷ entries) =
    ap (λ known. not known || list_any (λ name. not (list_any (λ k. bytes_eq (string_bytes name) k.0.now) own)) (keys_of entries)) (known_is (string_bytes entry.0) own)
    ∙ ap (λ rest. not (is_among (names_of own) (string_bytes entry.0)) || rest) (other_key_is own entries)

pub other_known : (own : List Key) (entries : List Entry) (other answer : Bool)
    → other ≡ list_any (λ name. not (list_any (λ k. bytes_eq (string_bytes name) k.0.now) own)) (keys_of entries) → other ≡ answer
    → has_other_key (names_of own) (members_view entries) ≡ answer
other_known own entries other answer e h = sym (other_key_is own entries) ∙ sym e ∙ h
