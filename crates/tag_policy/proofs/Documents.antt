-- The tests of a document, part by part, and what its parts say.
use Rattle.std.proofs.Common.{◌≡◌, ℕ, ◌+◌, ◌<◌, ◌≤◌, Bool, true, false, not, ◌||◌, List, [], ◌∷◌, ◌++◌, length, get_or, drop, take, map, Option, Some, None, Result, Ok, Err, option_map, string_bytes, Bor, Vec, Global, refl, sym, ◌∙◌, ap, codes, min, arith}
use Rattle.std.proofs.lemmas.Bool.{lt-ltb, le-ltb}
use Rattle.std.proofs.lemmas.List.{length-map, length-take, drop_more, drop_all, take_more}
use Rattle.std.specs.List.{list_any}
use Rattle.std.specs.Map.{keys_of}
use Rattle.toml.specs.Data.{Data, Members, get_member, as_array}
use Rattle.toml.specs.View.{view, items_view, array_view, members_view}
use Rattle.toml.specs.declared.value.Value.{Value}
use Rattle.toml.proofs.Views.{Entry}
use Rattle.tag_policy.specs.declared.fault.PolicyFault.{PolicyFault}
use Rattle.tag_policy.specs.declared.fault.PolicyFault.TheVariants.{Bad}
use Rattle.tag_policy.specs.declared.fault.PolicyKind.TheVariants.{UnknownKey, TooMany}
use Rattle.tag_policy.specs.declared.rules.Version.{Version}
use Rattle.tag_policy.specs.declared.rules.Rules.{Rules}
use Rattle.tag_policy.specs.Rules.{PolicySeen}
use Rattle.tag_policy.specs.Keys.{top_keys}
use Rattle.tag_policy.specs.Grammar.{first_fault, is_among, has_other_key, version_tests, version_said, version_or, array_tests, item_tests, items_tests, items_at, listed, document_tests, judged, rules_of_item, policy_of_document}
use Rattle.tag_policy.proofs.KeyTests.{fault_first, fault_after}

-- ---- judgements

pub judged_err : {A : Type 0} (fault : Option PolicyFault) (meaning : A) (f : PolicyFault) → Err f ≡ judged fault meaning → fault ≡ Some f
judged_err None meaning f e = cc
judged_err (Some g) meaning f e = cc

pub judged_ok : {A : Type 0} (fault : Option PolicyFault) (meaning a : A) → Ok a ≡ judged fault meaning → (fault ≡ None) × (a ≡ meaning)
judged_ok None meaning a e = (refl, cc)
judged_ok (Some g) meaning a e = cc

-- ---- the top keys

pub other_is : (names : List (List ℕ)) (entries : List Entry)
    → list_any (λ name. not (is_among names (string_bytes name))) (keys_of entries) ≡ has_other_key names (members_view entries)
other_is names [] = refl
other_is names (entry ∷ entries) = ap (λ rest. not (is_among names (string_bytes entry.0)) || rest) (other_is names entries)

pub other_found : (entries : List Entry) (other answer : Bool) → other ≡ list_any (λ name. not (is_among top_keys (string_bytes name))) (keys_of entries) → other ≡ answer
    → has_other_key top_keys (members_view entries) ≡ answer
other_found entries other answer e h = sym (other_is top_keys entries) ∙ sym e ∙ h

-- ---- the document's tests

pub document_unknown : (inner : Members) → has_other_key top_keys inner ≡ true → first_fault (document_tests inner) ≡ Some (Bad UnknownKey 0 0)
document_unknown inner h = rw h refl

document_rest : (inner : Members) → has_other_key top_keys inner ≡ false
    → first_fault (document_tests inner)
    ≡ first_fault (version_tests (get_member (codes "version") inner) ++ (array_tests (get_member (codes "policy") inner) ++ items_tests 1 (items_at (get_member (codes "policy") inner))))
document_rest inner h = rw h refl

pub document_version : (inner : Members) (seen : Option Data) (f : PolicyFault) → has_other_key top_keys inner ≡ false
    → seen ≡ get_member (codes "version") inner → first_fault (version_tests seen) ≡ Some f
    → first_fault (document_tests inner) ≡ Some f
document_version inner seen f h at fails =
    document_rest inner h
    ∙ fault_first (version_tests (get_member (codes "version") inner)) (array_tests (get_member (codes "policy") inner) ++ items_tests 1 (items_at (get_member (codes "policy") inner))) f
    (ap (λ found. first_fault (version_tests found)) (sym at) ∙ fails)

document_policy : (inner : Members) (seen : Option Data) → has_other_key top_keys inner ≡ false
    → seen ≡ get_member (codes "version") inner → first_fault (version_tests seen) ≡ None
    → first_fault (document_tests inner) ≡ first_fault (array_tests (get_member (codes "policy") inner) ++ items_tests 1 (items_at (get_member (codes "policy") inner)))
document_policy inner seen h at passes =
    document_rest inner h
    ∙ fault_after (version_tests (get_member (codes "version") inner)) (array_tests (get_member (codes "policy") inner) ++ items_tests 1 (items_at (get_member (codes "policy") inner)))
    (ap (λ found. first_fault (version_tests found)) (sym at) ∙ passes)

pub document_array : (inner : Members) (seen held : Option Data) (f : PolicyFault) → has_other_key top_keys inner ≡ false
    → seen ≡ get_member (codes "version") inner → first_fault (version_tests seen) ≡ None
    → held ≡ get_member (codes "policy") inner → first_fault (array_tests held) ≡ Some f
    → first_fault (document_tests inner) ≡ Some f
document_array inner seen held f h at passes in_it fails =
    document_policy inner seen h at passes
    ∙ fault_first (array_tests (get_member (codes "policy") inner)) (items_tests 1 (items_at (get_member (codes "policy") inner))) f
    (ap (λ found. first_fault (array_tests found)) (sym in_it) ∙ fails)

pub document_read : (inner : Members) (seen held : Option Data) (version : Version) (items : List Data) (r : Result PolicySeen PolicyFault)
    → has_other_key top_keys inner ≡ false
    → seen ≡ get_member (codes "version") inner → first_fault (version_tests seen) ≡ None → version ≡ version_or (version_said seen)
    → held ≡ get_member (codes "policy") inner → first_fault (array_tests held) ≡ None → items ≡ items_at held
    → r ≡ judged (first_fault (items_tests 1 items)) (record { version = version; rules = map rules_of_item items })
    → r ≡ judged (first_fault (document_tests inner)) (policy_of_document inner)
document_read inner seen held version items r h at passes v in_it fits is e =
    let all : items ≡ items_at (get_member (codes "policy") inner) = is ∙ ap items_at in_it in
    let numbered : version ≡ version_or (version_said (get_member (codes "version") inner)) = v ∙ ap (λ found. version_or (version_said found)) at in
    let tests : first_fault (document_tests inner) ≡ first_fault (items_tests 1 (items_at (get_member (codes "policy") inner))) =
    (document_policy inner seen h at passes
    ∙ fault_after (array_tests (get_member (codes "policy") inner)) (items_tests 1 (items_at (get_member (codes "policy") inner)))
    (ap (λ found. first_fault (array_tests found)) (sym in_it) ∙ fits)) in
    let F : List Data → Version → Result PolicySeen PolicyFault =
    λ xs n. judged (first_fault (items_tests 1 xs)) (record { version = n; rules = map rules_of_item xs }) in
    e ∙ ap (λ xs. F xs version) all ∙ ap (λ n. F (items_at (get_member (codes "policy") inner)) n) numbered
    ∙ ap (λ o. judged o (policy_of_document inner)) (sym tests)

-- ---- the array

listed_view : (values : List Value) → listed (items_view values) ≡ map view values
listed_view [] = refl
listed_view (value ∷ values) = ap (λ rest. view value ∷ rest) (listed_view values)

pub items_found : (found : Option (Bor Value)) (value : Bor Value) (array : Vec Value Global) → found ≡ Some value
    → Some (array_view array) ≡ as_array (view value.now)
    → map view array.items ≡ items_at (option_map (λ v. view v.now) found)
items_found found value array e a = rw (e, sym a) (sym (listed_view array.items))

pub array_many : (found : Option (Bor Value)) (value : Bor Value) (array : Vec Value Global) → found ≡ Some value
    → Some (array_view array) ≡ as_array (view value.now) → 4 < length array.items
    → first_fault (array_tests (option_map (λ v. view v.now) found)) ≡ Some (Bad TooMany 0 2)
array_many found value array e a many = rw (e, sym a, listed_view array.items, length-map, lt-ltb 4 (length array.items) many) refl

pub array_few : (found : Option (Bor Value)) (value : Bor Value) (array : Vec Value Global) → found ≡ Some value
    → Some (array_view array) ≡ as_array (view value.now) → length array.items ≤ 4
    → first_fault (array_tests (option_map (λ v. view v.now) found)) ≡ None
array_few found value array e a few = rw (e, sym a, listed_view array.items, length-map, le-ltb 4 (length array.items) few) refl

-- ---- item after item

split_items : (values : List Value) (i : ℕ) (value : Value) → i < length values → value ≡ get_or values i value
    → items_tests (i + 1) (map view (drop i values)) ≡ item_tests (i + 1) (view value) ++ items_tests (i + 1 + 1) (map view (drop (i + 1) values))
unfolding items_tests
split_items values i value within is =
    ap (λ rest. items_tests (i + 1) (map view rest)) (drop_more values i value within)
    ∙ ap (λ v. item_tests (i + 1) (view v) ++ items_tests (i + 1 + 1) (map view (drop (i + 1) values))) (sym is)

pub items_pass : (values : List Value) (i : ℕ) (value : Value) → i < length values → value ≡ get_or values i value
    → first_fault (item_tests (i + 1) (view value)) ≡ None
    → first_fault (items_tests (i + 1) (map view (drop i values))) ≡ first_fault (items_tests (i + 1 + 1) (map view (drop (i + 1) values)))
items_pass values i value within is passes =
    ap first_fault (split_items values i value within is)
    ∙ fault_after (item_tests (i + 1) (view value)) (items_tests (i + 1 + 1) (map view (drop (i + 1) values))) passes

pub items_fail : (values : List Value) (i : ℕ) (value : Value) (f : PolicyFault) → i < length values → value ≡ get_or values i value
    → first_fault (item_tests (i + 1) (view value)) ≡ Some f
    → first_fault (items_tests (i + 1) (map view (drop i values))) ≡ Some f
items_fail values i value f within is fails =
    ap first_fault (split_items values i value within is)
    ∙ fault_first (item_tests (i + 1) (view value)) (items_tests (i + 1 + 1) (map view (drop (i + 1) values))) f fails

pub items_end : (values : List Value) (i : ℕ) → length values ≤ i → first_fault (items_tests (i + 1) (map view (drop i values))) ≡ None
unfolding items_tests
items_end values i past = ap (λ rest. first_fault (items_tests (i + 1) (map view rest))) (drop_all i values past)

rules_snoc : (values : List Value) (value : Value) → map rules_of_item (map view (values ++ value ∷ [])) ≡ map rules_of_item (map view values) ++ rules_of_item (view value) ∷ []
rules_snoc [] value = refl
rules_snoc (first ∷ values) value = ap (λ rest. rules_of_item (view first) ∷ rest) (rules_snoc values value)

pub rules_more : (values : List Value) (i : ℕ) (value : Value) (rules : Rules) → i < length values → value ≡ get_or values i value → rules ≡ rules_of_item (view value)
    → map rules_of_item (map view (take i values)) ++ rules ∷ [] ≡ map rules_of_item (map view (take (i + 1) values))
rules_more values i value rules within is e =
    ap (λ r. map rules_of_item (map view (take i values)) ++ r ∷ []) e
    ∙ sym (rules_snoc (take i values) value)
    ∙ ap (λ v. map rules_of_item (map view (take i values ++ v ∷ []))) is
    ∙ ap (λ vs. map rules_of_item (map view vs)) (sym (take_more values i value within))

pub few_rules : (values : List Value) (i : ℕ) (version : Version) (policy : PolicySeen)
    → policy ≡ record { version = version; rules = map rules_of_item (map view (take i values)) } → i < length values → length values ≤ 4
    → length policy.rules < 4
few_rules values i version policy e within few =
    let count : length policy.rules ≡ min i (length values) =
    (ap (λ p. length p.rules) e ∙ length-map (map view (take i values)) rules_of_item ∙ length-map (take i values) view ∙ length-take i values) in
    omega arith
