-- The kinds of faults of a policy text: their numbers and names (this project's own).
use Rattle.std.specs.Prelude.{ℕ, List, codes}
use Rattle.tag_policy.specs.declared.fault.PolicyKind.{PolicyKind}
use Rattle.tag_policy.specs.declared.fault.PolicyKind.TheVariants.{Text, UnknownKey, MissingKey, WrongKind, TooMany, BadValue}

abbrev pub policy_kind_number : PolicyKind → ℕ
policy_kind_number Text = 1
policy_kind_number UnknownKey = 2
policy_kind_number MissingKey = 3
policy_kind_number WrongKind = 4
policy_kind_number TooMany = 5
policy_kind_number BadValue = 6

abbrev pub policy_kind_name : PolicyKind → List ℕ
policy_kind_name Text = codes "Text"
policy_kind_name UnknownKey = codes "UnknownKey"
policy_kind_name MissingKey = codes "MissingKey"
policy_kind_name WrongKind = codes "WrongKind"
policy_kind_name TooMany = codes "TooMany"
policy_kind_name BadValue = codes "BadValue"
