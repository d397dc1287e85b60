-- A set of checks as a number: check number k is bit k - 1 (this project's own).
use Rattle.std.specs.Prelude.{Bool, ◌-◌}
use Rattle.rv_decode.specs.Four.{bit_of}
use Rattle.tag_policy.specs.declared.kinds.Kinds.{Kinds}
use Rattle.tag_policy.specs.declared.rules.Check.{Check}
use Rattle.tag_policy.specs.Rules.{kind_of}

abbrev pub has_kind : Kinds → Check → Bool
has_kind kinds check = bit_of kinds.0 (kind_of check - 1)
