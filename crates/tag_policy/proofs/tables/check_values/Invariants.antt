use Rattle.std.proofs.Common.{◌≡◌, ◌+◌, drop}
use Rattle.toml.specs.View.{table_view}
use Rattle.tag_policy.specs.Grammar.{first_fault, keys_tests}
use Rattle.tag_policy.specs.ReadForms.{policy_keys}
use Rattle.tag_policy.proofs.tables.check_values.Given as goal

abbrev pub invariant-loop-index : goal.invariant-loop-index
invariant-loop-index l =
    first_fault (keys_tests l.place (table_view l.table) 1 (policy_keys l.keys))
    ≡ first_fault (keys_tests l.place (table_view l.table) (l.index + 1) (policy_keys (drop l.index l.keys)))
