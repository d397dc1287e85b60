use Rattle.std.proofs.Common.{◌≡◌, ◌+◌, drop, take, map}
use Rattle.toml.specs.View.{view}
use Rattle.tag_policy.specs.Grammar.{first_fault, items_tests, rules_of_item}
use Rattle.tag_policy.specs.Policies.{policy_in}
use Rattle.tag_policy.proofs.reading.read_items.Given as goal

abbrev pub invariant-loop-index : goal.invariant-loop-index
invariant-loop-index l = record {
  tests : first_fault (items_tests 1 (map view l.items)) ≡ first_fault (items_tests (l.index + 1) (map view (drop l.index l.items)));
  so_far : policy_in l.policy ≡ record { version = l.fn.version; rules = map rules_of_item (map view (take l.index l.items)) };
}
