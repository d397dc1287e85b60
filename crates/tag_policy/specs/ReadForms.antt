-- Proof form: what the parts of the reader of policies speak of (this project's own).
use Rattle.std.specs.Prelude.{ℕ, List, map, Result, Ok, Err}
use Rattle.tag_policy.specs.declared.keys.Key.{Key}
use Rattle.tag_policy.specs.declared.fault.PolicyFault.{PolicyFault}
use Rattle.tag_policy.specs.declared.policy.Policy.{Policy}
use Rattle.tag_policy.specs.Rules.{PolicySeen}
use Rattle.tag_policy.specs.Policies.{policy_in}
use Rattle.tag_policy.specs.Keys.{PolicyKey, key}

-- the keys of the code as those of the definitions
abbrev pub policy_key : Key → PolicyKey
policy_key k = key k.0.now k.1

abbrev pub policy_keys : List Key → List PolicyKey
policy_keys = map policy_key

abbrev pub names_of : List Key → List (List ℕ)
names_of = map (λ k. k.0.now)

-- a policy of the code as what it means
abbrev pub policy_result : Result Policy PolicyFault → Result PolicySeen PolicyFault
policy_result (Ok policy) = Ok (policy_in policy)
policy_result (Err fault) = Err fault
