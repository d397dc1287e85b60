-- What a policy of the code is, and the standard policy: input is a source, and a jump to it or a call chosen by it traps (this project's own).
use Rattle.std.specs.Prelude.{true, false, ℕ, List, [], ◌∷◌, ◌++◌, take, codes}
use Rattle.tag_policy.specs.declared.rules.Version.TheVariants.{WordTags}
use Rattle.tag_policy.specs.declared.rules.Mode.TheVariants.{Or}
use Rattle.tag_policy.specs.declared.rules.Rules.{Rules}
use Rattle.tag_policy.specs.declared.policy.Policy.{Policy}
use Rattle.tag_policy.specs.Rules.{PolicySeen}

abbrev pub policy_in : Policy → PolicySeen
policy_in p = record { version = p.version; rules = take p.count p.rules }

abbrev pub standard_rules : Rules
standard_rules = record {
  source = true;
  arith = Or;
  logic = Or;
  shift = Or;
  compare = Or;
  muldiv = Or;
  load_data = true;
  load_address = false;
  store_data = true;
  store_address = false;
  check_jump = true;
  check_load_address = false;
  check_store_address = false;
  check_branch = false;
  check_call_number = true;
  check_call_argument = false;
  check_sink = false;
}

-- its text
abbrev pub line : List ℕ → List ℕ
line text = text ++ 10 ∷ []

unfoldable pub standard_text : List ℕ
standard_text =
    line (codes "version = 1")
    ++ line (codes "[[policy]]")
    ++ line (codes "source = true")
    ++ line (codes "check_jump = true")
    ++ line (codes "check_call_number = true")

abbrev pub standard_policy : PolicySeen
standard_policy = record { version = WordTags; rules = standard_rules ∷ [] }
