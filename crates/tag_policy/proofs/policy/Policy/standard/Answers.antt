use Rattle.std.proofs.Common.{◌++◌, [], ◌∷◌, Ok, sym, ◌∙◌, ap}
use Rattle.tag_policy.specs.Rules.{PolicySeen}
use Rattle.tag_policy.specs.Policies.{standard_rules}
use Rattle.tag_policy.proofs.Rows.{standard_reads}
use Rattle.tag_policy.proofs.policy.Policy.standard.Goals as goal

pub returns-clause-text : goal.returns-clause-text
returns-clause-text c =
    standard_reads ∙ ap Ok (sym (c.with.ensures ∙ ap (λ (p : PolicySeen). record p { rules = p.rules ++ standard_rules ∷ [] }) c.empty.ensures))
