use Rattle.std.proofs.Common.{◌≡◌, ◌++◌, [], ◌∷◌, List, map, Ok, Err, refl, sym, ◌∙◌, ap, rules}
use Rattle.std.proofs.lemmas.List.{take_all}
use Rattle.toml.specs.View.{view}
use Rattle.toml.specs.declared.value.Value.{Value}
use Rattle.tag_policy.specs.declared.rules.Rules.{Rules}
use Rattle.tag_policy.specs.Rules.{PolicySeen}
use Rattle.tag_policy.specs.Grammar.{judged, rules_of_item}
use Rattle.tag_policy.specs.Policies.{policy_in}
use Rattle.tag_policy.specs.ReadForms.{policy_result}
use Rattle.tag_policy.proofs.Documents.{judged_err, judged_ok, few_rules, items_pass, items_fail, items_end, rules_more}
use Rattle.tag_policy.proofs.reading.read_items.Goals as goal

pub loop-index-init : goal.loop-index-init
loop-index-init c = record { tests = refl; so_far = c.empty-policy.ensures }

pub with-policy-requires : goal.with-policy-requires
with-policy-requires c =
    few_rules c.args.items.now c.loop-index.index c.args.version (policy_in c.loop-index.policy) c.loop-index.invariant.so_far c.loop-index-test.true c.requires

pub loop-index-preserved : goal.loop-index-preserved
loop-index-preserved c =
    let (passes, says) = judged_ok _ _ c.in_ok-read_item.field-0 c.in_ok-read_item.ensures in
    record {
      tests =
          c.loop-index.invariant.tests
          ∙ items_pass c.args.items.now c.loop-index.index c.index-items-index.result c.loop-index-test.true c.index-items-index.is passes;
      so_far =
          c.with-policy.ensures
          ∙ ap (λ (p : PolicySeen). record p { rules = p.rules ++ c.in_ok-read_item.field-0 ∷ [] }) c.loop-index.invariant.so_far
          ∙ ap (λ (rs : List Rules). record { version = c.args.version; rules = rs })
          (rules_more c.args.items.now c.loop-index.index c.index-items-index.result c.in_ok-read_item.field-0 c.loop-index-test.true c.index-items-index.is says);
    }

pub returns-in_err-read_item : goal.returns-in_err-read_item
returns-in_err-read_item c =
    let told : c.from_residual.result ≡ Err c.in_err-read_item.field-0.0 = search rules in
    let meaning : PolicySeen = record { version = c.args.version; rules = map rules_of_item (map view c.args.items.now) } in
    ap policy_result told
    ∙ sym (ap (λ fault. judged fault meaning)
    (c.loop-index.invariant.tests
    ∙ items_fail c.args.items.now c.loop-index.index c.index-items-index.result c.in_err-read_item.field-0.0 c.loop-index-test.true c.index-items-index.is
    (judged_err _ _ _ c.in_err-read_item.ensures)))

pub returns : goal.returns
returns c =
    let meaning : PolicySeen = record { version = c.args.version; rules = map rules_of_item (map view c.args.items.now) } in
    ap Ok (c.loop-index.invariant.so_far
    ∙ ap (λ (vs : List Value). record { version = c.args.version; rules = map rules_of_item (map view vs) }) (take_all c.loop-index.index c.args.items.now c.loop-index-test.false))
    ∙ sym (ap (λ fault. judged fault meaning) (c.loop-index.invariant.tests ∙ items_end c.args.items.now c.loop-index.index c.loop-index-test.false))
