use Rattle.std.proofs.Common.{◌≡◌, ◌<◌, ◌-◌, ap, sym, ◌∙◌, subst, ℕ}
use Rattle.rv_decode.specs.Four.{bit_of}
use Rattle.tag_policy.specs.Rules.{kind_of}
use Rattle.tag_policy.proofs.CheckSets.{set_of_rules, set_has, set_known, set_chain}
use Rattle.tag_policy.proofs.kinds.kinds_of.Goals as goal

pub returns-clause-checks : goal.returns-clause-checks
returns-clause-checks c =
    let is : c.set-7.new.self.0 ≡ set_of_rules c.args.rules.now =
    set_chain c.args.rules.now _ _ _ _ _ _ _ _ (c.empty-kinds.ensures tt) (c.set.ensures tt) (c.set-2.ensures tt) (c.set-3.ensures tt) (c.set-4.ensures tt) (c.set-5.ensures tt) (c.set-6.ensures tt) (c.set-7.ensures tt) in
    λ check. ap (λ n. bit_of n (kind_of check - 1)) is ∙ set_has c.args.rules.now check

pub returns-clause-known : goal.returns-clause-known
returns-clause-known c =
    let is : c.set-7.new.self.0 ≡ set_of_rules c.args.rules.now =
    set_chain c.args.rules.now _ _ _ _ _ _ _ _ (c.empty-kinds.ensures tt) (c.set.ensures tt) (c.set-2.ensures tt) (c.set-3.ensures tt) (c.set-4.ensures tt) (c.set-5.ensures tt) (c.set-6.ensures tt) (c.set-7.ensures tt) in
    let P : ℕ → Type 0 = λ n. n < 128 in
    subst P (sym is) (set_known c.args.rules.now)
