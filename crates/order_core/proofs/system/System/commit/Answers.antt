use Rattle.std.proofs.Common.{ℕ, List, ap, ◌∙◌}
use Rattle.order_core.specs.Protocol.{number_of}
use Rattle.order_core.proofs.Made.{made_commit, in_range_value}
use Rattle.order_core.proofs.system.System.commit.Goals as goal

pub invariant_of-self : goal.invariant_of-self
invariant_of-self c =
    made_commit _ _ _ _ c.self.view_is _ _ c.index_mut.ensures.value _ _ _ _ c.self.invariant c.requires.free (in_range_value _ _ _ _ c.self.view_is c.args.shape c.requires.word)
    (c.number_in-number.ensures ∙ ap (λ (drawn : List ℕ). number_of drawn c.args.shape) c.deref.ensures.value) c.commit.ensures c.count.ensures

pub returns-clause-reached : goal.returns-clause-reached
returns-clause-reached c =
    made_commit _ _ _ _ c.self.view_is _ _ c.index_mut.ensures.value _ _ _ _ c.self.invariant c.requires.free (in_range_value _ _ _ _ c.self.view_is c.args.shape c.requires.word)
    (c.number_in-number.ensures ∙ ap (λ (drawn : List ℕ). number_of drawn c.args.shape) c.deref.ensures.value) c.commit.ensures c.count.ensures
