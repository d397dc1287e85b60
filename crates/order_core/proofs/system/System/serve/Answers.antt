use Rattle.std.proofs.Common.{◌≡◌, ◌<◌, ◌⊎◌, ℕ, List, sym, subst}
use Rattle.order_core.specs.Protocol.{number_of}
use Rattle.order_core.proofs.Made.{made_serve, served_word, served_fewer}
use Rattle.order_core.proofs.system.System.serve.Goals as goal

pub raise_served-requires-clause-word : goal.raise_served-requires-clause-word
raise_served-requires-clause-word c =
    served_word _ _ _ _ c.self.view_is _ _ c.index_mut.ensures.value _ c.self.invariant c.requires c.take_first-first.ensures.item

pub raise_served-requires-clause-fewer : goal.raise_served-requires-clause-fewer
raise_served-requires-clause-fewer c =
    let shape = (c.take_first-first.result).shape in
    let counts = c.self.inside.served.items in
    let P : List ℕ → Type 0 = λ drawn. (number_of counts shape < number_of drawn shape) ⊎ (number_of counts shape ≡ 0) in
    subst P (sym c.deref.ensures.value) (served_fewer _ _ _ _ c.self.view_is _ _ c.index_mut.ensures.value _ c.self.invariant c.requires c.take_first-first.ensures.item)

pub invariant_of-self : goal.invariant_of-self
invariant_of-self c =
    made_serve _ _ _ _ c.self.view_is _ _ c.index_mut.ensures.value _ _ _ c.self.invariant c.requires c.take_first-first.ensures.item c.take_first-first.ensures.rest c.raise_served.ensures

pub returns-clause-reached : goal.returns-clause-reached
returns-clause-reached c =
    made_serve _ _ _ _ c.self.view_is _ _ c.index_mut.ensures.value _ _ _ c.self.invariant c.requires c.take_first-first.ensures.item c.take_first-first.ensures.rest c.raise_served.ensures
