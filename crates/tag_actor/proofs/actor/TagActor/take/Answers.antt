use Rattle.std.proofs.Common.{◌∙◌, sym}
use Rattle.tag_actor.proofs.Moving.{has_passed, past_keeps}
use Rattle.tag_actor.proofs.actor.TagActor.take.Goals as goal

pub invariant_of-self-in-Item : goal.invariant_of-self-in-Item
invariant_of-self-in-Item c =
    past_keeps _ _ c.in-Item.item _ c.take.new.taker _ _ c.self.view_is c.self.invariant c.requires.going c.requires.free c.in-Item.ensures.item c.take.ensures.look
    (sym c.has_to_wait.ensures ∙ c.if-has_to_wait.false) c.consume.ensures.tags c.is_last-self-inside.ensures c.in-Item.ensures.count c.saturating_add-self-inside.ensures

pub returns-else-has_to_wait-clause-took : goal.returns-else-has_to_wait-clause-took
returns-else-has_to_wait-clause-took c =
    has_passed _ _ c.in-Item.item _ c.take.new.taker _ _ c.self.view_is c.requires.going c.requires.free c.in-Item.ensures.item c.take.ensures.look
    (sym c.has_to_wait.ensures ∙ c.if-has_to_wait.false) c.consume.ensures.tags c.is_last-self-inside.ensures
