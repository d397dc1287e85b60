use Rattle.std.proofs.Common.{◌∙◌, sym}
use Rattle.tag_actor.proofs.Sounding.{few_replies}
use Rattle.tag_actor.proofs.Moving.{has_replied, replied_keeps}
use Rattle.tag_actor.proofs.actor.TagActor.reply.Goals as goal

pub send-requires-clause-count : goal.send-requires-clause-count
send-requires-clause-count g c = few_replies _ _ _ c.self.view_is c.self.invariant c.requires.hand

pub invariant_of-self : goal.invariant_of-self
invariant_of-self g c =
    replied_keeps _ _ c.args.item c.in-Answer.reply _ c.send.new.sender _ c.self.view_is c.self.invariant c.requires.going c.requires.hand c.requires.meet
    (sym c.consume.ensures.ask ∙ c.in-Answer.is) c.consume.ensures.tags c.in-Sent.ensures.sent c.saturating_add-self-inside.ensures

pub returns-in-Sent-clause-settled : goal.returns-in-Sent-clause-settled
returns-in-Sent-clause-settled g c =
    has_replied _ _ c.args.item c.in-Answer.reply _ c.send.new.sender _ c.self.view_is c.requires.going c.requires.hand c.requires.meet
    (sym c.consume.ensures.ask ∙ c.in-Answer.is) c.consume.ensures.tags c.in-Sent.ensures.sent
