use Rattle.std.proofs.Common.{◌∙◌, sym, ap}
use Rattle.tag_actor.specs.Seen.{TagActorSeen}
use Rattle.tag_actor.proofs.Moving.{meets}
use Rattle.tag_actor.proofs.actor.TagActor.settle.Goals as goal

pub reply-requires : goal.reply-requires
reply-requires g c = record {
  objects = c.requires.objects;
  going = c.requires.going;
  hand = sym (ap (λ (t : TagActorSeen). t.hand) c.self.view_is) ∙ c.in-Some.is;
  meet = meets c.in-Some.item (c.self.invariant.waits c.in-Some.item c.in-Some.is) c.in_default-item.not-Touch;
}
