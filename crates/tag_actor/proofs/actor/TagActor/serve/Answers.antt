use Rattle.std.proofs.Common.{◌∙◌, sym, subst, rules}
use Rattle.tag_policy.specs.Policies.{policy_in}
use Rattle.tag_registers.specs.Files.{tags_in}
use Rattle.tag_actor.specs.Standing.{IsTagActor}
use Rattle.tag_actor.proofs.Standing.{consumed_keeps}
use Rattle.tag_actor.proofs.Sounding.{held_sound, may_serve}
use Rattle.tag_actor.proofs.actor.TagActor.serve.Goals as goal

pub consume-requires : goal.consume-requires
consume-requires c = held_sound _ _ _ _ _ _ c.self.view_is c.self.invariant c.requires.objects c.requires.hand

pub serve-requires : goal.serve-requires
serve-requires c =
    may_serve _ _ _ _ _ c.args.item (policy_in c.self.inside.policy) (tags_in c.self.inside.file) c.in-Serve.word c.in-Serve.number c.in-Serve.op
    c.self.view_is c.self.invariant c.requires.objects c.requires.hand (sym c.consume.ensures.ask ∙ c.in-Serve.is)

pub consume_answer-requires-clause-sound : goal.consume_answer-requires-clause-sound
consume_answer-requires-clause-sound c = held_sound _ _ _ _ _ _ c.self.view_is c.self.invariant c.requires.objects c.requires.hand

pub invariant_of-self : goal.invariant_of-self
invariant_of-self c =
    consumed_keeps c.args.self.now _ c.args.item c.in-Done.old (subst IsTagActor c.self.view_is c.self.invariant) (search rules) (search rules)
