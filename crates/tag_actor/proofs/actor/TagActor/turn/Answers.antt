use Rattle.std.proofs.Common.{◌∙◌, sym, ap, arith}
use Rattle.tag_actor.specs.Seen.{TagActorSeen}
use Rattle.tag_actor.proofs.Growing.{went_is}
use Rattle.tag_actor.proofs.Machine.{turn_in}
use Rattle.tag_actor.proofs.Leading.{rests, begins_going, goes_on, ends_turn, whole_turn, stops_turn, same_self, same_on}
use Rattle.tag_actor.proofs.actor.TagActor.turn.Goals as goal

pub returns-then-self-clause-turn : goal.returns-then-self-clause-turn
returns-then-self-clause-turn g c = rests _ _ _ _ (sym (ap (λ (t : TagActorSeen). t.ended) c.self.view_is) ∙ c.if-self.true)

pub loop-consumed-init : goal.loop-consumed-init
loop-consumed-init g c = record {
  going = begins_going _ (sym (ap (λ (t : TagActorSeen). t.ended) c.self.view_is) ∙ c.if-self.false);
  objects = c.requires.objects;
  same = same_self _;
}

pub returns-in-Some-clause-turn : goal.returns-in-Some-clause-turn
returns-in-Some-clause-turn g c = stops_turn _ _ c.args.quantum c.loop-consumed.consumed _ _ _ _ _ c.loop-consumed.invariant.going c.in-Some.ensures.advanced c.loop-consumed-test.true c.answer_of.ensures

pub returns-then-self-2-clause-turn : goal.returns-then-self-2-clause-turn
returns-then-self-2-clause-turn g c =
    ends_turn _ _ c.args.quantum c.loop-consumed.consumed _ _ _ c.loop-consumed.invariant.going c.in-None.ensures.advanced c.loop-consumed-test.true
    (sym (ap (λ (t : TagActorSeen). t.ended) c.self-in-loop-consumed.view_is) ∙ c.if-self-2.true)

pub loop-consumed-preserved : goal.loop-consumed-preserved
loop-consumed-preserved g c = record {
  going = goes_on _ _ _ c.loop-consumed.consumed c.loop-consumed.invariant.going c.in-None.ensures.advanced
      (sym (ap (λ (t : TagActorSeen). t.ended) c.self-in-loop-consumed.view_is) ∙ c.if-self-2.false);
  objects = c.advance.ensures.objects;
  same = same_on _ _ _ c.loop-consumed.invariant.same c.advance.ensures.same;
}

pub returns-clause-turn : goal.returns-clause-turn
returns-clause-turn g c = whole_turn _ _ c.args.quantum c.loop-consumed.consumed _ _ c.loop-consumed.invariant.going c.requires.quantum (omega arith)

pub returns-in-Some-clause-went : goal.returns-in-Some-clause-went
returns-in-Some-clause-went g c = went_is _ _ c.args.quantum _ _ _ _ c.self.view_is c.self.invariant c.requires.quantum (returns-in-Some-clause-turn g c)

pub returns-clause-went : goal.returns-clause-went
returns-clause-went g c = went_is _ _ c.args.quantum _ _ _ _ c.self.view_is c.self.invariant c.requires.quantum (returns-clause-turn g c)

pub returns-then-self-clause-machine : goal.returns-then-self-clause-machine
returns-then-self-clause-machine g c = turn_in _ _ c.args.quantum _ _ _ (returns-then-self-clause-turn g c)

pub returns-in-Some-clause-machine : goal.returns-in-Some-clause-machine
returns-in-Some-clause-machine g c = turn_in _ _ c.args.quantum _ _ _ (returns-in-Some-clause-turn g c)

pub returns-then-self-2-clause-machine : goal.returns-then-self-2-clause-machine
returns-then-self-2-clause-machine g c = turn_in _ _ c.args.quantum _ _ _ (returns-then-self-2-clause-turn g c)

pub returns-clause-machine : goal.returns-clause-machine
returns-clause-machine g c = turn_in _ _ c.args.quantum _ _ _ (returns-clause-turn g c)
