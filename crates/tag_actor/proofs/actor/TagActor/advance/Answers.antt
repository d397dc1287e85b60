use Rattle.std.proofs.Common.{Option, sym, subst}
use Rattle.tag_actor.specs.declared.answer.Stop.{Stop}
use Rattle.tag_actor.specs.Turns.{AdvancedAs}
use Rattle.tag_actor.proofs.Leading.{passed_advances, settled_advances, taken_advances, empty_stops, held_stops, taken_stops}
use Rattle.tag_actor.proofs.actor.TagActor.advance.Goals as goal

pub returns-in_err-cause-clause-advanced : goal.returns-in_err-cause-clause-advanced
returns-in_err-cause-clause-advanced g c =
    subst (λ (stop : Option Stop). AdvancedAs c.args.stage.now.items.now c.args.stage.now.replies.now c.args.self.now c.settle.new.self stop) (sym c.from_residual.ensures) (settled_advances _ _ c.in_err-cause.ensures.settled)

pub returns-then-is_some-clause-advanced : goal.returns-then-is_some-clause-advanced
returns-then-is_some-clause-advanced g c = held_stops _ _ _ _ _ c.requires.going c.in_ok-cause.ensures.settled

pub returns-in_err-cause-in-InHand-clause-advanced :
    goal.returns-in_err-cause-in-InHand-clause-advanced
returns-in_err-cause-in-InHand-clause-advanced g c =
    subst (λ (stop : Option Stop). AdvancedAs c.args.stage.now.items.now c.args.stage.now.replies.now c.args.self.now c.settle-in-InHand.new.self stop) (sym c.from_residual-in_err-cause-in-InHand.ensures)
    (taken_advances _ _ _ c.in-InHand.ensures.took c.in_err-cause-in-InHand.ensures.settled)

pub returns-in-Nothing-clause-advanced : goal.returns-in-Nothing-clause-advanced
returns-in-Nothing-clause-advanced g c = empty_stops _ _ _ _ c.requires.going c.in-Nothing.ensures.took

pub returns-in-Consumed-clause-advanced : goal.returns-in-Consumed-clause-advanced
returns-in-Consumed-clause-advanced g c = passed_advances _ _ c.in-Consumed.ensures.took

pub returns-in_ok-cause-in-InHand-clause-advanced :
    goal.returns-in_ok-cause-in-InHand-clause-advanced
returns-in_ok-cause-in-InHand-clause-advanced g c = taken_stops _ _ _ _ _ _ c.requires.going c.in-InHand.ensures.took c.in_ok-cause-in-InHand.ensures.settled
