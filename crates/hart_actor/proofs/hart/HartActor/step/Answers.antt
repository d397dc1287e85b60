use Rattle.hart_actor.proofs.hart.HartActor.step.Goals as goal

pub returns-in-Some-clause-step : goal.returns-in-Some-clause-step
returns-in-Some-clause-step g c = c.send.ensures.step c.args.replies.now

pub returns-in-Going-clause-step : goal.returns-in-Going-clause-step
returns-in-Going-clause-step g c = c.commit.ensures.step c.args.items.now c.args.replies.now

pub returns-in-Meeting-clause-step : goal.returns-in-Meeting-clause-step
returns-in-Meeting-clause-step g c = c.resume.ensures.step c.args.items.now
