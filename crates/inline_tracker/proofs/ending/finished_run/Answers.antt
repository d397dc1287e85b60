use Rattle.inline_tracker.proofs.Finishing.{are_over, finished_run}
use Rattle.inline_tracker.proofs.ending.finished_run.Goals as goal

pub take_cores-requires-clause-ended : goal.take_cores-requires-clause-ended
take_cores-requires-clause-ended c =
    are_over c.args.setup.now c.args.run.order.items c.args.run.seats.items c.args.run.cells.items c.args.run.output.items c.requires.stands.along_order c.requires.ended

pub returns-clause-finished : goal.returns-clause-finished
returns-clause-finished c =
    rw c.take_cores.ensures.logs
    (finished_run c.args.setup.now c.args.run.order.items c.args.run.seats.items c.args.run.cells.items c.args.run.output.items c.take_cores.new.outcomes.items c.requires.stands.along_order c.requires.ended c.take_cores.ensures.outcomes)
