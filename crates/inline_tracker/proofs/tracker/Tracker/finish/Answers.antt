use Rattle.std.proofs.Common.{refl}
use Rattle.inline_tracker.specs.Seats.{SomeGoesOn}
use Rattle.inline_tracker.proofs.Finishing.{unfinished}
use Rattle.inline_tracker.proofs.tracker.Tracker.finish.Goals as goal

pub returns-else-all_ended-clause-unfinished : goal.returns-else-all_ended-clause-unfinished
returns-else-all_ended-clause-unfinished c =
    let run = c.self.inside.run in
    let some : SomeGoesOn run.seats.items = rw c.as_slice.ensures.value at (c.if-all_ended.ensures.some refl) in
    (c.self.view_is, rw (← c.self.view_is) (unfinished c.self.inside.setup.now run.order.items run.seats.items run.cells.items run.output.items c.self.invariant.along_order some))
