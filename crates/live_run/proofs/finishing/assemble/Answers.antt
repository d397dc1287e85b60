use Rattle.std.proofs.Common.{map, ap, ◌∙◌}
use Rattle.machine.specs.FinishedRuns.{FinishedRun}
use Rattle.live_run.proofs.Readying.{all_linked, all_ready, all_kept}
use Rattle.live_run.proofs.Joined.{fits, finished}
use Rattle.live_run.proofs.finishing.assemble.Goals as goal

pub finish_all-ends-requires-clause-linked : goal.finish_all-ends-requires-clause-linked
finish_all-ends-requires-clause-linked c = all_linked _ c.parts.invariant

pub close_run-logs-requires : goal.close_run-logs-requires
close_run-logs-requires c = (_, _, all_ready _ c.parts.invariant c.guest-ranges.ensures.ranges _ c.finish_all-ends.ensures)

pub of_walk-requires-clause-fits : goal.of_walk-requires-clause-fits
of_walk-requires-clause-fits c =
    let ready = all_ready _ c.parts.invariant c.guest-ranges.ensures.ranges _ c.finish_all-ends.ensures in
    fits _ _ _ _ _ (c.close_run-logs.ensures _ _ ready) _ c.parts.invariant.room.walk

pub of_walk-requires-clause-finished : goal.of_walk-requires-clause-finished
of_walk-requires-clause-finished c =
    let ready = all_ready _ c.parts.invariant c.guest-ranges.ensures.ranges _ c.finish_all-ends.ensures in
    finished _ _ _ _ _ (c.close_run-logs.ensures _ _ ready)

pub returns-clause-finished : goal.returns-clause-finished
returns-clause-finished c =
    let ready = all_ready _ c.parts.invariant c.guest-ranges.ensures.ranges _ c.finish_all-ends.ensures in
    rw (← c.parts.view_is, c.of_walk.ensures.run) (finished _ _ _ _ _ (c.close_run-logs.ensures _ _ ready))

pub returns-clause-logs : goal.returns-clause-logs
returns-clause-logs c =
    let ready = all_ready _ c.parts.invariant c.guest-ranges.ensures.ranges _ c.finish_all-ends.ensures in
    rw (← c.parts.view_is)
    (ap (λ (run : FinishedRun). run.logs) c.of_walk.ensures.run ∙ (c.close_run-logs.ensures _ _ ready).logs
    ∙ ap (map (λ left. left.log)) (all_kept _ c.parts.invariant _ c.finish_all-ends.ensures))

pub returns-clause-cores : goal.returns-clause-cores
returns-clause-cores c =
    let ready = all_ready _ c.parts.invariant c.guest-ranges.ensures.ranges _ c.finish_all-ends.ensures in
    rw (← c.parts.view_is)
    (ap (λ (run : FinishedRun). run.cores) c.of_walk.ensures.run ∙ (c.close_run-logs.ensures _ _ ready).outcomes
    ∙ ap (map (λ left. left.summary)) (all_kept _ c.parts.invariant _ c.finish_all-ends.ensures))
