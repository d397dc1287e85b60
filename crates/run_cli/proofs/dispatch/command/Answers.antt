use Rattle.run_cli.proofs.Concluding.{offline_ended}
use Rattle.run_cli.proofs.Completes.{completes}
use Rattle.run_cli.proofs.Replayable.{replayable}
use Rattle.run_cli.proofs.dispatch.command.Goals as goal

pub returns-in-Some-clause-ended : goal.returns-in-Some-clause-ended
returns-in-Some-clause-ended g c = (c.run_words.result, c.status.ensures, c.run_words.ensures _ c.in-Some.ensures)

pub returns-in-Some-clause-completes : goal.returns-in-Some-clause-completes
returns-in-Some-clause-completes g c = rw c.status.ensures (completes _ _ _ c.run_words.result (c.run_words.ensures _ c.in-Some.ensures))

pub returns-in-Some-clause-replays : goal.returns-in-Some-clause-replays
returns-in-Some-clause-replays g c = rw c.status.ensures (replayable _ _ _ c.run_words.result (c.run_words.ensures _ c.in-Some.ensures))

pub returns-in-None-clause-ended : goal.returns-in-None-clause-ended
returns-in-None-clause-ended g c =
    let ended = c.offline.ensures.ended in
    (ended.0, ended.1, offline_ended _ _ _ ended.0 c.in-None.ensures ended.2)

pub returns-in-None-clause-replays : goal.returns-in-None-clause-replays
returns-in-None-clause-replays g c =
    let ended = c.offline.ensures.ended in
    rw ended.1 (replayable _ _ _ ended.0 (offline_ended _ _ _ ended.0 c.in-None.ensures ended.2))
