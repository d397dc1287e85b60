use Rattle.std.proofs.Common.{refl}
use Rattle.run_cli.specs.Asked.{Replay, Inspect, replay_in, image_in}
use Rattle.run_cli.specs.Words.{ReadsOffline}
use Rattle.run_cli.proofs.Concluding.{came_ended, unsaid_ended}
use Rattle.run_cli.proofs.offline_commands.conclude.Goals as goal

pub returns-in-Ok-Replay : goal.returns-in-Ok-Replay
returns-in-Ok-Replay g c =
    let read = rw c.in-Ok-Replay.field-0-is at c.in-Ok-Replay.ensures.read in
    came_ended ReadsOffline _ (Replay (replay_in c.in-Ok-Replay.options)) _ _ _ read c.replay.ensures

pub returns-in-Ok-Inspect : goal.returns-in-Ok-Inspect
returns-in-Ok-Inspect g c =
    let read = rw c.in-Ok-Inspect.field-0-is at c.in-Ok-Inspect.ensures.read in
    came_ended ReadsOffline _ (Inspect (image_in c.in-Ok-Inspect.options)) _ _ _ read c.inspect.ensures

pub returns-in-Err : goal.returns-in-Err
returns-in-Err g c =
    rw c.refused.ensures.same (unsaid_ended ReadsOffline _ _ _ _ c.in-Err.ensures.refused (λ name. refl)
    (record { out = record { same = refl; count = refl }; report = c.refused.ensures.told }))
