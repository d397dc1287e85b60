use Rattle.run_cli.proofs.Completes.{offline_replay, offline_map}
use Rattle.run_cli.proofs.offline_commands.offline.Goals as goal

pub returns-clause-completes_replay : goal.returns-clause-completes_replay
returns-clause-completes_replay g c = rw c.status.ensures (offline_replay _ _ _ c.conclude.result c.conclude.ensures)

pub returns-clause-completes_map : goal.returns-clause-completes_map
returns-clause-completes_map g c = rw c.status.ensures (offline_map _ _ _ c.conclude.result c.conclude.ensures)
