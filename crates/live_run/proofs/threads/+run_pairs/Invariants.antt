use Rattle.std.specs.Prelude.{vec_len}
use Rattle.live_run.proofs.threads.+run_pairs.Given as goal

abbrev pub decreases-run_pairs : goal.decreases-run_pairs
decreases-run_pairs g l = vec_len l.harts.now
