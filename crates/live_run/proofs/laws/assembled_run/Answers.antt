use Rattle.live_run.proofs.Assembling.{assembled_run}
use Rattle.live_run.proofs.laws.assembled_run.Goals as goal

pub returns : goal.returns
returns c = assembled_run
