use Rattle.live_run.proofs.Assembling.{assembled_merge}
use Rattle.live_run.proofs.laws.assembled_merge.Goals as goal

pub returns : goal.returns
returns c = assembled_merge
