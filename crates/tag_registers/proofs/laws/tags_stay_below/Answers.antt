use Rattle.tag_registers.proofs.WordOperation.{stays_below}
use Rattle.tag_registers.proofs.laws.tags_stay_below.Goals as goal

pub returns : goal.returns
returns c = stays_below
