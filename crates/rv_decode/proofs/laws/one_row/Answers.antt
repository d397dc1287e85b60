use Rattle.rv_decode.proofs.Agreement.{one_row as law}
use Rattle.rv_decode.proofs.laws.one_row.Goals as goal

pub returns : goal.returns
returns c = law
