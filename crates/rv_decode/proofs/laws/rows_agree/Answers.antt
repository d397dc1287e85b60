use Rattle.rv_decode.proofs.Agreement.{rows_agree as law}
use Rattle.rv_decode.proofs.laws.rows_agree.Goals as goal

pub returns : goal.returns
returns c = law
