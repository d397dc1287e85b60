use Rattle.rv_decode.proofs.Agreement.{answer_rows, answer_nothing, answer_fits}
use Rattle.rv_decode.proofs.decoding.decode.Goals as goal

pub returns-clause-rows : goal.returns-clause-rows
returns-clause-rows c = answer_rows _ _ c.decode_by_opcode.ensures

pub returns-clause-nothing : goal.returns-clause-nothing
returns-clause-nothing c = answer_nothing _ _ c.decode_by_opcode.ensures

pub returns-clause-fits : goal.returns-clause-fits
returns-clause-fits c = answer_fits _ _ c.ranges.word.fits c.decode_by_opcode.ensures
