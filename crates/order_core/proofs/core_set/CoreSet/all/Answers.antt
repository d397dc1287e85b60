use Rattle.std.proofs.lemmas.Nat.Bits.{bit_at_ones}
use Rattle.order_core.proofs.core_set.CoreSet.all.Goals as goal

pub returns : goal.returns
returns c = λ core h. bit_at_ones 32 core h
