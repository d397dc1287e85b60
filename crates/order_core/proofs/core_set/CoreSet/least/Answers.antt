use Rattle.std.proofs.Common.{w32, arith}
use Rattle.std.proofs.lemmas.Nat.Bits.{bit_at-trailing_zeros}
use Rattle.order_core.proofs.core_set.CoreSet.least.Goals as goal

pub returns : goal.returns
returns c = bit_at-trailing_zeros w32 c.args.self.mask (omega arith) (omega arith)
