use Rattle.std.proofs.lemmas.Nat.Bits.{bit_at_or}
use Rattle.order_core.proofs.core_set.CoreSet.union.Goals as goal

pub returns : goal.returns
returns c = λ core. bit_at_or c.args.self.mask c.args.other.mask core
