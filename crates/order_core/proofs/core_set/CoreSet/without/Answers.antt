use Rattle.std.proofs.Common.{arith}
use Rattle.order_core.proofs.Clearing.{cleared_same, cleared_other, cleared_less}
use Rattle.order_core.proofs.core_set.CoreSet.without.Goals as goal

pub returns-clause-same : goal.returns-clause-same
returns-clause-same c = cleared_same c.args.self.mask c.args.core c.requires

pub returns-clause-others : goal.returns-clause-others
returns-clause-others c = cleared_other c.args.self.mask c.args.core (omega arith) c.requires

pub returns-clause-less : goal.returns-clause-less
returns-clause-less c = cleared_less c.args.self.mask c.args.core c.requires
