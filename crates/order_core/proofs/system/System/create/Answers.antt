use Rattle.std.proofs.Common.{arith}
use Rattle.order_core.proofs.Rest.{protocol_begin}
use Rattle.order_core.proofs.system.System.create.Goals as goal

pub invariant_of-result : goal.invariant_of-result
invariant_of-result c =
    rw (c.in_ok-cores.ensures, c.in_ok-drawn.ensures, c.in_ok-served.ensures) (protocol_begin c.args.cores c.args.words c.args.bound (omega arith) c.requires)
