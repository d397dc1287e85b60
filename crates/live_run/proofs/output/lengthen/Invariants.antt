use Rattle.std.proofs.Common.{◌≡◌, replicate}
use Rattle.live_run.proofs.output.lengthen.Given as goal

abbrev pub invariant-loop : goal.invariant-loop
invariant-loop l = l.output ≡ record l.fn.output { items = replicate l.counter 0 }
