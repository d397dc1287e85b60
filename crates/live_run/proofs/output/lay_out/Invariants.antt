use Rattle.std.proofs.Common.{drop}
use Rattle.live_run.proofs.LayingOut.{IsLayingOut}
use Rattle.live_run.proofs.output.lay_out.Given as goal

abbrev pub invariant-loop-claims : goal.invariant-loop-claims
invariant-loop-claims l = IsLayingOut l.size l.fn.output l.fn.claims l.output (drop l.claims-index l.fn.claims)
