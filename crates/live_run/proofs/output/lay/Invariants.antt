use Rattle.std.proofs.Common.{drop}
use Rattle.live_run.specs.Laying.{pieces_in}
use Rattle.live_run.proofs.Laying.{IsLaying}
use Rattle.live_run.proofs.output.lay.Given as goal

abbrev pub invariant-loop-place : goal.invariant-loop-place
invariant-loop-place l = IsLaying l.fn.output (pieces_in l.claims) l.output (drop l.place-index l.claims.pieces.items) l.bytes
