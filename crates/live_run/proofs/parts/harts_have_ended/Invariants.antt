use Rattle.std.proofs.Common.{◌≡◌, ℕ, ◌<◌, slice_get, Some}
use Rattle.hart_actor.specs.Harts.{Hart, HasEnded}
use Rattle.live_run.proofs.parts.harts_have_ended.Given as goal

abbrev pub invariant-loop-hart : goal.invariant-loop-hart
invariant-loop-hart l = (core : ℕ) (hart : Hart) → core < l.hart-index → slice_get l.harts core ≡ Some hart → HasEnded hart
