use Rattle.std.proofs.Common.{◌≡◌, ℕ, ◌<◌, IsTrue, slice_get, Some}
use Rattle.live_run.specs.Places.{AreSame}
use Rattle.live_run.proofs.rounds.go_round.Given as goal

abbrev pub invariant-loop-core : goal.invariant-loop-core
invariant-loop-core g l = record {
  same : AreSame g.A.Lasting.same l.fn.actors l.actors;
  over : IsTrue l.over → (place : ℕ) (a : _) → place < l.core → slice_get l.actors place ≡ Some a → g.A.Lasting.has_ended a;
}
