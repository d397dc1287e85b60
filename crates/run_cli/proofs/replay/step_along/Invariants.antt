use Rattle.std.proofs.Common.{◌≡◌, take}
use Rattle.machine.specs.Runs.{IsPlayable}
use Rattle.run_cli.proofs.replay.step_along.Given as goal

abbrev pub invariant-loop-units : goal.invariant-loop-units
invariant-loop-units l = record {
  taken : l.tracker ≡ record { setup = l.fn.tracker.setup; order = take l.units l.order };
  playable : IsPlayable l.fn.tracker.setup (take l.units l.order);
}
