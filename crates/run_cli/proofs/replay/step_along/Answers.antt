use Rattle.std.proofs.Common.{ℕ, ◌<◌, get_or, sym, ◌∙◌}
use Rattle.machine.specs.Setups.{core_count}
use Rattle.std.proofs.lemmas.Option.{slice_get-get_or}
use Rattle.std.proofs.lemmas.List.Elements.{All-get_or}
use Rattle.run_cli.proofs.Replaying.{starts, stops_here}
use Rattle.run_cli.proofs.replay.step_along.Goals as goal

pub loop-units-init : goal.loop-units-init
loop-units-init c =
    let first = starts c.args.tracker.now c.args.order.now c.requires.fresh in record {
      taken = first.0;
      playable = first.1;
    }

pub returns-in_default-clause-stops : goal.returns-in_default-clause-stops
returns-in_default-clause-stops c below =
    let order = c.args.order.now in
    let units = c.loop-units.units in
    stops_here c.args.tracker.now.setup order units (get_or order units 0) c.loop-units.tracker c.in_default.field-0
    (slice_get-get_or order units 0 below) (All-get_or (λ (core : ℕ). core < core_count c.args.tracker.now.setup) order units 0 below c.requires.cores) c.loop-units.invariant.taken (sym c.step.ensures.answer ∙ c.in_default.is)
