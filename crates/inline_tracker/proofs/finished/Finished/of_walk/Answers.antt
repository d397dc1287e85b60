use Rattle.std.proofs.Common.{◌≡◌, [], refl, sym, ◌∙◌, arith}
use Rattle.order_core.specs.Logs.{logs_of, entry_count}
use Rattle.machine.specs.FinishedRuns.{FinishedRun}
use Rattle.inline_tracker.specs.Walked.{walked_run}
use Rattle.inline_tracker.proofs.Walked.{units_are, units_small}
use Rattle.inline_tracker.proofs.finished.Finished.of_walk.Goals as goal

pub units_of-units-requires : goal.units_of-units-requires
units_of-units-requires c =
    let run : FinishedRun = walked_run c.args.logs.items c.args.outcomes.items c.args.output.items in
    let same = units_are c.args.setup.now run c.requires.finished in
    let small = units_small c.args.setup.now c.guest-ranges.ensures.ranges run c.requires.finished in
    rw c.as_slice.ensures.items (omega (arith, same, small))

pub invariant_of-result : goal.invariant_of-result
invariant_of-result c =
    let run : FinishedRun = walked_run c.args.logs.items c.args.outcomes.items c.args.output.items in
    let same = units_are c.args.setup.now run c.requires.finished in
    let small = units_small c.args.setup.now c.guest-ranges.ensures.ranges run c.requires.finished in
    let units : c.units_of-units.result ≡ entry_count (logs_of c.args.logs.items) = rw (← c.as_slice.ensures.items) c.units_of-units.ensures in
    record {
      given = [];
      has = c.requires.start (logs_of c.args.logs.items) c.requires.fits;
      place_is = refl;
      within = omega arith;
      count = units ∙ sym same;
      small = omega (arith, units, same, small);
    }
