use Rattle.std.proofs.Common.{take, length-take, arith}
use Rattle.machine.proofs.Along.{playable_short}
use Rattle.run_cli.proofs.Replaying.{stops_at_end}
use Rattle.run_cli.proofs.replay.run_along.Goals as goal

pub stopped-requires : goal.stopped-requires
stopped-requires c =
    let units = c.step_along-units.result in
    let order = c.args.order.now in
    let setup = c.in-Ok.ensures in
    omega (
      arith,
      length-take units order,
      c.requires.sound.most_units,
      c.step_along-units.ensures.within,
      playable_short c.args.setup.now c.requires.sound (take units order) (rw setup at c.step_along-units.ensures.playable),
    )

pub returns-clause-refused : goal.returns-clause-refused
returns-clause-refused c bytes =
    rw c.stopped-in-Err.ensures (stops_at_end c.args.setup.now c.args.order.now c.step_along-units.result c.in-Ok.tracker c.step_along-units.new.tracker
    c.step_along-units.ensures.within (omega arith) c.in-Ok.ensures c.step_along-units.ensures.playable c.step_along-units.ensures.after c.in-Err.ensures.unfinished.1)
