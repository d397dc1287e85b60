use Rattle.syscall_drain.specs.declared.ask.CoreAsk.TheVariants.{Ended}
use Rattle.syscall_drain.proofs.Units.{running_asks}
use Rattle.inline_tracker.specs.Standing.{core_along}
use Rattle.inline_tracker.proofs.Seating.{asks_of}
use Rattle.inline_tracker.proofs.Running.{at_run}
use Rattle.inline_tracker.proofs.advance.run_unit.Goals as goal

pub unreachable-requires : goal.unreachable-requires
unreachable-requires c =
    let s = c.args.setup.now in
    let run = c.args.run.now in
    let turn = c.requires.turn in
    let core = core_along s run c.args.core in
    let asks = asks_of s.program core.local c.args.unit Ended turn.next.is c.in-Ended.is in
    running_asks s.program core.local turn.running ((at_run s run c.requires.stands).reached.cores c.args.core).sound asks
