use Rattle.syscall_drain.specs.declared.ask.CoreAsk.TheVariants.{Quiet as AsksNothing}
use Rattle.machine.proofs.ByAsk.{touches_nothing}
use Rattle.inline_tracker.specs.Standing.{core_along}
use Rattle.inline_tracker.proofs.Seating.{asks_of}
use Rattle.inline_tracker.proofs.Standing.{quiet_stands}
use Rattle.inline_tracker.proofs.Running.{room_in, at_seat}
use Rattle.inline_tracker.proofs.advance.quiet_unit.Goals as goal

pub quiet-requires-clause-seated : goal.quiet-requires-clause-seated
quiet-requires-clause-seated c = (at_seat c.args.setup.now c.args.run.now c.args.core c.args.unit c.index_mut-seat.result.now c.requires.stands c.requires.turn c.index_mut-seat.ensures.value).seated

pub quiet-requires-clause-room : goal.quiet-requires-clause-room
quiet-requires-clause-room c = (at_seat c.args.setup.now c.args.run.now c.args.core c.args.unit c.index_mut-seat.result.now c.requires.stands c.requires.turn c.index_mut-seat.ensures.value).room

pub quiet-requires-clause-unit : goal.quiet-requires-clause-unit
quiet-requires-clause-unit c = (at_seat c.args.setup.now c.args.run.now c.args.core c.args.unit c.index_mut-seat.result.now c.requires.stands c.requires.turn c.index_mut-seat.ensures.value).next

pub quiet-requires-clause-sound : goal.quiet-requires-clause-sound
quiet-requires-clause-sound c = (at_seat c.args.setup.now c.args.run.now c.args.core c.args.unit c.index_mut-seat.result.now c.requires.stands c.requires.turn c.index_mut-seat.ensures.value).sound

pub push-requires : goal.push-requires
push-requires c = room_in c.args.setup.now c.args.run.now c.args.core c.args.unit c.requires.stands c.requires.turn

pub returns-clause-stands : goal.returns-clause-stands
returns-clause-stands c =
    let s = c.args.setup.now in
    let run = c.args.run.now in
    let stands = c.requires.stands in
    let turn = c.requires.turn in
    let asks = asks_of s.program (core_along s run c.args.core).local c.args.unit AsksNothing turn.next.is c.requires.asked in
    let none = touches_nothing s (core_along s run c.args.core) asks in
    record {
      along_order = rw c.push.ensures (quiet_stands s run.order.items run.seats.items run.cells.items run.output.items c.args.core c.index_mut-seat.result.now c.quiet.new.seat stands.along_order turn.core c.index_mut-seat.ensures.value turn.running none c.quiet.ensures.core c.quiet.ensures.log c.quiet.ensures.seated);
      order_room = rw c.push.ensures stands.order_room;
      output_room = stands.output_room;
      log_room = stands.log_room;
      outcome_room = stands.outcome_room;
      no_logs = stands.no_logs;
      no_outcomes = stands.no_outcomes;
    }
