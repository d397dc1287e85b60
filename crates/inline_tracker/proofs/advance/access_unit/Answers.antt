use Rattle.std.proofs.Common.{[], ◌∷◌, arith, length-append}
use Rattle.syscall_drain.specs.Pieces.{bytes_placed}
use Rattle.inline_tracker.specs.Seats.{local_in}
use Rattle.inline_tracker.proofs.Running.{room_in, at_seat, at_cell, word_within, output_few, access_stands}
use Rattle.inline_tracker.proofs.advance.access_unit.Goals as goal

pub take-place-requires-clause-seated : goal.take-place-requires-clause-seated
take-place-requires-clause-seated c = (at_seat c.args.setup.now c.args.run.now c.args.core c.args.unit c.index_mut-seat.result.now c.requires.stands c.requires.turn c.index_mut-seat.ensures.value).seated

pub take-place-requires-clause-room : goal.take-place-requires-clause-room
take-place-requires-clause-room c = (at_seat c.args.setup.now c.args.run.now c.args.core c.args.unit c.index_mut-seat.result.now c.requires.stands c.requires.turn c.index_mut-seat.ensures.value).room

pub take-place-requires-clause-unit : goal.take-place-requires-clause-unit
take-place-requires-clause-unit c = (at_seat c.args.setup.now c.args.run.now c.args.core c.args.unit c.index_mut-seat.result.now c.requires.stands c.requires.turn c.index_mut-seat.ensures.value).next

pub take-place-requires-clause-sound : goal.take-place-requires-clause-sound
take-place-requires-clause-sound c = (at_seat c.args.setup.now c.args.run.now c.args.core c.args.unit c.index_mut-seat.result.now c.requires.stands c.requires.turn c.index_mut-seat.ensures.value).sound

pub take-place-requires-clause-few : goal.take-place-requires-clause-few
take-place-requires-clause-few c = (at_cell c.args.setup.now c.args.run.now c.args.word c.index_mut-cell.result.now c.requires.stands (word_within c.args.setup.now c.args.run.now c.args.core c.args.unit c.args.word c.args.op c.requires.stands c.requires.turn c.requires.asked) c.index_mut-cell.ensures.value).few

pub take-place-requires-clause-range : goal.take-place-requires-clause-range
take-place-requires-clause-range c = (at_cell c.args.setup.now c.args.run.now c.args.word c.index_mut-cell.result.now c.requires.stands (word_within c.args.setup.now c.args.run.now c.args.core c.args.unit c.args.word c.args.op c.requires.stands c.requires.turn c.requires.asked) c.index_mut-cell.ensures.value).range

pub put_out-requires : goal.put_out-requires
put_out-requires c =
    let run = c.args.run.now in
    let stands = c.requires.stands in
    let few = output_few c.args.setup.now _ _ _ _ (access_stands c.args.setup.now c.args.run.now c.args.core c.args.word c.args.op c.args.unit c.index_mut-seat.result.now c.take-place.new.seat c.index_mut-cell.result.now c.take-place.new.cell c.take-place.result c.requires.stands c.requires.turn c.requires.asked c.index_mut-seat.ensures.value c.index_mut-cell.ensures.value c.take-place.ensures.core c.take-place.ensures.cell c.take-place.ensures.log c.take-place.ensures.seated c.take-place.ensures.placed c.take-place.ensures.kept) in
    let bytes = bytes_placed c.take-place.result (local_in c.take-place.new.seat).gathered in
    let room = room_in c.args.setup.now run c.args.core c.args.unit stands c.requires.turn in
    omega (arith, few, room, stands.order_room, stands.output_room, length-append run.output.items bytes, length-append run.order.items (c.args.core ∷ []))

pub push-requires : goal.push-requires
push-requires c = room_in c.args.setup.now c.args.run.now c.args.core c.args.unit c.requires.stands c.requires.turn

pub returns-clause-stands : goal.returns-clause-stands
returns-clause-stands c =
    let stands = c.requires.stands in
    record {
      along_order = rw (c.push.ensures, c.put_out.ensures) (access_stands c.args.setup.now c.args.run.now c.args.core c.args.word c.args.op c.args.unit c.index_mut-seat.result.now c.take-place.new.seat c.index_mut-cell.result.now c.take-place.new.cell c.take-place.result c.requires.stands c.requires.turn c.requires.asked c.index_mut-seat.ensures.value c.index_mut-cell.ensures.value c.take-place.ensures.core c.take-place.ensures.cell c.take-place.ensures.log c.take-place.ensures.seated c.take-place.ensures.placed c.take-place.ensures.kept);
      order_room = rw c.push.ensures stands.order_room;
      output_room = rw c.put_out.ensures stands.output_room;
      log_room = stands.log_room;
      outcome_room = stands.outcome_room;
      no_logs = stands.no_logs;
      no_outcomes = stands.no_outcomes;
    }
