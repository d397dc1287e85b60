use Rattle.std.proofs.Common.{rules, arith}
use Rattle.hart_actor.proofs.Turning.{same_are_of, along_begins, along_more, turn_done, turn_full, turn_waits, turn_ended}
use Rattle.hart_actor.proofs.hart.HartActor.turn.Goals as goal

pub turn-init : goal.turn-init
turn-init g c = record { next = search rules; finite = search rules; some = c.requires.some; along = along_begins c.args.quantum c.args.self.now }

pub step-requires : goal.step-requires
step-requires g c = record { of = same_are_of _ _ _ _ _ _ c.requires.of c.turn.invariant.along.same }

pub turn-preserved : goal.turn-preserved
turn-preserved g c = record {
  next = search rules;
  finite = search rules;
  some = omega (arith, c.if-left-eq0.false);
  along = along_more _ _ _ _ _ _ _ _ c.turn.invariant.along c.turn.invariant.some c.step.ensures.same c.in-Moved.ensures.step;
}

pub returns-then-left-eq0 : goal.returns-then-left-eq0
returns-then-left-eq0 g c =
    let ends = turn_done c.args.items.now c.args.replies.now _ _ _ _ _ _ _ _ c.turn.invariant.along c.turn.invariant.some c.step.ensures.same c.in-Moved.ensures.step c.if-left-eq0.true in
    record { of = same_are_of _ _ _ _ _ _ c.requires.of ends.same; same = ends.same; answer = ends.answer; units = ends.units; over = ends.over; moves = ends.moves }

pub returns-in-Full : goal.returns-in-Full
returns-in-Full g c =
    let ends = turn_full c.args.items.now c.args.replies.now _ _ _ _ _ _ _ c.turn.invariant.along c.step.ensures.same c.in-Full.ensures.step c.went_or.ensures in
    record { of = same_are_of _ _ _ _ _ _ c.requires.of ends.same; same = ends.same; answer = ends.answer; units = ends.units; over = ends.over; moves = ends.moves }

pub returns-in-Waits : goal.returns-in-Waits
returns-in-Waits g c =
    let ends = turn_waits c.args.items.now c.args.replies.now _ _ _ _ _ _ _ c.turn.invariant.along c.step.ensures.same c.in-Waits.ensures.step c.went_or-in-Waits.ensures in
    record { of = same_are_of _ _ _ _ _ _ c.requires.of ends.same; same = ends.same; answer = ends.answer; units = ends.units; over = ends.over; moves = ends.moves }

pub returns-in-Ended : goal.returns-in-Ended
returns-in-Ended g c =
    let ends = turn_ended c.args.items.now c.args.replies.now _ _ _ _ _ _ c.turn.invariant.along c.step.ensures.same c.in-Ended.ensures.step in
    record { of = same_are_of _ _ _ _ _ _ c.requires.of ends.same; same = ends.same; answer = ends.answer; units = ends.units; over = ends.over; moves = ends.moves }
