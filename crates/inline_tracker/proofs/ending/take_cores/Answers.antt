use Rattle.std.proofs.Common.{◌∷◌, [], map, length, Some, sym, ap, ◌∙◌, arith}
use Rattle.std.specs.Prelude.{IsSome}
use Rattle.std.proofs.lemmas.List.{length-map, map-append, map-id}
use Rattle.std.proofs.lemmas.Iterator.Adapters.{YieldsList-from_vec}
use Rattle.std.proofs.lemmas.Iterator.Consumers.{YieldsList-turn, YieldsList-end}
use Rattle.inline_tracker.proofs.Lists.{some_more}
use Rattle.inline_tracker.proofs.ending.take_cores.Goals as goal

pub push-requires : goal.push-requires
push-requires c =
    let gives = c.into_iter-seat-iterator.ensures.into_iter_gives in
    let t = YieldsList-turn (YieldsList-from_vec {s = c.into_iter-seat-iterator.result} c.args.seats.items gives.0 (gives.1 ∙ c.args.seats.ok.0)) c.loop-seat.yielded c.loop-seat.seat-iterator c.loop-seat.yielded_by c.next.result c.next.new.self c.in-Some.seat c.in-Some.is c.next.ensures.steps in
    let kept = c.loop-seat.invariant in
    let size = ap length kept.2 in
    rw (kept.0, c.requires.logs) (omega (arith, t.0, size, length-map c.loop-seat.yielded (λ seat. seat.log)))

pub keep_outcome-requires : goal.keep_outcome-requires
keep_outcome-requires c =
    let gives = c.into_iter-seat-iterator.ensures.into_iter_gives in
    let t = YieldsList-turn (YieldsList-from_vec {s = c.into_iter-seat-iterator.result} c.args.seats.items gives.0 (gives.1 ∙ c.args.seats.ok.0)) c.loop-seat.yielded c.loop-seat.seat-iterator c.loop-seat.yielded_by c.next.result c.next.new.self c.in-Some.seat c.in-Some.is c.next.ensures.steps in
    let kept = c.loop-seat.invariant in
    let size = ap length kept.3 in
    rw (kept.1, c.requires.outcomes) (omega (arith, t.0, size, length-map c.loop-seat.yielded (λ seat. seat.outcome), length-map c.loop-seat.outcomes.items (λ x. Some x)))

pub loop-seat-preserved : goal.loop-seat-preserved
loop-seat-preserved c =
    let gives = c.into_iter-seat-iterator.ensures.into_iter_gives in
    let t = YieldsList-turn (YieldsList-from_vec {s = c.into_iter-seat-iterator.result} c.args.seats.items gives.0 (gives.1 ∙ c.args.seats.ok.0)) c.loop-seat.yielded c.loop-seat.seat-iterator c.loop-seat.yielded_by c.next.result c.next.new.self c.in-Some.seat c.in-Some.is c.next.ensures.steps in
    let kept = c.loop-seat.invariant in
    let some : IsSome c.in-Some.seat.outcome = rw t.1 (c.requires.ended (length c.loop-seat.yielded) c.in-Some.seat t.0) in (
      rw c.push.ensures kept.0,
      rw c.keep_outcome.ensures kept.1,
      rw (c.push.ensures, kept.2) (sym (map-append (λ seat. seat.log) c.loop-seat.yielded (c.in-Some.seat ∷ []))),
      rw c.keep_outcome.ensures (some_more c.loop-seat.outcomes.items _ c.in-Some.seat.outcome kept.3 some ∙ sym (map-append (λ seat. seat.outcome) c.loop-seat.yielded (c.in-Some.seat ∷ []))),
    )

pub returns-clause-logs : goal.returns-clause-logs
returns-clause-logs c =
    let gives = c.into_iter-seat-iterator.ensures.into_iter_gives in
    let e = YieldsList-end (YieldsList-from_vec {s = c.into_iter-seat-iterator.result} c.args.seats.items gives.0 (gives.1 ∙ c.args.seats.ok.0)) c.loop-seat.yielded c.loop-seat.seat-iterator c.loop-seat.yielded_by c.next.result c.next.new.self c.in-None.is c.next.ensures.steps in
    c.loop-seat.invariant.2 ∙ ap (λ seats. map (λ seat. seat.log) seats) (sym (map-id c.loop-seat.yielded) ∙ e.0)

pub returns-clause-outcomes : goal.returns-clause-outcomes
returns-clause-outcomes c =
    let gives = c.into_iter-seat-iterator.ensures.into_iter_gives in
    let e = YieldsList-end (YieldsList-from_vec {s = c.into_iter-seat-iterator.result} c.args.seats.items gives.0 (gives.1 ∙ c.args.seats.ok.0)) c.loop-seat.yielded c.loop-seat.seat-iterator c.loop-seat.yielded_by c.next.result c.next.new.self c.in-None.is c.next.ensures.steps in
    c.loop-seat.invariant.3 ∙ ap (λ seats. map (λ seat. seat.outcome) seats) (sym (map-id c.loop-seat.yielded) ∙ e.0)
