use Rattle.std.proofs.Common.{◌≡◌, map, Some}
use Rattle.inline_tracker.proofs.ending.take_cores.Given as goal

abbrev pub invariant-loop-seat : goal.invariant-loop-seat
invariant-loop-seat l =
    (l.logs.room ≡ l.initial.logs.room) × (l.outcomes.room ≡ l.initial.outcomes.room) ×
    (l.logs.items ≡ map (λ seat. seat.log) l.yielded) × (map Some l.outcomes.items ≡ map (λ seat. seat.outcome) l.yielded)
