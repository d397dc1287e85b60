use Rattle.std.proofs.Common.{◌≡◌, ◌*◌, ◌≤◌, take, length}
use Rattle.std.specs.Prelude.{sum_by}
use Rattle.trap_report.proofs.found.count_notes.Given as goal

abbrev pub invariant-loop-number : goal.invariant-loop-number
invariant-loop-number l =
    (l.count ≡ sum_by (λ core. length core.notes) (take l.number l.finished.run.cores)) × (l.count ≤ l.number * 4294967296)
