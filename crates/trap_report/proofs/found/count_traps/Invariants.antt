use Rattle.std.proofs.Common.{◌≡◌, ◌≤◌, take}
use Rattle.std.specs.Prelude.{count_by, is_some}
use Rattle.trap_report.proofs.found.count_traps.Given as goal

abbrev pub invariant-loop-number : goal.invariant-loop-number
invariant-loop-number l =
    (l.count ≡ count_by (λ core. is_some core.trap) (take l.number l.finished.run.cores)) × (l.count ≤ l.number)
