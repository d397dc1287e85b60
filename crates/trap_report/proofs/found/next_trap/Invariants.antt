use Rattle.std.proofs.Common.{◌≡◌, drop}
use Rattle.trap_report.specs.Text.{by_core, trap_lines}
use Rattle.trap_report.proofs.found.next_trap.Given as goal

-- the traps that are left are those of the cores from this one on
abbrev pub invariant-loop-number : goal.invariant-loop-number
invariant-loop-number l =
    by_core trap_lines l.fn.core (drop l.fn.core l.finished.run.cores) ≡ by_core trap_lines l.number (drop l.number l.finished.run.cores)
