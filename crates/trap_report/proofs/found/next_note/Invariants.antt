use Rattle.std.proofs.Common.{◌≡◌, drop}
use Rattle.trap_report.specs.Left.{notes_from}
use Rattle.trap_report.proofs.found.next_note.Given as goal

-- the notes that are left are those from this place on
abbrev pub invariant-loop-number : goal.invariant-loop-number
invariant-loop-number l =
    notes_from l.fn.note l.fn.core (drop l.fn.core l.finished.run.cores) ≡ notes_from l.place l.number (drop l.number l.finished.run.cores)
