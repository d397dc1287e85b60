use Rattle.std.proofs.Common.{◌≡◌, ◌-◌, ◌++◌, List, replicate}
use Rattle.trap_report.specs.Reading.{LineKind, LineOf, Reported}
use Rattle.trap_report.specs.Walking.{reading}
use Rattle.trap_report.proofs.sections.skip_section.Given as goal

-- the lines that are left are to come
abbrev pub invariant-loop-left : goal.invariant-loop-left
invariant-loop-left l =
    (told : Reported) (kinds : List LineKind) → told.numbers.cores - 1 ≡ l.last
    → reading l.initial.lines.rest.now l.initial.lines.taken told (replicate l.count (LineOf l.section) ++ kinds)
    ≡ reading l.lines.rest.now l.lines.taken told (replicate l.left (LineOf l.section) ++ kinds)

abbrev pub decreases-loop-left : goal.decreases-loop-left
decreases-loop-left l = l.left
