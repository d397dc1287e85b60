use Rattle.std.proofs.Common.{◌≡◌, ◌+◌, ◌-◌, ◌≤◌, ◌++◌, List, [], length, replicate}
use Rattle.std.specs.Prelude.{All}
use Rattle.trap_report.specs.Text.{Numbers}
use Rattle.trap_report.specs.Reading.{LineKind, LineOf}
use Rattle.trap_report.specs.Walking.{reading}
use Rattle.trap_report.specs.declared.report_line.Section.TheVariants.{Units}
use Rattle.trap_report.proofs.sections.fill_order.Given as goal

-- the cores so far stand in the order, and the lines of the others are to come
abbrev pub invariant-loop-left : goal.invariant-loop-left
invariant-loop-left l = record {
  read : (numbers : Numbers) (kinds : List LineKind) → numbers.cores - 1 ≡ l.last
      → reading l.initial.lines.rest.now l.initial.lines.taken (record { numbers = numbers; order = [] }) (replicate l.count (LineOf Units) ++ kinds)
      ≡ reading l.lines.rest.now l.lines.taken (record { numbers = numbers; order = l.order.items }) (replicate l.left (LineOf Units) ++ kinds);
  room : length l.order.items + l.left ≡ l.order.room;
  cores : All (λ core. core ≤ l.last) l.order.items;
}

abbrev pub decreases-loop-left : goal.decreases-loop-left
decreases-loop-left l = l.left
