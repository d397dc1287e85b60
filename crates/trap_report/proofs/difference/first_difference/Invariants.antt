use Rattle.std.proofs.Common.{◌≡◌, ◌≤◌, ◌++◌, length, take}
use Rattle.std.specs.List.{flat_map}
use Rattle.trap_report.specs.Fields.{line_text}
use Rattle.trap_report.specs.Text.{text}
use Rattle.trap_report.specs.Left.{left, IsTakenAt}
use Rattle.trap_report.proofs.difference.first_difference.Given as goal

-- the bytes before this place are those before the lines that are left
abbrev pub invariant-loop-line : goal.invariant-loop-line
invariant-loop-line l = record {
  within : l.at ≤ length l.bytes;
  same : text l.setup l.fn.finished.run.order ≡ take l.at l.bytes ++ flat_map line_text (left l.setup l.fn.finished.run l.cursor.place);
  run : l.finished.run ≡ l.fn.finished.run;
  taken : IsTakenAt l.setup l.finished l.cursor.place l.cursor.taken;
}

abbrev pub decreases-loop-line : goal.decreases-loop-line
decreases-loop-line l = length (left l.setup l.fn.finished.run l.cursor.place)
