use Rattle.std.proofs.Common.{◌≡◌, ◌++◌, length}
use Rattle.std.specs.List.{flat_map}
use Rattle.trap_report.specs.Fields.{line_text}
use Rattle.trap_report.specs.Text.{text}
use Rattle.trap_report.specs.Left.{left, IsTakenAt}
use Rattle.trap_report.specs.Writing.{WroteFront}
use Rattle.trap_report.proofs.writer.write_report.Given as goal

abbrev pub invariant-loop-line : goal.invariant-loop-line
invariant-loop-line g l = record {
  written : WroteFront (text l.setup l.fn.finished.run.order) (l.block ++ flat_map line_text (left l.setup l.fn.finished.run l.cursor.place))
      (record { written = g.S.Sink.written l.initial.sink; faults = g.S.Sink.faults l.initial.sink })
      (record { written = g.S.Sink.written l.sink; faults = g.S.Sink.faults l.sink });
  same : l.finished.run ≡ l.fn.finished.run;
  taken : IsTakenAt l.setup l.finished l.cursor.place l.cursor.taken;
}

abbrev pub decreases-loop-line : goal.decreases-loop-line
decreases-loop-line g l = length (left l.setup l.fn.finished.run l.cursor.place)
