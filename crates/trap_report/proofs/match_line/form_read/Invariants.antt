use Rattle.std.proofs.Common.{drop}
use Rattle.std.specs.Option.{option_map}
use Rattle.trap_report.specs.Reading.{fields_of}
use Rattle.trap_report.specs.Matching.{Matching, parts_left}
use Rattle.trap_report.proofs.match_line.form_read.Given as goal

abbrev pub invariant-loop-field : goal.invariant-loop-field
invariant-loop-field l =
    Matching l.form (fields_of l.line) (drop l.field-index l.form) (parts_left 32 (option_map (λ rest. rest.now) l.rest)) l.good l.first
