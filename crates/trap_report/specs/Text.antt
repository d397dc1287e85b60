-- The report of a setup and an order: the lines that it has, and the text that these make. The format is this project's own.
use Rattle.std.specs.Prelude.{ℕ, suc, Option, Some, None, List, [], ◌∷◌, ◌++◌, map, length}
use Rattle.std.specs.List.{flat_map}
use Rattle.order_core.specs.Marked.{Marked}
use Rattle.machine.specs.Setups.{Setup, core_count}
use Rattle.machine.specs.Runs.{along, entries}
use Rattle.machine.specs.Outcomes.{Summary, summaries}
use Rattle.trap_report.specs.Fields.{line_text}
use Rattle.trap_report.specs.declared.report_line.HeaderLine.TheVariants.{Cores, Budget, Limit, Stack, Heap}
use Rattle.trap_report.specs.declared.report_line.Section.{Section}
use Rattle.trap_report.specs.declared.report_line.Section.TheVariants.{Units, Calls, Traps, Ends}
use Rattle.trap_report.specs.declared.report_line.ReportLine.{ReportLine}
use Rattle.trap_report.specs.declared.report_line.ReportLine.TheVariants.{Version, Header, Count, UnitOf, NoteOf, TrapOf, EndOf, Last}

-- what a report tells: the numbers of its setup, the units in their order, and how each core ended
pub record Numbers : Type 0 where
  pub cores : ℕ
  pub budget : ℕ
  pub limit : ℕ
  pub stack : ℕ
  pub heap : ℕ

pub record Report : Type 0 where
  pub numbers : Numbers
  pub units : List Marked
  pub cores : List Summary

abbrev pub header_lines : Numbers → List ReportLine
header_lines numbers =
    Header Cores numbers.cores ∷ Header Budget numbers.budget ∷ Header Limit numbers.limit ∷ Header Stack numbers.stack ∷ Header Heap numbers.heap ∷ []

abbrev pub unit_lines : List Marked → List ReportLine
unit_lines units = map (λ unit. UnitOf unit.0 unit.1) units

-- the lines of each core in turn, where the first is the core with this number
abbrev pub by_core : (ℕ → Summary → List ReportLine) → ℕ → List Summary → List ReportLine
by_core lines core [] = []
by_core lines core (summary ∷ summaries) = lines core summary ++ by_core lines (suc core) summaries

abbrev pub note_lines : ℕ → Summary → List ReportLine
note_lines core summary = map (NoteOf core) summary.notes

-- one line where there is something to tell, and else none
abbrev pub line_if : {T : Type 0} → (T → ReportLine) → Option T → List ReportLine
line_if line None = []
line_if line (Some told) = line told ∷ []

abbrev pub trap_lines : ℕ → Summary → List ReportLine
trap_lines core summary = line_if (TrapOf core) summary.trap

abbrev pub end_lines : ℕ → Summary → List ReportLine
end_lines core summary = line_if (EndOf core) summary.ending

-- a section: how many lines it has, and these lines
abbrev pub section_lines : Section → List ReportLine → List ReportLine
section_lines section lines = Count section (length lines) ∷ lines

-- all lines of a report
abbrev pub lines_of : Report → List ReportLine
lines_of report =
    (Version ∷ header_lines report.numbers)
    ++ (section_lines Units (unit_lines report.units)
    ++ (section_lines Calls (by_core note_lines 0 report.cores)
    ++ (section_lines Traps (by_core trap_lines 0 report.cores)
    ++ (section_lines Ends (by_core end_lines 0 report.cores)
    ++ Last ∷ []))))

abbrev pub numbers_of : Setup → Numbers
numbers_of s = record { cores = core_count s; budget = s.budget; limit = s.limit; stack = s.program.layout.stack; heap = s.program.layout.heap }

unfoldable pub report_of : Setup → List ℕ → Report
report_of s order = record { numbers = numbers_of s; units = entries s order; cores = summaries s (along s order) }

unfoldable pub text : Setup → List ℕ → List ℕ
text s order = flat_map line_text (lines_of (report_of s order))
