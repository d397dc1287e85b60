-- Proof form: the lines that are left of a report from a place in it on, and what a finished run has of its report.
use Rattle.std.specs.Prelude.{◌≡◌, ℕ, suc, ◌<◌, Option, Some, None, List, [], ◌∷◌, ◌++◌, map, drop, length, slice_get, slice_index}
use Rattle.order_core.specs.Logs.{log_of}
use Rattle.order_core.specs.Marked.{part_of, marks_of}
use Rattle.machine.specs.Setups.{Setup}
use Rattle.machine.specs.Outcomes.{Summary}
use Rattle.machine.specs.FinishedRuns.{FinishedRun}
use Rattle.inline_tracker.specs.Seen.{FinishedSeen}
use Rattle.trap_report.specs.Text.{Numbers, Report, report_of, numbers_of, header_lines, unit_lines, by_core, note_lines, trap_lines, end_lines, section_lines, lines_of}
use Rattle.trap_report.specs.declared.report_line.HeaderLine.{HeaderLine}
use Rattle.trap_report.specs.declared.report_line.HeaderLine.TheVariants.{Cores, Budget, Limit, Stack, Heap}
use Rattle.trap_report.specs.declared.report_line.Section.TheVariants.{Units, Calls, Traps, Ends}
use Rattle.trap_report.specs.declared.report_line.ReportLine.{ReportLine}
use Rattle.trap_report.specs.declared.report_line.ReportLine.TheVariants.{NoteOf, Last}
use Rattle.trap_report.specs.declared.place.LinePlace.{LinePlace}
use Rattle.trap_report.specs.declared.place.LinePlace.TheVariants.{AtVersion, AtHeader, AtUnits, AtUnit, AtNote, AtTrap, AtEnd, Done}

-- from each section on
abbrev pub from_ends : List Summary → List ReportLine
from_ends cores = section_lines Ends (by_core end_lines 0 cores) ++ Last ∷ []

abbrev pub from_traps : List Summary → List ReportLine
from_traps cores = section_lines Traps (by_core trap_lines 0 cores) ++ from_ends cores

abbrev pub from_calls : List Summary → List ReportLine
from_calls cores = section_lines Calls (by_core note_lines 0 cores) ++ from_traps cores

abbrev pub from_units : Report → List ReportLine
from_units report = section_lines Units (unit_lines report.units) ++ from_calls report.cores

-- the number that a line of the header tells, and what follows that line
abbrev pub header_number : Numbers → HeaderLine → ℕ
header_number numbers Cores = numbers.cores
header_number numbers Budget = numbers.budget
header_number numbers Limit = numbers.limit
header_number numbers Stack = numbers.stack
header_number numbers Heap = numbers.heap

abbrev pub following : HeaderLine → LinePlace
following Cores = AtHeader Budget
following Budget = AtHeader Limit
following Limit = AtHeader Stack
following Stack = AtHeader Heap
following Heap = AtUnits

abbrev pub headers_before : HeaderLine → ℕ
headers_before Cores = 0
headers_before Budget = 1
headers_before Limit = 2
headers_before Stack = 3
headers_before Heap = 4

-- the notes of these cores, from a place in those of the first on
abbrev pub notes_from : ℕ → ℕ → List Summary → List ReportLine
notes_from note core [] = []
notes_from note core (summary ∷ summaries) = map (NoteOf core) (drop note summary.notes) ++ by_core note_lines (suc core) summaries

-- the lines of a report from a place on
unfoldable pub lines_from : Report → LinePlace → List ReportLine
lines_from report AtVersion = lines_of report
lines_from report (AtHeader next) = drop (headers_before next) (header_lines report.numbers) ++ from_units report
lines_from report AtUnits = from_units report
lines_from report (AtUnit place) = unit_lines (drop place report.units) ++ from_calls report.cores
lines_from report (AtNote core note) = notes_from note core (drop core report.cores) ++ from_traps report.cores
lines_from report (AtTrap core) = by_core trap_lines core (drop core report.cores) ++ from_ends report.cores
lines_from report (AtEnd core) = by_core end_lines core (drop core report.cores) ++ Last ∷ []
lines_from report Done = []

-- those of a setup's report of a finished run
abbrev pub left : Setup → FinishedRun → LinePlace → List ReportLine
left setup finished place = lines_from (report_of setup finished.order) place

-- a line was given, and what is left follows it; or nothing was left
abbrev pub GivesLine : List ReportLine → List ReportLine → Option ReportLine → Type 0
GivesLine old new None = old ≡ []
GivesLine old new (Some line) = old ≡ line ∷ new

-- ---- what a finished run has of its report

-- the order names the units' cores, each of which has a log; each log is its core's part of the units; each core has an end
pub record Tells (setup : Setup) (finished : FinishedRun) (report : Report) : Type 0 where
  pub numbers : report.numbers ≡ numbers_of setup
  pub cores : report.cores ≡ finished.cores
  pub count : length finished.cores ≡ setup.program.layout.cores
  pub ends : length (by_core end_lines 0 finished.cores) ≡ length finished.cores
  pub order : marks_of report.units ≡ finished.order
  pub known : (place core : ℕ) → slice_get finished.order place ≡ Some core → core < length finished.logs
  pub parts : (core : ℕ) → core < length finished.logs → log_of finished.logs core ≡ part_of core report.units

abbrev pub TellsRun : Setup → FinishedRun → Type 0
TellsRun setup finished = Tells setup finished (report_of setup finished.order)

-- the order was given to this place, and the entries that are left of each log are its core's part of the units from there on
pub record IsTakenTo (setup : Setup) (finished : FinishedSeen) (place : ℕ) (taken : List ℕ) : Type 0 where
  pub given : finished.given ≡ place
  pub size : length taken ≡ 256
  pub left : (core : ℕ) → core < length finished.run.logs → drop (slice_index taken core) (log_of finished.run.logs core) ≡ part_of core (drop place (report_of setup finished.run.order).units)

-- what holds of the counts of taken entries until the last unit was told
abbrev pub IsTakenAt : Setup → FinishedSeen → LinePlace → List ℕ → Type 0
IsTakenAt setup finished AtVersion = IsTakenTo setup finished 0
IsTakenAt setup finished (AtHeader next) = IsTakenTo setup finished 0
IsTakenAt setup finished AtUnits = IsTakenTo setup finished 0
IsTakenAt setup finished (AtUnit place) = IsTakenTo setup finished place
IsTakenAt setup finished (AtNote core note) = λ taken. Unit {0}
IsTakenAt setup finished (AtTrap core) = λ taken. Unit {0}
IsTakenAt setup finished (AtEnd core) = λ taken. Unit {0}
IsTakenAt setup finished Done = λ taken. Unit {0}
