-- The words of a report (this project's own).
use Rattle.std.specs.Prelude.{ℕ, Bool, true, false, List, codes}
use Rattle.record_lane.specs.declared.record.MeetKind.{MeetKind}
use Rattle.record_lane.specs.declared.record.MeetKind.TheVariants.{Call, Verdict}
use Rattle.trap_report.specs.declared.report_line.HeaderLine.{HeaderLine}
use Rattle.trap_report.specs.declared.report_line.HeaderLine.TheVariants.{Cores, Budget, Limit, Stack, Heap}
use Rattle.trap_report.specs.declared.report_line.Section.{Section}
use Rattle.trap_report.specs.declared.report_line.Section.TheVariants.{Units, Calls, Traps, Ends}

abbrev pub header_name : HeaderLine → List ℕ
header_name Cores = codes "cores"
header_name Budget = codes "budget"
header_name Limit = codes "limit"
header_name Stack = codes "stack"
header_name Heap = codes "heap"

abbrev pub section_name : Section → List ℕ
section_name Units = codes "units"
section_name Calls = codes "calls"
section_name Traps = codes "traps"
section_name Ends = codes "ends"

abbrev pub kind_name : MeetKind → List ℕ
kind_name Call = codes "call"
kind_name Verdict = codes "sink"

abbrev pub verdict_name : Bool → List ℕ
verdict_name false = codes "go"
verdict_name true = codes "stop"
