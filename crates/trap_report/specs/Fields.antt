-- The text of one line of a report: the fields of each kind of line, one space between two of them, and a line feed (this project's own).
use Rattle.std.specs.Prelude.{ℕ, Option, Some, None, List, [], ◌∷◌, ◌++◌, codes, decimal}
use Rattle.rv_execute.specs.Faults.{fault_number}
use Rattle.record_lane.specs.declared.note.CallNote.{CallNote}
use Rattle.record_lane.specs.declared.reply.Trap.{Trap}
use Rattle.syscall_drain.specs.declared.end.End.{End}
use Rattle.syscall_drain.specs.declared.end.End.TheVariants.{Exit, Trapped, Fault, Budget, Spent}
use Rattle.order_core.specs.declared.entry.Access.{Access}
use Rattle.trap_report.specs.Digits.{hex}
use Rattle.trap_report.specs.Names.{header_name, section_name, kind_name, verdict_name}
use Rattle.trap_report.specs.declared.report_line.ReportLine.{ReportLine}
use Rattle.trap_report.specs.declared.report_line.ReportLine.TheVariants.{Version, Header, Count, UnitOf, NoteOf, TrapOf, EndOf, Last}

-- the access of a unit, if it made one: the word, the number and the payload found
abbrev pub touch_fields : Option Access → List (List ℕ)
touch_fields None = []
touch_fields (Some access) = decimal access.word ∷ decimal access.number ∷ hex 8 access.found ∷ []

abbrev pub note_fields : CallNote → List (List ℕ)
note_fields note =
    decimal note.step ∷ hex 8 note.pc ∷ kind_name note.kind ∷ decimal note.call ∷ hex 32 note.tags ∷ hex 1 note.buffer ∷ verdict_name note.stop ∷ []

abbrev pub trap_fields : Trap → List (List ℕ)
trap_fields trap = decimal trap.step ∷ hex 8 trap.pc ∷ decimal trap.kind ∷ hex 1 trap.bits ∷ []

abbrev pub end_fields : End → List (List ℕ)
end_fields (Exit code) = codes "exit" ∷ decimal code ∷ []
end_fields Trapped = codes "trapped" ∷ []
end_fields (Fault fault) = codes "fault" ∷ decimal (fault_number fault) ∷ []
end_fields Budget = codes "budget" ∷ []
end_fields Spent = codes "spent" ∷ []

-- the fields of each kind of line
abbrev pub fields : ReportLine → List (List ℕ)
fields Version = codes "taint-report" ∷ codes "1" ∷ []
fields (Header name number) = header_name name ∷ decimal number ∷ []
fields (Count section number) = section_name section ∷ decimal number ∷ []
fields (UnitOf core entry) = decimal core ∷ touch_fields entry.touch
fields (NoteOf core note) = decimal core ∷ note_fields note
fields (TrapOf core trap) = decimal core ∷ trap_fields trap
fields (EndOf core end) = decimal core ∷ end_fields end
fields Last = codes "end" ∷ []

-- what follows the first field: each field after a space, and the line feed
abbrev pub rest_of_line : List (List ℕ) → List ℕ
rest_of_line [] = 10 ∷ []
rest_of_line (field ∷ fields) = 32 ∷ (field ++ rest_of_line fields)

-- the fields of a line as its text
abbrev pub spelled : List (List ℕ) → List ℕ
spelled [] = 10 ∷ []
spelled (field ∷ fields) = field ++ rest_of_line fields

abbrev pub line_text : ReportLine → List ℕ
line_text line = spelled (fields line)
