-- The lines that are left at each place: the next one, and what follows it.
use Rattle.std.proofs.Common.{◌≡◌, ℕ, zero, suc, ◌+◌, ◌<◌, ◌≤◌, cond, List, [], ◌∷◌, map, length, drop, Option, Some, None, refl, sym, ap, ◌∙◌, add-one, length-append, arith}
use Rattle.std.specs.Prelude.{slice_get, sum_by, count_by, is_some, IsSome}
use Rattle.std.proofs.lemmas.List.{drop_all, length-map}
use Rattle.std.proofs.lemmas.List.Sums.{sum_by-cons}
use Rattle.std.specs.List.{flat_map, range_with_len}
use Rattle.record_lane.specs.declared.note.CallNote.{CallNote}
use Rattle.record_lane.specs.declared.reply.Trap.{Trap}
use Rattle.syscall_drain.specs.declared.end.End.{End}
use Rattle.order_core.specs.Marked.{Marked}
use Rattle.machine.specs.Outcomes.{Summary}
use Rattle.machine.specs.Setups.{Setup}
use Rattle.trap_report.specs.Fields.{line_text}
use Rattle.trap_report.specs.Text.{Report, report_of, text, by_core, note_lines, trap_lines, end_lines, line_if}
use Rattle.trap_report.specs.Left.{lines_from, notes_from, header_number, following}
use Rattle.trap_report.specs.declared.report_line.HeaderLine.{HeaderLine}
use Rattle.trap_report.specs.declared.report_line.HeaderLine.TheVariants.{Cores, Budget, Limit, Stack, Heap}
use Rattle.trap_report.specs.declared.report_line.Section.TheVariants.{Units, Calls, Traps, Ends}
use Rattle.trap_report.specs.declared.report_line.ReportLine.{ReportLine}
use Rattle.trap_report.specs.declared.report_line.ReportLine.TheVariants.{Version, Header, Count, UnitOf, NoteOf, TrapOf, EndOf, Last}
use Rattle.trap_report.specs.declared.place.LinePlace.{LinePlace}
use Rattle.trap_report.specs.declared.place.LinePlace.TheVariants.{AtVersion, AtHeader, AtUnits, AtUnit, AtNote, AtTrap, AtEnd, Done}

-- ---- lists

pub drop_found : {A : Type 0} (xs : List A) (i : ℕ) (x : A) → slice_get xs i ≡ Some x → drop i xs ≡ x ∷ drop (i + 1) xs
drop_found [] i x h = cc
drop_found (y ∷ ys) zero x h = cc
drop_found (y ∷ ys) (suc i) x h = rw add-one (rw add-one at (drop_found ys i x h))

pub drop_missing : {A : Type 0} (xs : List A) (i : ℕ) → slice_get xs i ≡ None → drop i xs ≡ []
drop_missing [] zero h = refl
drop_missing [] (suc i) h = refl
drop_missing (y ∷ ys) zero h = cc
drop_missing (y ∷ ys) (suc i) h = drop_missing ys i h

-- ---- how many lines a section has

pub length_notes : (core : ℕ) (cores : List Summary) → length (by_core note_lines core cores) ≡ sum_by (λ core. length core.notes) cores
length_notes core [] = refl
length_notes core (summary ∷ cores) =
    length-append (note_lines core summary) (by_core note_lines (suc core) cores)
    ∙ ap (λ n. n + length (by_core note_lines (suc core) cores)) (length-map summary.notes (NoteOf core))
    ∙ ap (λ n. length summary.notes + n) (length_notes (suc core) cores)
    ∙ sym (sum_by-cons (λ (core : Summary). length core.notes) summary cores)

length_trap : (core : ℕ) (trap : Option Trap) (summary : Summary) → summary.trap ≡ trap → length (trap_lines core summary) ≡ cond (is_some summary.trap) 1 0
length_trap core None summary h = rw h refl
length_trap core (Some trap) summary h = rw h refl

pub length_traps : (core : ℕ) (cores : List Summary) → length (by_core trap_lines core cores) ≡ count_by (λ core. is_some core.trap) cores
length_traps core [] = refl
length_traps core (summary ∷ cores) =
    length-append (trap_lines core summary) (by_core trap_lines (suc core) cores)
    ∙ ap (λ n. n + length (by_core trap_lines (suc core) cores)) (length_trap core summary.trap summary refl)
    ∙ ap (λ n. cond (is_some summary.trap) 1 0 + n) (length_traps (suc core) cores)
    ∙ sym (sum_by-cons (λ (core : Summary). cond (is_some core.trap) 1 0) summary cores)

length_end : (core : ℕ) (ending : Option End) → IsSome ending → length (line_if (EndOf core) ending) ≡ 1
length_end core None h = cc
length_end core (Some end) h = refl

-- where each core has an end
pub length_ends : (core : ℕ) (summary_of : ℕ → Summary) (first count : ℕ) → ((c : ℕ) → c < first + count → IsSome (summary_of c).ending) → length (by_core end_lines core (map summary_of (range_with_len first count))) ≡ count
length_ends core summary_of first zero h = refl
length_ends core summary_of first (suc count) h =
    let rest = by_core end_lines (suc core) (map summary_of (range_with_len (first + 1) count)) in
    length-append (end_lines core (summary_of first)) rest
    ∙ ap (λ n. n + length rest) (length_end core (summary_of first).ending (h first (omega arith)))
    ∙ ap (λ n. 1 + n) (length_ends (suc core) summary_of (first + 1) count (λ c k. h c (omega arith)))
    ∙ (let last : 1 + count ≡ suc count = omega arith in last)

-- ---- the next note and the next trap

pub note_found : (cores : List Summary) (place core : ℕ) (summary : Summary) (note : CallNote) → slice_get cores core ≡ Some summary → slice_get summary.notes place ≡ Some note → notes_from place core (drop core cores) ≡ NoteOf core note ∷ notes_from (place + 1) core (drop core cores)
note_found cores place core summary note e f = rw (drop_found cores core summary e, drop_found summary.notes place note f) refl

from_first : (core : ℕ) (cores : List Summary) → by_core note_lines core cores ≡ notes_from 0 core cores
from_first core [] = refl
from_first core (summary ∷ cores) = refl

pub no_note : (cores : List Summary) (place core : ℕ) (summary : Summary) → slice_get cores core ≡ Some summary → slice_get summary.notes place ≡ None → notes_from place core (drop core cores) ≡ notes_from 0 (core + 1) (drop (core + 1) cores)
no_note cores place core summary e f = rw (drop_found cores core summary e, drop_missing summary.notes place f, add-one) (from_first (suc core) (drop (suc core) cores))

pub no_notes : (cores : List Summary) (place core : ℕ) → length cores ≤ core → notes_from place core (drop core cores) ≡ []
no_notes cores place core h = rw (drop_all core cores h) refl

pub trap_found : (cores : List Summary) (core : ℕ) (summary : Summary) (trap : Trap) → slice_get cores core ≡ Some summary → summary.trap ≡ Some trap → by_core trap_lines core (drop core cores) ≡ TrapOf core trap ∷ by_core trap_lines (core + 1) (drop (core + 1) cores)
trap_found cores core summary trap e h = rw (drop_found cores core summary e, h, add-one) refl

pub no_trap : (cores : List Summary) (core : ℕ) (summary : Summary) → slice_get cores core ≡ Some summary → summary.trap ≡ None → by_core trap_lines core (drop core cores) ≡ by_core trap_lines (core + 1) (drop (core + 1) cores)
no_trap cores core summary e h = rw (drop_found cores core summary e, h, add-one) refl

pub no_traps : (cores : List Summary) (core : ℕ) → length cores ≤ core → by_core trap_lines core (drop core cores) ≡ []
no_traps cores core h = rw (drop_all core cores h) refl

-- ---- the line at each place

-- a line that is the next one may stand for it
pub given : (old : List ReportLine) (next line : ReportLine) (rest : List ReportLine) → old ≡ next ∷ rest → line ≡ next → old ≡ line ∷ rest
given old next line rest e f = cc

pub version_next : (report : Report) → lines_from report AtVersion ≡ Version ∷ lines_from report (AtHeader Cores)
unfolding lines_from
version_next report = refl

pub header_next : (report : Report) (next : HeaderLine) → lines_from report (AtHeader next) ≡ Header next (header_number report.numbers next) ∷ lines_from report (following next)
unfolding lines_from
header_next report Cores = refl
header_next report Budget = refl
header_next report Limit = refl
header_next report Stack = refl
header_next report Heap = refl

pub header_told : (report : Report) (next : HeaderLine) (number : ℕ) (place : LinePlace) → number ≡ header_number report.numbers next → place ≡ following next → lines_from report (AtHeader next) ≡ Header next number ∷ lines_from report place
header_told report next number place n p = rw (n, p) (header_next report next)

pub units_next : (report : Report) → lines_from report AtUnits ≡ Count Units (length report.units) ∷ lines_from report (AtUnit 0)
unfolding lines_from
units_next report = ap (λ n. Count Units n ∷ lines_from report (AtUnit 0)) (length-map report.units (λ (unit : Marked). UnitOf unit.0 unit.1))

pub unit_next : (report : Report) (place : ℕ) (unit : Marked) → drop place report.units ≡ unit ∷ drop (place + 1) report.units → lines_from report (AtUnit place) ≡ UnitOf unit.0 unit.1 ∷ lines_from report (AtUnit (place + 1))
unfolding lines_from
unit_next report place unit e = rw e refl

pub units_told : (report : Report) (place : ℕ) → drop place report.units ≡ [] → lines_from report (AtUnit place) ≡ Count Calls (sum_by (λ core. length core.notes) report.cores) ∷ lines_from report (AtNote 0 0)
unfolding lines_from
units_told report place h = rw (h, ← length_notes 0 report.cores, ← from_first 0 report.cores) refl

pub note_next : (report : Report) (cores : List Summary) (core place owner found : ℕ) (note : CallNote) → report.cores ≡ cores → notes_from place core (drop core cores) ≡ NoteOf owner note ∷ notes_from found owner (drop owner cores) → lines_from report (AtNote core place) ≡ NoteOf owner note ∷ lines_from report (AtNote owner found)
unfolding lines_from
note_next report cores core place owner found note e h = rw (e, h) refl

pub notes_told : (report : Report) (cores : List Summary) (core place : ℕ) → report.cores ≡ cores → notes_from place core (drop core cores) ≡ [] → lines_from report (AtNote core place) ≡ Count Traps (count_by (λ core. is_some core.trap) report.cores) ∷ lines_from report (AtTrap 0)
unfolding lines_from
notes_told report cores core place e h = rw (e, h, ← length_traps 0 cores) refl

pub trap_next : (report : Report) (cores : List Summary) (core owner : ℕ) (trap : Trap) → report.cores ≡ cores → by_core trap_lines core (drop core cores) ≡ TrapOf owner trap ∷ by_core trap_lines (owner + 1) (drop (owner + 1) cores) → lines_from report (AtTrap core) ≡ TrapOf owner trap ∷ lines_from report (AtTrap (owner + 1))
unfolding lines_from
trap_next report cores core owner trap e h = rw (e, h) refl

pub traps_told : (report : Report) (cores : List Summary) (core count : ℕ) → report.cores ≡ cores → length (by_core end_lines 0 cores) ≡ count → by_core trap_lines core (drop core cores) ≡ [] → lines_from report (AtTrap core) ≡ Count Ends count ∷ lines_from report (AtEnd 0)
unfolding lines_from
traps_told report cores core count e n h = rw (e, h, ← n) refl

pub end_next : (report : Report) (core : ℕ) (summary : Summary) (end : End) → slice_get report.cores core ≡ Some summary → summary.ending ≡ Some end → lines_from report (AtEnd core) ≡ EndOf core end ∷ lines_from report (AtEnd (core + 1))
unfolding lines_from
end_next report core summary end e h = rw (drop_found report.cores core summary e, h, add-one) refl

pub ends_told : (report : Report) (core : ℕ) → length report.cores ≤ core → lines_from report (AtEnd core) ≡ Last ∷ lines_from report Done
unfolding lines_from
ends_told report core h = rw (drop_all core report.cores h) refl

pub done : (report : Report) → lines_from report Done ≡ []
unfolding lines_from
done report = refl

pub at_version : (report : Report) (old new : LinePlace) (line : ReportLine) → old ≡ AtVersion → new ≡ AtHeader Cores → line ≡ Version → lines_from report old ≡ line ∷ lines_from report new
at_version report old new line o n l = rw (o, n, l) (version_next report)

-- at the first line the whole text is left
pub text_lines : (s : Setup) (order : List ℕ) → text s order ≡ flat_map line_text (lines_from (report_of s order) AtVersion)
unfolding text lines_from
text_lines s order = refl
