-- A report that is written reads back.
use Rattle.std.proofs.Common.{◌≡◌, ℕ, zero, suc, ◌+◌, ◌*◌, ◌<◌, ◌≤◌, ◌^◌, List, [], ◌∷◌, ◌++◌, map, length, replicate, Option, Some, None, Ok, refl, sym, ap, ◌∙◌, subst, arith, append_assoc, append-nil, length-append}
use Rattle.std.specs.List.{AllByRecursion, range_with_len}
use Rattle.std.specs.Option.{IfSome}
use Rattle.std.proofs.lemmas.Nat.{mul-le}
use Rattle.std.proofs.lemmas.List.{length-map}
use Rattle.std.proofs.lemmas.List.FromFn.{length-map-range_with_len}
use Rattle.order_core.specs.Marked.{Marked, marks_of}
use Rattle.record_lane.specs.declared.note.CallNote.{CallNote}
use Rattle.record_lane.specs.declared.reply.Trap.{Trap}
use Rattle.syscall_drain.specs.declared.end.End.{End}
use Rattle.machine.specs.Setups.{Setup, core_count}
use Rattle.machine.specs.States.{State, opening}
use Rattle.machine.specs.Steps.{step}
use Rattle.machine.specs.Runs.{IsPlayableFrom, IsPlayable, along, entries}
use Rattle.machine.specs.Outcomes.{Summary, summary_of}
use Rattle.machine.proofs.Along.{at_along, playable_short}
use Rattle.machine.proofs.LocalRanges.{IsByteEndIf}
use Rattle.machine.proofs.Ranges.{IsNoteOfWords, IsTrapOfWords, IsUnitOfWords, words_along}
use Rattle.trap_report.specs.Fields.{fields}
use Rattle.trap_report.specs.Text.{Numbers, Report, numbers_of, report_of, text, unit_lines, by_core, note_lines, trap_lines, end_lines, line_if, section_lines, lines_of}
use Rattle.trap_report.specs.Reading.{LineKind, FirstLine, Counted, LineOf, LastLine, Reported, fields_of, read, line_read, reported_after, counted_lines, saved_of, header_kinds, section_kinds, nothing}
use Rattle.trap_report.specs.Saved.{HasRanges}
use Rattle.trap_report.specs.ReportLaws.{IsReportable, ReadsBack}
use Rattle.trap_report.specs.declared.report_line.HeaderLine.TheVariants.{Cores, Budget, Limit, Stack, Heap}
use Rattle.trap_report.specs.declared.report_line.Section.{Section}
use Rattle.trap_report.specs.declared.report_line.Section.TheVariants.{Units, Calls, Traps, Ends}
use Rattle.trap_report.specs.declared.report_line.ReportLine.{ReportLine}
use Rattle.trap_report.specs.declared.report_line.ReportLine.TheVariants.{Version, Header, Count, UnitOf, NoteOf, TrapOf, EndOf, Last}
use Rattle.trap_report.proofs.SplitLemmas.{body, line_back, lines_back}
use Rattle.trap_report.proofs.LineBack.{kind_of, told_first, InRanges, line_told}
use Rattle.trap_report.proofs.ReadLemmas.{read_whole, nothing_kept}
use Rattle.trap_report.proofs.RunLemmas.{marks_of_entries}

-- ---- one line after another

-- the pieces between the line feeds of these lines
abbrev pieces : List ReportLine → List (List ℕ)
pieces lines = map (λ line. body (fields line)) lines ++ [] ∷ []

some_piece : (lines : List ReportLine) → (first : List ℕ) × (rest : List (List ℕ)) × (pieces lines ≡ first ∷ rest)
some_piece [] = ([], [], refl)
some_piece (line ∷ lines) = (body (fields line), pieces lines, refl)

-- from these lines on this is what is told in the end
pub record Tells (lines : List ReportLine) (told : Reported) (kinds : List LineKind) (all : Reported) : Type 0 where
  pub read_all : (taken : ℕ) → read (pieces lines) taken told kinds ≡ Ok all

at_last : (told : Reported) → Tells [] told [] told
unfolding read
at_last told = record { read_all = λ taken. refl }

next_line : (line : ReportLine) (lines : List ReportLine) (told all : Reported) (kinds : List LineKind) → told.numbers.cores ≤ 2 ^ 8 → InRanges told.numbers line
    → Tells lines (reported_after (kind_of line) (told_first line) told) (counted_lines (kind_of line) (told_first line) ++ kinds) all → Tells (line ∷ lines) told (kind_of line ∷ kinds) all
next_line line lines told all kinds few ranges rest = record {
  read_all = λ taken.
      let some = some_piece lines in
      let told_is : line_read told.numbers (kind_of line) (fields_of (body (fields line))) ≡ Ok (told_first line) = ap (line_read told.numbers (kind_of line)) (line_back line) ∙ line_told told.numbers line few ranges in
      read_whole (body (fields line)) (pieces lines) some.0 some.1 taken told (kind_of line) kinds some.2
      ∙ rw told_is (rest.read_all (taken + 1));
}

-- ---- sections

abbrev Each : (ReportLine → Type 0) → List ReportLine → Type 0
Each P [] = Unit {0}
Each P (line ∷ lines) = P line × Each P lines

-- a line of this section, with its numbers in their ranges
record Belongs (section : Section) (numbers : Numbers) (line : ReportLine) : Type 0 where
  kind : kind_of line ≡ LineOf section
  ranges : InRanges numbers line

skipped : (section : Section) (lines after : List ReportLine) (told all : Reported) (kinds : List LineKind) → (section ≡ Units → ⊥) → told.numbers.cores ≤ 2 ^ 8 → Each (Belongs section told.numbers) lines
    → Tells after told kinds all → Tells (lines ++ after) told (replicate (length lines) (LineOf section) ++ kinds) all
skipped section [] after told all kinds other few each rest = rest
skipped section (line ∷ lines) after told all kinds other few each rest =
    let tail = skipped section lines after told all kinds other few each.1 rest in
    let same : reported_after (kind_of line) (told_first line) told ≡ told = ap (λ kind. reported_after kind (told_first line) told) each.0.kind ∙ nothing_kept section (told_first line) told other in
    let none : counted_lines (kind_of line) (told_first line) ≡ [] = ap (λ kind. counted_lines kind (told_first line)) each.0.kind in
    let stays : Tells (lines ++ after) (reported_after (kind_of line) (told_first line) told) (counted_lines (kind_of line) (told_first line) ++ (replicate (length lines) (LineOf section) ++ kinds)) all = rw (same, none) tail in
    let next = next_line line (lines ++ after) told all (replicate (length lines) (LineOf section) ++ kinds) few each.0.ranges stays in
    let of_kind : LineKind → Type 0 = λ kind. Tells (line ∷ (lines ++ after)) told (kind ∷ (replicate (length lines) (LineOf section) ++ kinds)) all in
    subst of_kind each.0.kind next

units_kept : (units : List Marked) (after : List ReportLine) (told all : Reported) (kinds : List LineKind) → told.numbers.cores ≤ 2 ^ 8 → Each (InRanges told.numbers) (unit_lines units)
    → Tells after (record told { order = told.order ++ marks_of units }) kinds all → Tells (unit_lines units ++ after) told (replicate (length (unit_lines units)) (LineOf Units) ++ kinds) all
units_kept [] after told all kinds few each rest = rw (append-nil told.order) at rest
units_kept (unit ∷ units) after told all kinds few each rest =
    let moved : (told.order ++ unit.0 ∷ []) ++ marks_of units ≡ told.order ++ unit.0 ∷ marks_of units = append_assoc told.order (unit.0 ∷ []) (marks_of units) in
    let told_now : Reported = record { numbers = told.numbers; order = told.order ++ unit.0 ∷ [] } in
    let rest_now : Tells after (record { numbers = told.numbers; order = (told.order ++ unit.0 ∷ []) ++ marks_of units }) kinds all = rw moved rest in
    next_line (UnitOf unit.0 unit.1) (unit_lines units ++ after) told all (replicate (length (unit_lines units)) (LineOf Units) ++ kinds) few each.0 (units_kept units after told_now all kinds few each.1 rest_now)

any_within : (section : Section) (numbers : Numbers) (n : ℕ) → (section ≡ Units → ⊥) → n < 2 ^ 32 → InRanges numbers (Count section n)
any_within Units numbers n other h = absurd (other refl)
any_within Calls numbers n other h = (h, (omega arith, omega arith))
any_within Traps numbers n other h = (h, (omega arith, omega arith))
any_within Ends numbers n other h = (h, (omega arith, omega arith))

section_told : (section : Section) (lines after : List ReportLine) (told all : Reported) (kinds : List LineKind) → (section ≡ Units → ⊥) → told.numbers.cores ≤ 2 ^ 8 → length lines < 2 ^ 32 → Each (Belongs section told.numbers) lines
    → Tells after told kinds all → Tells (section_lines section lines ++ after) told (Counted section ∷ kinds) all
section_told section lines after told all kinds other few short each rest =
    next_line (Count section (length lines)) (lines ++ after) told all kinds few (any_within section told.numbers (length lines) other short) (skipped section lines after told all kinds other few each rest)

-- ---- the lines of the cores

each_both : (P : ReportLine → Type 0) (lines after : List ReportLine) → Each P lines → Each P after → Each P (lines ++ after)
each_both P [] after h k = k
each_both P (line ∷ lines) after h k = (h.0, each_both P lines after h.1 k)

-- what is told of a core fits its types, and it has at most so many notes
record IsTellable (most : ℕ) (summary : Summary) : Type 0 where
  notes : AllByRecursion IsNoteOfWords summary.notes
  few : length summary.notes ≤ most
  trap : IfSome summary.trap IsTrapOfWords
  ending : IsByteEndIf summary.ending

-- the lines of a section of one core belong there, and are at most so many
record IsLinesOf (section : Section) (numbers : Numbers) (most : ℕ) (lines : List ReportLine) : Type 0 where
  each : Each (Belongs section numbers) lines
  few : length lines ≤ most

cores_belong : (section : Section) (numbers : Numbers) (most notes : ℕ) (of : ℕ → Summary → List ReportLine)
    → ((core : ℕ) (summary : Summary) → core < numbers.cores → IsTellable notes summary → IsLinesOf section numbers most (of core summary))
    → (core : ℕ) (cores : List Summary) → core + length cores ≤ numbers.cores → AllByRecursion (IsTellable notes) cores → IsLinesOf section numbers (length cores * most) (by_core of core cores)
cores_belong section numbers most notes of one core [] few fit = record { each = tt; few = omega arith }
cores_belong section numbers most notes of one core (summary ∷ cores) few fit =
    let here = one core summary (omega arith) fit.0 in
    let rest = cores_belong section numbers most notes of one (suc core) cores (omega arith) fit.1 in
    record {
      each = each_both (Belongs section numbers) (of core summary) (by_core of (suc core) cores) here.each rest.each;
      few = omega (arith, length-append (of core summary) (by_core of (suc core) cores), here.few, rest.few);
    }

notes_belong : (numbers : Numbers) (core : ℕ) (notes : List CallNote) → core < numbers.cores → AllByRecursion IsNoteOfWords notes → Each (Belongs Calls numbers) (map (NoteOf core) notes)
notes_belong numbers core [] known fit = tt
notes_belong numbers core (note ∷ notes) known fit = (record { kind = refl; ranges = (known, fit.0) }, notes_belong numbers core notes known fit.1)

note_lines_of : (numbers : Numbers) (most core : ℕ) (summary : Summary) → core < numbers.cores → IsTellable most summary → IsLinesOf Calls numbers most (note_lines core summary)
note_lines_of numbers most core summary known fit = record {
  each = notes_belong numbers core summary.notes known fit.notes;
  few = omega (arith, length-map summary.notes (NoteOf core), fit.few);
}

trap_line_of : (numbers : Numbers) (core : ℕ) (trap : Option Trap) → core < numbers.cores → IfSome trap IsTrapOfWords → IsLinesOf Traps numbers 1 (line_if (TrapOf core) trap)
trap_line_of numbers core None known fit = record { each = tt; few = omega arith }
trap_line_of numbers core (Some trap) known fit = record { each = (record { kind = refl; ranges = (known, fit) }, tt); few = omega arith }

end_line_of : (numbers : Numbers) (core : ℕ) (end : Option End) → core < numbers.cores → IsByteEndIf end → IsLinesOf Ends numbers 1 (line_if (EndOf core) end)
end_line_of numbers core None known fit = record { each = tt; few = omega arith }
end_line_of numbers core (Some end) known fit = record { each = (record { kind = refl; ranges = (known, fit) }, tt); few = omega arith }

-- core numbers below the count of cores
abbrev pub AreKnown : ℕ → List ℕ → Type 0
AreKnown cores [] = Unit {0}
AreKnown cores (core ∷ order) = (core < cores) × AreKnown cores order

units_in_range : (numbers : Numbers) (units : List Marked) → AreKnown numbers.cores (marks_of units) → AllByRecursion IsUnitOfWords units → Each (InRanges numbers) (unit_lines units)
units_in_range numbers [] known fit = tt
units_in_range numbers (unit ∷ units) known fit = ((known.0, fit.0), units_in_range numbers units known.1 fit.1)

-- ---- the whole report

-- a report whose numbers are in their ranges, and whose units and cores are those of a run within the budgets
record IsReported (report : Report) : Type 0 where
  ranges : HasRanges report.numbers
  known : AreKnown report.numbers.cores (marks_of report.units)
  short : length report.units ≤ report.numbers.cores * report.numbers.budget
  units : AllByRecursion IsUnitOfWords report.units
  few : length report.cores ≤ report.numbers.cores
  cores : AllByRecursion (IsTellable 1048576) report.cores

report_told : (report : Report) → IsReported report → Tells (lines_of report) nothing (FirstLine ∷ (header_kinds ++ section_kinds)) (record { numbers = report.numbers; order = marks_of report.units })
report_told report is =
    let numbers = report.numbers in
    let ranges = is.ranges in
    let all : Reported = record { numbers = numbers; order = marks_of report.units } in
    let begun : Reported = record { numbers = numbers; order = [] } in
    let small : numbers.cores ≤ 2 ^ 8 = omega (arith, ranges.cores) in
    let few : length report.cores ≤ 8 = omega (arith, is.few, ranges.cores) in
    let units = unit_lines report.units in
    let notes = by_core note_lines 0 report.cores in
    let traps = by_core trap_lines 0 report.cores in
    let ends = by_core end_lines 0 report.cores in
    let after_traps = section_lines Ends ends ++ Last ∷ [] in
    let after_notes = section_lines Traps traps ++ after_traps in
    let after_units = section_lines Calls notes ++ after_notes in
    let of_notes = cores_belong Calls numbers 1048576 1048576 note_lines (note_lines_of numbers 1048576) 0 report.cores (omega (arith, is.few)) is.cores in
    let of_traps = cores_belong Traps numbers 1 1048576 trap_lines (λ core summary known fit. trap_line_of numbers core summary.trap known fit.trap) 0 report.cores (omega (arith, is.few)) is.cores in
    let of_ends = cores_belong Ends numbers 1 1048576 end_lines (λ core summary known fit. end_line_of numbers core summary.ending known fit.ending) 0 report.cores (omega (arith, is.few)) is.cores in
    let last : Tells (Last ∷ []) all (LastLine ∷ []) all = next_line Last [] all all [] small tt (at_last all) in
    let from_ends : Tells after_traps all (Counted Ends ∷ LastLine ∷ []) all =
    section_told Ends ends (Last ∷ []) all all (LastLine ∷ []) (λ e. let no : ⊥ = cc in no) small (omega (arith, few, of_ends.few)) of_ends.each last in
    let from_traps : Tells after_notes all (Counted Traps ∷ Counted Ends ∷ LastLine ∷ []) all =
    section_told Traps traps after_traps all all (Counted Ends ∷ LastLine ∷ []) (λ e. let no : ⊥ = cc in no) small (omega (arith, few, of_traps.few)) of_traps.each from_ends in
    let from_notes : Tells after_units all (Counted Calls ∷ Counted Traps ∷ Counted Ends ∷ LastLine ∷ []) all =
    section_told Calls notes after_notes all all (Counted Traps ∷ Counted Ends ∷ LastLine ∷ []) (λ e. let no : ⊥ = cc in no) small (omega (arith, few, of_notes.few)) of_notes.each from_traps in
    let count : length units ≡ length report.units = length-map report.units (λ (unit : Marked). UnitOf unit.0 unit.1) in
    let within : numbers.cores * numbers.budget ≤ 8 * 1048576 = mul-le numbers.cores numbers.budget 8 1048576 ranges.cores.1 ranges.budget.1 in
    let from_units : Tells (section_lines Units units ++ after_units) begun section_kinds all =
    next_line (Count Units (length units)) (units ++ after_units) begun all (Counted Calls ∷ Counted Traps ∷ Counted Ends ∷ LastLine ∷ []) small
    (omega (arith, count, is.short, within), (omega arith, omega (arith, count, is.short)))
    (units_kept report.units after_units begun all (Counted Calls ∷ Counted Traps ∷ Counted Ends ∷ LastLine ∷ []) small
    (units_in_range numbers report.units is.known is.units) from_notes) in
    let told : ℕ → ℕ → ℕ → ℕ → ℕ → Reported = λ a b c d e. record { numbers = record { cores = a; budget = b; limit = c; stack = d; heap = e }; order = [] } in
    let rest = section_lines Units units ++ after_units in
    next_line Version _ nothing all (header_kinds ++ section_kinds) (omega arith) tt
    (next_line (Header Cores numbers.cores) _ nothing all _ (omega arith) ranges.cores
    (next_line (Header Budget numbers.budget) _ (told numbers.cores 0 0 0 0) all _ small ranges.budget
    (next_line (Header Limit numbers.limit) _ (told numbers.cores numbers.budget 0 0 0) all _ small ranges.limit
    (next_line (Header Stack numbers.stack) _ (told numbers.cores numbers.budget numbers.limit 0 0) all _ small ranges.stack
    (next_line (Header Heap numbers.heap) rest (told numbers.cores numbers.budget numbers.limit numbers.stack 0) all section_kinds small (omega arith, ranges.heap) from_units)))))

-- ---- the report of a playable list

playable_known : (s : Setup) (t : State) (order : List ℕ) → IsPlayableFrom s t order → AreKnown (core_count s) order
unfolding IsPlayableFrom
playable_known s t [] p = tt
playable_known s t (core ∷ order) p = (p.0, playable_known s (step s t core) order p.2)

length_marks : (units : List Marked) → length (marks_of units) ≡ length units
length_marks [] = refl
length_marks (unit ∷ units) = ap suc (length_marks units)

told_trap : (trap : Option Trap) → ((found : Trap) → trap ≡ Some found → IsTrapOfWords found) → IfSome trap IsTrapOfWords
told_trap None all = tt
told_trap (Some trap) all = all trap refl

each_summary : (P : Summary → Type 0) (summary : ℕ → Summary) (first count : ℕ) → ((core : ℕ) → core < first + count → P (summary core)) → AllByRecursion P (map summary (range_with_len first count))
each_summary P summary first zero all = tt
each_summary P summary first (suc count) all = (all first (omega arith), each_summary P summary (first + 1) count (λ core below. all core (omega arith)))

tellable : (s : Setup) → IsReportable s → (order : List ℕ) → IsPlayable s order → (core : ℕ) → core < core_count s → IsTellable 1048576 (summary_of ((along s order).cores core))
tellable s basis order playable core known =
    let at = at_along s basis.setup order playable in
    let within = (at.reached).cores core in
    let words = (words_along s (record { setup = basis.setup; bytes = basis.image }) order playable).state.cores core known in
    record {
      notes = words.notes;
      few = omega (arith, within.notes, within.within, (basis.setup).most_budget);
      trap = told_trap ((along s order).cores core).tags.trap words.trap;
      ending = (words.local).ending;
    }

reported : (s : Setup) → IsReportable s → (order : List ℕ) → IsPlayable s order → IsReported (report_of s order)
unfolding report_of
reported s basis order playable =
    let marks : marks_of (entries s order) ≡ order = marks_of_entries s (opening s) order in
    let setup = basis.setup in
    let image = setup.image in
    record {
      ranges = record {
        cores = (image.some_cores, basis.cores);
        budget = (setup.some_budget, setup.most_budget);
        limit = (setup.some_limit, basis.limit);
        stack = (image.some_stack, image.most_stack);
        heap = image.most_heap;
      };
      known = subst (AreKnown (core_count s)) (sym marks) (playable_known s (opening s) order playable);
      short = omega (arith, ap length marks, length_marks (entries s order), playable_short s setup order playable);
      units = (words_along s (record { setup = setup; bytes = basis.image }) order playable).touches;
      few = omega (arith, length-map-range_with_len (λ c. summary_of ((along s order).cores c)) 0 (core_count s));
      cores = each_summary (IsTellable 1048576) (λ c. summary_of ((along s order).cores c)) 0 (core_count s) (λ core below. tellable s basis order playable core (omega arith));
    }

told_is : (s : Setup) (order : List ℕ) → ◌≡◌ {A = Reported} (record { numbers = (report_of s order).numbers; order = marks_of (report_of s order).units }) (record { numbers = numbers_of s; order = order })
unfolding report_of
told_is s order = ap (λ (cores : List ℕ). let all : Reported = record { numbers = numbers_of s; order = cores } in all) (marks_of_entries s (opening s) order)

pub reads_back : ReadsBack
unfolding text saved_of
reads_back s order basis playable =
    let told = report_told (report_of s order) (reported s basis order playable) in
    ap (λ (lines : List (List ℕ)). read lines 0 nothing (FirstLine ∷ (header_kinds ++ section_kinds))) (lines_back (lines_of (report_of s order)))
    ∙ told.read_all 0
    ∙ ap (λ (all : Reported). Ok all) (told_is s order)
