-- Each line of a report that is written reads back as the number that it told first.
use Rattle.std.proofs.Common.{◌≡◌, ℕ, ◌-◌, ◌*◌, ◌<◌, ◌≤◌, ◌^◌, Bool, true, false, ◌&&◌, List, [], ◌∷◌, Option, Some, None, Ok, refl, ap, ◌∙◌, arith}
use Rattle.std.specs.Prelude.{codes, decimal}
use Rattle.rv_execute.specs.Faults.{fault_number}
use Rattle.rv_execute.specs.declared.fault.Fault.{Fault as OfFault}
use Rattle.rv_execute.specs.declared.fault.Fault.TheVariants.{Illegal, FetchMisaligned, FetchOutside, LoadMisaligned, LoadOutside, StoreMisaligned, StoreOutside, StoreReadOnly, Break}
use Rattle.order_core.specs.declared.entry.Access.{Access}
use Rattle.record_lane.specs.declared.record.MeetKind.{MeetKind}
use Rattle.record_lane.specs.declared.record.MeetKind.TheVariants.{Call, Verdict as OfVerdict}
use Rattle.record_lane.specs.declared.note.CallNote.{CallNote}
use Rattle.record_lane.specs.declared.reply.Trap.{Trap}
use Rattle.syscall_drain.specs.declared.end.End.{End}
use Rattle.syscall_drain.specs.declared.end.End.TheVariants.{Exit, Trapped, Fault, Budget as BudgetEnd, Spent}
use Rattle.machine.proofs.LocalRanges.{IsByteEnd}
use Rattle.machine.proofs.Ranges.{IsTouchOfWords, IsNoteOfWords, IsTrapOfWords}
use Rattle.trap_report.specs.Digits.{hex}
use Rattle.trap_report.specs.Names.{kind_name, verdict_name}
use Rattle.trap_report.specs.Text.{Numbers}
use Rattle.trap_report.specs.Fields.{fields, touch_fields, note_fields, trap_fields, end_fields}
use Rattle.trap_report.specs.Forms.{has_form, is_in_range, has_shape, forms_read, word_text}
use Rattle.trap_report.specs.Reading.{LineKind, FirstLine, Numbered, Counted, LineOf, LastLine, any_number, core_number, header_range, count_range, section_forms, end_forms, line_read}
use Rattle.trap_report.specs.Matching.{ReadsWithin}
use Rattle.trap_report.specs.declared.form.ReportWord.{ReportWord}
use Rattle.trap_report.specs.declared.form.ReportWord.TheVariants.{NameOf, CountOf, Exit as ExitWord, Trapped as TrappedWord, Fault as FaultWord, Budget as BudgetWord, Spent as SpentWord, End as EndWord}
use Rattle.trap_report.specs.declared.form.Field.{Field}
use Rattle.trap_report.specs.declared.form.Field.TheVariants.{Exactly, Meeting, Verdict, Decimal, Hex}
use Rattle.trap_report.specs.declared.report_line.HeaderLine.{HeaderLine}
use Rattle.trap_report.specs.declared.report_line.HeaderLine.TheVariants.{Cores, Budget, Limit, Stack, Heap}
use Rattle.trap_report.specs.declared.report_line.Section.{Section}
use Rattle.trap_report.specs.declared.report_line.Section.TheVariants.{Units, Calls, Traps, Ends}
use Rattle.trap_report.specs.declared.report_line.ReportLine.{ReportLine}
use Rattle.trap_report.specs.declared.report_line.ReportLine.TheVariants.{Version, Header, Count, UnitOf, NoteOf, TrapOf, EndOf, Last}
use Rattle.trap_report.proofs.BackLemmas.{number_decimal, decimal_form, decimal_in_range, hex_form, and_no, Shaped, Ranged, no_field, with_field, no_range, in_range_too, this_form, other_form}
use Rattle.trap_report.proofs.KindLemmas.{line_read_numbered, line_read_counted, line_read_of, line_read_last}

-- the kind of a line, and the number that it tells first
abbrev pub kind_of : ReportLine → LineKind
kind_of Version = FirstLine
kind_of (Header name number) = Numbered name
kind_of (Count section number) = Counted section
kind_of (UnitOf core entry) = LineOf Units
kind_of (NoteOf core note) = LineOf Calls
kind_of (TrapOf core trap) = LineOf Traps
kind_of (EndOf core end) = LineOf Ends
kind_of Last = LastLine

abbrev pub told_first : ReportLine → ℕ
told_first Version = 0
told_first (Header name number) = number
told_first (Count section number) = number
told_first (UnitOf core entry) = core
told_first (NoteOf core note) = core
told_first (TrapOf core trap) = core
told_first (EndOf core end) = core
told_first Last = 0

-- the numbers of a line are in the ranges that the numbers of its header give
abbrev pub InRanges : Numbers → ReportLine → Type 0
InRanges numbers Version = Unit {0}
InRanges numbers (Header name number) = ReadsWithin (header_range name ∷ []) number
InRanges numbers (Count section number) = (number < 2 ^ 32) × ReadsWithin (count_range numbers section ∷ []) number
InRanges numbers (UnitOf core entry) = (core < numbers.cores) × IsTouchOfWords entry.touch
InRanges numbers (NoteOf core note) = (core < numbers.cores) × IsNoteOfWords note
InRanges numbers (TrapOf core trap) = (core < numbers.cores) × IsTrapOfWords trap
InRanges numbers (EndOf core end) = (core < numbers.cores) × IsByteEnd end
InRanges numbers Last = Unit {0}

-- ---- a name and a number

named_back : (word : ReportWord) (low high n : ℕ) → has_form (Exactly word) (word_text word) ≡ true → n < 2 ^ 32 → low ≤ n → n ≤ high
    → forms_read ((Exactly word ∷ Decimal low high ∷ []) ∷ []) (word_text word ∷ decimal n ∷ []) ≡ Ok n
named_back word low high n w h l m =
    this_form (Exactly word ∷ Decimal low high ∷ []) [] (word_text word ∷ decimal n ∷ []) n
    (with_field (Exactly word) _ (word_text word) _ w (with_field (Decimal low high) _ (decimal n) _ (decimal_form low high n h) no_field))
    (in_range_too (Exactly word) _ (word_text word) _ refl (in_range_too (Decimal low high) _ (decimal n) _ (decimal_in_range low high n h l m) no_range))
    (number_decimal n (omega arith))

header_back : (numbers : Numbers) (name : HeaderLine) (n : ℕ) → ReadsWithin (header_range name ∷ []) n → line_read numbers (Numbered name) (fields (Header name n)) ≡ Ok n
header_back numbers Cores n h = line_read_numbered numbers Cores _ ∙ named_back (NameOf Cores) 1 8 n refl (omega (arith, h.1)) h.0 h.1
header_back numbers Budget n h = line_read_numbered numbers Budget _ ∙ named_back (NameOf Budget) 1 1048576 n refl (omega (arith, h.1)) h.0 h.1
header_back numbers Limit n h = line_read_numbered numbers Limit _ ∙ named_back (NameOf Limit) 1 4294967280 n refl (omega (arith, h.1)) h.0 h.1
header_back numbers Stack n h = line_read_numbered numbers Stack _ ∙ named_back (NameOf Stack) 1 4096 n refl (omega (arith, h.1)) h.0 h.1
header_back numbers Heap n h = line_read_numbered numbers Heap _ ∙ named_back (NameOf Heap) 0 4096 n refl (omega (arith, h.1)) h.0 h.1

count_back : (numbers : Numbers) (section : Section) (n : ℕ) → n < 2 ^ 32 → ReadsWithin (count_range numbers section ∷ []) n → line_read numbers (Counted section) (fields (Count section n)) ≡ Ok n
count_back numbers Units n s h = line_read_counted numbers Units _ ∙ named_back (CountOf Units) 0 (numbers.cores * numbers.budget) n refl s h.0 h.1
count_back numbers Calls n s h = line_read_counted numbers Calls _ ∙ named_back (CountOf Calls) 0 4294967295 n refl s h.0 h.1
count_back numbers Traps n s h = line_read_counted numbers Traps _ ∙ named_back (CountOf Traps) 0 4294967295 n refl s h.0 h.1
count_back numbers Ends n s h = line_read_counted numbers Ends _ ∙ named_back (CountOf Ends) 0 4294967295 n refl s h.0 h.1

-- ---- a core and what is told of it

any_form : (n : ℕ) → n < 2 ^ 32 → has_form any_number (decimal n) ≡ true
any_form n h = decimal_form 0 4294967295 n h

any_range : (n : ℕ) → n < 2 ^ 32 → is_in_range any_number (decimal n) ≡ true
any_range n h = decimal_in_range 0 4294967295 n h (omega arith) (omega arith)

-- what follows the core has its form
module _ (numbers : Numbers) (few : numbers.cores ≤ 2 ^ 8) (c : ℕ) (known : c < numbers.cores) where
  of_core : (form : List Field) (forms : List (List Field)) (rest : List (List ℕ)) → Shaped form rest → Ranged form rest → forms_read ((core_number numbers ∷ form) ∷ forms) (decimal c ∷ rest) ≡ Ok c
  of_core form forms rest s r =
      this_form (core_number numbers ∷ form) forms (decimal c ∷ rest) c
      (with_field (core_number numbers) form (decimal c) rest (decimal_form 0 (numbers.cores - 1) c (omega arith)) s)
      (in_range_too (core_number numbers) form (decimal c) rest (decimal_in_range 0 (numbers.cores - 1) c (omega arith) (omega arith) (omega arith)) r)
      (number_decimal c (omega arith))

  not_of_core : (form : List Field) (forms : List (List Field)) (rest : List (List ℕ)) → has_shape form rest ≡ false → forms_read ((core_number numbers ∷ form) ∷ forms) (decimal c ∷ rest) ≡ forms_read forms (decimal c ∷ rest)
  not_of_core form forms rest s = other_form (core_number numbers ∷ form) forms (decimal c ∷ rest) (ap (λ b. has_form (core_number numbers) (decimal c) && b) s ∙ and_no (has_form (core_number numbers) (decimal c)))

  unit_back : (touch : Option Access) → IsTouchOfWords touch → forms_read (section_forms (core_number numbers) Units) (decimal c ∷ touch_fields touch) ≡ Ok c
  unit_back None h = of_core [] ((core_number numbers ∷ any_number ∷ any_number ∷ Hex 8 ∷ []) ∷ []) [] no_field no_range
  unit_back (Some access) h =
      not_of_core [] ((core_number numbers ∷ any_number ∷ any_number ∷ Hex 8 ∷ []) ∷ []) (touch_fields (Some access)) refl
      ∙ of_core (any_number ∷ any_number ∷ Hex 8 ∷ []) [] (decimal access.word ∷ decimal access.number ∷ hex 8 access.found ∷ [])
      (with_field any_number _ _ _ (any_form access.word h.0) (with_field any_number _ _ _ (any_form access.number h.1) (with_field (Hex 8) _ _ _ (hex_form 8 access.found) no_field)))
      (in_range_too any_number _ _ _ (any_range access.word h.0) (in_range_too any_number _ _ _ (any_range access.number h.1) (in_range_too (Hex 8) _ _ _ refl no_range)))

  kind_form : (kind : MeetKind) → has_form Meeting (kind_name kind) ≡ true
  kind_form Call = refl
  kind_form OfVerdict = refl

  verdict_form : (stop : Bool) → has_form Verdict (verdict_name stop) ≡ true
  verdict_form false = refl
  verdict_form true = refl

  note_back : (note : CallNote) → note.step < 2 ^ 32 → note.call < 2 ^ 32 → forms_read (section_forms (core_number numbers) Calls) (decimal c ∷ note_fields note) ≡ Ok c
  note_back note s k =
      of_core (any_number ∷ Hex 8 ∷ Meeting ∷ any_number ∷ Hex 32 ∷ Hex 1 ∷ Verdict ∷ []) []
      (decimal note.step ∷ hex 8 note.pc ∷ kind_name note.kind ∷ decimal note.call ∷ hex 32 note.tags ∷ hex 1 note.buffer ∷ verdict_name note.stop ∷ [])
      (with_field any_number _ _ _ (any_form note.step s)
      (with_field (Hex 8) _ _ _ (hex_form 8 note.pc)
      (with_field Meeting _ _ _ (kind_form note.kind)
      (with_field any_number _ _ _ (any_form note.call k)
      (with_field (Hex 32) _ _ _ (hex_form 32 note.tags)
      (with_field (Hex 1) _ _ _ (hex_form 1 note.buffer)
      (with_field Verdict _ _ _ (verdict_form note.stop) no_field)))))))
      (in_range_too any_number _ _ _ (any_range note.step s)
      (in_range_too (Hex 8) _ _ _ refl
      (in_range_too Meeting _ _ _ refl
      (in_range_too any_number _ _ _ (any_range note.call k)
      (in_range_too (Hex 32) _ _ _ refl
      (in_range_too (Hex 1) _ _ _ refl
      (in_range_too Verdict _ _ _ refl no_range)))))))

  trap_back : (trap : Trap) → trap.step < 2 ^ 32 → trap.kind < 2 ^ 8 → forms_read (section_forms (core_number numbers) Traps) (decimal c ∷ trap_fields trap) ≡ Ok c
  trap_back trap s k =
      of_core (any_number ∷ Hex 8 ∷ any_number ∷ Hex 1 ∷ []) [] (decimal trap.step ∷ hex 8 trap.pc ∷ decimal trap.kind ∷ hex 1 trap.bits ∷ [])
      (with_field any_number _ _ _ (any_form trap.step s)
      (with_field (Hex 8) _ _ _ (hex_form 8 trap.pc)
      (with_field any_number _ _ _ (any_form trap.kind (omega arith))
      (with_field (Hex 1) _ _ _ (hex_form 1 trap.bits) no_field))))
      (in_range_too any_number _ _ _ (any_range trap.step s)
      (in_range_too (Hex 8) _ _ _ refl
      (in_range_too any_number _ _ _ (any_range trap.kind (omega arith))
      (in_range_too (Hex 1) _ _ _ refl no_range))))

  fault_small : (fault : OfFault) → fault_number fault < 2 ^ 32
  fault_small Illegal = omega arith
  fault_small FetchMisaligned = omega arith
  fault_small FetchOutside = omega arith
  fault_small LoadMisaligned = omega arith
  fault_small LoadOutside = omega arith
  fault_small StoreMisaligned = omega arith
  fault_small StoreOutside = omega arith
  fault_small StoreReadOnly = omega arith
  fault_small Break = omega arith

  end_back : (end : End) → IsByteEnd end → forms_read (end_forms (core_number numbers)) (decimal c ∷ end_fields end) ≡ Ok c
  end_back (Exit code) h =
      of_core (Exactly ExitWord ∷ Decimal 0 255 ∷ []) _ (codes "exit" ∷ decimal code ∷ [])
      (with_field (Exactly ExitWord) _ _ _ refl (with_field (Decimal 0 255) _ _ _ (decimal_form 0 255 code (omega (arith, h))) no_field))
      (in_range_too (Exactly ExitWord) _ _ _ refl (in_range_too (Decimal 0 255) _ _ _ (decimal_in_range 0 255 code (omega (arith, h)) (omega arith) (omega (arith, h))) no_range))
  end_back Trapped h =
      not_of_core (Exactly ExitWord ∷ Decimal 0 255 ∷ []) _ (codes "trapped" ∷ []) refl
      ∙ of_core (Exactly TrappedWord ∷ []) _ (codes "trapped" ∷ []) (record { is = refl }) (record { is = refl })
  end_back (Fault fault) h =
      not_of_core (Exactly ExitWord ∷ Decimal 0 255 ∷ []) _ (codes "fault" ∷ decimal (fault_number fault) ∷ []) refl
      ∙ not_of_core (Exactly TrappedWord ∷ []) _ (codes "fault" ∷ decimal (fault_number fault) ∷ []) refl
      ∙ of_core (Exactly FaultWord ∷ any_number ∷ []) _ (codes "fault" ∷ decimal (fault_number fault) ∷ [])
      (with_field (Exactly FaultWord) _ _ _ refl (with_field any_number _ _ _ (any_form (fault_number fault) (fault_small fault)) no_field))
      (in_range_too (Exactly FaultWord) _ _ _ refl (in_range_too any_number _ _ _ (any_range (fault_number fault) (fault_small fault)) no_range))
  end_back BudgetEnd h =
      not_of_core (Exactly ExitWord ∷ Decimal 0 255 ∷ []) _ (codes "budget" ∷ []) refl
      ∙ not_of_core (Exactly TrappedWord ∷ []) _ (codes "budget" ∷ []) refl
      ∙ not_of_core (Exactly FaultWord ∷ any_number ∷ []) _ (codes "budget" ∷ []) refl
      ∙ of_core (Exactly BudgetWord ∷ []) _ (codes "budget" ∷ []) (record { is = refl }) (record { is = refl })
  end_back Spent h =
      not_of_core (Exactly ExitWord ∷ Decimal 0 255 ∷ []) _ (codes "spent" ∷ []) refl
      ∙ not_of_core (Exactly TrappedWord ∷ []) _ (codes "spent" ∷ []) refl
      ∙ not_of_core (Exactly FaultWord ∷ any_number ∷ []) _ (codes "spent" ∷ []) refl
      ∙ not_of_core (Exactly BudgetWord ∷ []) _ (codes "spent" ∷ []) refl
      ∙ of_core (Exactly SpentWord ∷ []) _ (codes "spent" ∷ []) (record { is = refl }) (record { is = refl })

-- ---- each line

first_back : (numbers : Numbers) → line_read numbers FirstLine (fields Version) ≡ Ok 0
unfolding line_read
first_back numbers = refl

last_back : (numbers : Numbers) → line_read numbers LastLine (fields Last) ≡ Ok 0
last_back numbers = line_read_last numbers _ ∙ this_form (Exactly EndWord ∷ []) [] (codes "end" ∷ []) 0 (record { is = refl }) (record { is = refl }) refl

pub line_told : (numbers : Numbers) (line : ReportLine) → numbers.cores ≤ 2 ^ 8 → InRanges numbers line → line_read numbers (kind_of line) (fields line) ≡ Ok (told_first line)
line_told numbers Version f h = first_back numbers
line_told numbers (Header name n) f h = header_back numbers name n h
line_told numbers (Count section n) f h = count_back numbers section n h.0 h.1
line_told numbers (UnitOf c entry) f h = line_read_of numbers Units _ ∙ unit_back numbers f c h.0 entry.touch h.1
line_told numbers (NoteOf c note) f h = line_read_of numbers Calls _ ∙ note_back numbers f c h.0 note h.1.0 h.1.1
line_told numbers (TrapOf c trap) f h = line_read_of numbers Traps _ ∙ trap_back numbers f c h.0 trap h.1.0 h.1.1
line_told numbers (EndOf c end) f h = line_read_of numbers Ends _ ∙ end_back numbers f c h.0 end h.1
line_told numbers Last f h = last_back numbers
