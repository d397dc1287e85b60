-- Reading a report line by line: which kinds of lines are to come, which forms each has, what is kept of it, and the first line that
-- is bad with its kind. The format is this project's own.
use Rattle.std.specs.Prelude.{ℕ, ◌+◌, ◌-◌, ◌*◌, ◌==◌, if◌then◌else◌, List, [], ◌∷◌, ◌++◌, replicate, Result, Ok, Err}
use Rattle.std.specs.List.{slice_split}
use Rattle.elf_image.specs.declared.limits.TheConstants.{MOST_STACK, MOST_HEAP}
use Rattle.syscall_drain.specs.declared.limits.TheConstants.{MOST_BUDGET}
use Rattle.trap_report.specs.declared.limits.TheConstants.{REPORTED_CORES, MOST_LIMIT}
use Rattle.trap_report.specs.Text.{Numbers}
use Rattle.trap_report.specs.Forms.{has_shape, forms_read}
use Rattle.trap_report.specs.declared.report_line.HeaderLine.{HeaderLine}
use Rattle.trap_report.specs.declared.report_line.HeaderLine.TheVariants.{Cores, Budget, Limit, Stack, Heap}
use Rattle.trap_report.specs.declared.report_line.Section.{Section}
use Rattle.trap_report.specs.declared.report_line.Section.TheVariants.{Units, Calls, Traps, Ends}
use Rattle.trap_report.specs.declared.form.ReportWord.TheVariants.{TaintReport, One, NameOf, CountOf, Exit, Trapped, Fault, Budget as OfBudget, Spent, End}
use Rattle.trap_report.specs.declared.form.Field.{Field}
use Rattle.trap_report.specs.declared.form.Field.TheVariants.{Exactly, Meeting, Verdict, Decimal, Hex}
use Rattle.trap_report.specs.declared.saved.ReportKind.{ReportKind}
use Rattle.trap_report.specs.declared.saved.ReportKind.TheVariants.{Version, Truncated, TooLong}

-- the kinds of lines
pub data LineKind : Type 0 where
  FirstLine : LineKind
  Numbered : HeaderLine → LineKind
  Counted : Section → LineKind
  LineOf : Section → LineKind
  LastLine : LineKind

-- what a report says of its run, and a line that is bad, counted from 1
pub record Reported : Type 0 where
  pub numbers : Numbers
  pub order : List ℕ

pub record BadLine : Type 0 where
  pub line : ℕ
  pub kind : ReportKind

-- ---- one line

-- a decimal that has no other range than its type
abbrev pub any_number : Field
any_number = Decimal 0 4294967295

abbrev pub header_range : HeaderLine → Field
header_range Cores = Decimal 1 REPORTED_CORES
header_range Budget = Decimal 1 MOST_BUDGET
header_range Limit = Decimal 1 MOST_LIMIT
header_range Stack = Decimal 1 MOST_STACK
header_range Heap = Decimal 0 MOST_HEAP

-- the units are at most the budgets of all cores; a core is one of the header's
abbrev pub count_range : Numbers → Section → Field
count_range numbers Units = Decimal 0 (numbers.cores * numbers.budget)
count_range numbers _ = any_number

abbrev pub core_number : Numbers → Field
core_number numbers = Decimal 0 (numbers.cores - 1)

abbrev pub end_forms : Field → List (List Field)
end_forms core =
    (core ∷ Exactly Exit ∷ Decimal 0 255 ∷ []) ∷ (core ∷ Exactly Trapped ∷ []) ∷ (core ∷ Exactly Fault ∷ any_number ∷ [])
    ∷ (core ∷ Exactly OfBudget ∷ []) ∷ (core ∷ Exactly Spent ∷ []) ∷ []

abbrev pub section_forms : Field → Section → List (List Field)
section_forms core Units = (core ∷ []) ∷ (core ∷ any_number ∷ any_number ∷ Hex 8 ∷ []) ∷ []
section_forms core Calls = (core ∷ any_number ∷ Hex 8 ∷ Meeting ∷ any_number ∷ Hex 32 ∷ Hex 1 ∷ Verdict ∷ []) ∷ []
section_forms core Traps = (core ∷ any_number ∷ Hex 8 ∷ any_number ∷ Hex 1 ∷ []) ∷ []
section_forms core Ends = end_forms core

abbrev pub forms : Numbers → LineKind → List (List Field)
forms numbers FirstLine = (Exactly TaintReport ∷ Exactly One ∷ []) ∷ []
forms numbers (Numbered name) = (Exactly (NameOf name) ∷ header_range name ∷ []) ∷ []
forms numbers (Counted section) = (Exactly (CountOf section) ∷ count_range numbers section ∷ []) ∷ []
forms numbers (LineOf section) = section_forms (core_number numbers) section
forms numbers LastLine = (Exactly End ∷ []) ∷ []

-- the fields of a line stand between its spaces
abbrev pub fields_of : List ℕ → List (List ℕ)
fields_of line = slice_split (λ b. b == 32) line

-- the number that a line tells first; a first line of another form is one of another version
unfoldable pub line_read : Numbers → LineKind → List (List ℕ) → Result ℕ ReportKind
line_read numbers FirstLine fields = if has_shape (Exactly TaintReport ∷ Exactly One ∷ []) fields then Ok 0 else Err Version
line_read numbers kind fields = forms_read (forms numbers kind) fields

-- ---- all lines

abbrev pub with_number : HeaderLine → ℕ → Numbers → Numbers
with_number Cores n numbers = record numbers { cores = n }
with_number Budget n numbers = record numbers { budget = n }
with_number Limit n numbers = record numbers { limit = n }
with_number Stack n numbers = record numbers { stack = n }
with_number Heap n numbers = record numbers { heap = n }

-- what is kept of a line: the number of a header line, the core of a unit
abbrev pub reported_after : LineKind → ℕ → Reported → Reported
reported_after (Numbered name) n told = record told { numbers = with_number name n told.numbers }
reported_after (LineOf Units) n told = record told { order = told.order ++ n ∷ [] }
reported_after _ n told = told

-- a line that counts is followed by so many lines of its section
abbrev pub counted_lines : LineKind → ℕ → List LineKind
counted_lines (Counted section) n = replicate n (LineOf section)
counted_lines _ n = []

abbrev pub on_line : {A B : Type 0} → ℕ → Result A ReportKind → (A → Result B BadLine) → Result B BadLine
on_line line (Ok n) next = next n
on_line line (Err kind) next = Err (record { line = line; kind = kind })

-- nothing may follow the last line
abbrev pub at_end : List (List ℕ) → ℕ → Reported → Result Reported BadLine
at_end ([] ∷ []) taken told = Ok told
at_end _ taken told = Err (record { line = taken + 1; kind = TooLong })

-- what comes of the text's lines from one on, where so many stand before it, so much was told, and these kinds are to come; what
-- stands behind the last line feed is no whole line
unfoldable pub read : List (List ℕ) → ℕ → Reported → List LineKind → Result Reported BadLine
read lines taken told [] = at_end lines taken told
read [] taken told (kind ∷ kinds) = Err (record { line = taken + 1; kind = Truncated })
read (line ∷ []) taken told (kind ∷ kinds) = Err (record { line = taken + 1; kind = Truncated })
read (line ∷ next ∷ lines) taken told (kind ∷ kinds) =
    on_line (taken + 1) (line_read told.numbers kind (fields_of line)) (λ n. read (next ∷ lines) (taken + 1) (reported_after kind n told) (counted_lines kind n ++ kinds))

abbrev pub header_kinds : List LineKind
header_kinds = Numbered Cores ∷ Numbered Budget ∷ Numbered Limit ∷ Numbered Stack ∷ Numbered Heap ∷ []

abbrev pub section_kinds : List LineKind
section_kinds = Counted Units ∷ Counted Calls ∷ Counted Traps ∷ Counted Ends ∷ LastLine ∷ []

abbrev pub nothing : Reported
nothing = record { numbers = record { cores = 0; budget = 0; limit = 0; stack = 0; heap = 0 }; order = [] }

abbrev pub lines_in : List ℕ → List (List ℕ)
lines_in text = slice_split (λ b. b == 10) text

unfoldable pub saved_of : List ℕ → Result Reported BadLine
saved_of bytes = read (lines_in bytes) 0 nothing (FirstLine ∷ (header_kinds ++ section_kinds))
