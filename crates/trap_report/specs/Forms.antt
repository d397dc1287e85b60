-- The forms of the fields of a line, and of a whole line: which texts have a form, and which numbers these tell (this project's own).
use Rattle.std.specs.Prelude.{ℕ, ◌+◌, ◌-◌, ◌*◌, Bool, true, false, ◌&&◌, ◌||◌, not, nat_le, ◌==◌, if◌then◌else◌, List, [], ◌∷◌, length, slice_index, Result, Ok, Err, codes}
use Rattle.std.specs.List.{list_all}
use Rattle.std.specs.Str.{bytes_eq}
use Rattle.trap_report.specs.Names.{header_name, section_name}
use Rattle.trap_report.specs.declared.form.ReportWord.{ReportWord}
use Rattle.trap_report.specs.declared.form.ReportWord.TheVariants.{TaintReport, One, NameOf, CountOf, Exit, Trapped, Fault, Budget, Spent, End}
use Rattle.trap_report.specs.declared.form.Field.{Field}
use Rattle.trap_report.specs.declared.form.Field.TheVariants.{Exactly, Meeting, Verdict, Decimal, Hex}
use Rattle.trap_report.specs.declared.saved.ReportKind.{ReportKind}
use Rattle.trap_report.specs.declared.saved.ReportKind.TheVariants.{Shape, Number}

abbrev pub word_text : ReportWord → List ℕ
word_text TaintReport = codes "taint-report"
word_text One = codes "1"
word_text (NameOf name) = header_name name
word_text (CountOf section) = section_name section
word_text Exit = codes "exit"
word_text Trapped = codes "trapped"
word_text Fault = codes "fault"
word_text Budget = codes "budget"
word_text Spent = codes "spent"
word_text End = codes "end"

-- `0` to `9`, and `a` to `f` too
abbrev pub is_digit : ℕ → Bool
is_digit c = nat_le 48 c && nat_le c 57

abbrev pub is_hex_digit : ℕ → Bool
is_hex_digit c = is_digit c || (nat_le 97 c && nat_le c 102)

-- a decimal has 1 to 10 digits, hexadecimal as many as are stated
abbrev pub has_form : Field → List ℕ → Bool
has_form (Exactly word) text = bytes_eq text (word_text word)
has_form Meeting text = bytes_eq text (codes "call") || bytes_eq text (codes "sink")
has_form Verdict text = bytes_eq text (codes "go") || bytes_eq text (codes "stop")
has_form (Decimal low high) text = nat_le 1 (length text) && (nat_le (length text) 10 && list_all is_digit text)
has_form (Hex count) text = (length text == count) && list_all is_hex_digit text

-- the number that digits tell where they follow those of another number
abbrev pub number_after : ℕ → List ℕ → ℕ
number_after before [] = before
number_after before (c ∷ text) = number_after (10 * before + (c - 48)) text

abbrev pub number : List ℕ → ℕ
number text = number_after 0 text

abbrev pub has_leading_zero : List ℕ → Bool
has_leading_zero text = (slice_index text 0 == 48) && not (length text == 1)

-- a decimal has no leading zero, and is from the lower number to the higher one
abbrev pub is_in_range : Field → List ℕ → Bool
is_in_range (Decimal low high) text = not (has_leading_zero text) && (nat_le low (number text) && nat_le (number text) high)
is_in_range _ text = true

-- ---- a line

-- as many fields as the form has, and each of its form
abbrev pub has_shape : List Field → List (List ℕ) → Bool
has_shape [] [] = true
has_shape [] (text ∷ fields) = false
has_shape (field ∷ form) [] = false
has_shape (field ∷ form) (text ∷ fields) = has_form field text && has_shape form fields

abbrev pub are_in_range : List Field → List (List ℕ) → Bool
are_in_range [] fields = true
are_in_range (field ∷ form) [] = true
are_in_range (field ∷ form) (text ∷ fields) = is_in_range field text && are_in_range form fields

-- the first decimal of a line, or 0 where it has none
abbrev pub first_number : List Field → List (List ℕ) → ℕ
first_number [] fields = 0
first_number (field ∷ form) [] = 0
first_number (Decimal low high ∷ form) (text ∷ fields) = number text
first_number (field ∷ form) (text ∷ fields) = first_number form fields

-- what a line of one of these forms tells, which is its first number; a line has at most one of them
unfoldable pub forms_read : List (List Field) → List (List ℕ) → Result ℕ ReportKind
forms_read [] fields = Err Shape
forms_read (form ∷ forms) fields =
    if has_shape form fields then (if are_in_range form fields then Ok (first_number form fields) else Err Number)
    else forms_read forms fields
