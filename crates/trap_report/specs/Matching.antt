-- Proof form: a line against one form, field by field.
use Rattle.std.specs.Prelude.{◌≡◌, ℕ, Bool, ◌&&◌, ◌==◌, ◌≤◌, List, [], ◌∷◌, Option, Some, None, Result, Ok, Err, unwrap_or, if◌then◌else◌}
use Rattle.std.specs.List.{slice_split}
use Rattle.trap_report.specs.Forms.{has_shape, are_in_range, first_number, number}
use Rattle.trap_report.specs.declared.form.Field.{Field}
use Rattle.trap_report.specs.declared.form.Field.TheVariants.{Decimal}
use Rattle.trap_report.specs.declared.saved.ReportKind.{ReportKind}
use Rattle.trap_report.specs.declared.saved.ReportKind.TheVariants.{Number}

-- what one form reads, or nothing where the line has not its shape
unfoldable pub form_read : List Field → List (List ℕ) → Option (Result ℕ ReportKind)
form_read form fields =
    if has_shape form fields then Some (if are_in_range form fields then Ok (first_number form fields) else Err Number) else None

-- the greatest number that the first decimal of a form may be
abbrev pub greatest : List Field → ℕ
greatest [] = 0
greatest (Decimal low high ∷ form) = high
greatest (field ∷ form) = greatest form

-- a number in the range of the first decimal of a form
abbrev pub ReadsWithin : List Field → ℕ → Type 0
ReadsWithin [] n = Unit {0}
ReadsWithin (Decimal low high ∷ form) n = (low ≤ n) × (n ≤ high)
ReadsWithin (field ∷ form) n = ReadsWithin form n

-- the parts of what is left of a text that is cut at a byte
abbrev pub parts_left : ℕ → Option (List ℕ) → List (List ℕ)
parts_left byte None = []
parts_left byte (Some rest) = slice_split (λ b. b == byte) rest

abbrev pub number_or : Option ℕ → Field → List ℕ → Option ℕ
number_or (Some n) field text = Some n
number_or None (Decimal low high) text = Some (number text)
number_or None field text = None

-- the fields so far had their forms: what is left of the form and of the line decides, with whether each number so far was in its
-- range, and the first number so far
pub record Matching (form : List Field) (fields : List (List ℕ)) (rest : List Field) (left : List (List ℕ)) (good : Bool) (first : Option ℕ) : Type 0 where
  pub shape : has_shape form fields ≡ has_shape rest left
  pub range : are_in_range form fields ≡ (good && are_in_range rest left)
  pub number : first_number form fields ≡ unwrap_or first (first_number rest left)
