-- The reading of a report finds no order bad.
use Rattle.std.proofs.Common.{◌≢◌, ℕ, ◌+◌, Bool, true, false, if◌then◌else◌, List, [], ◌∷◌, ◌++◌, Result, Ok, Err, subst}
use Rattle.trap_report.specs.Text.{Numbers}
use Rattle.trap_report.specs.Forms.{has_shape, are_in_range, first_number, forms_read}
use Rattle.trap_report.specs.Reading.{LineKind, FirstLine, Numbered, Counted, LineOf, LastLine, Reported, BadLine, forms, fields_of, line_read, reported_after, counted_lines, on_line, at_end, read, saved_of}
use Rattle.trap_report.specs.ReportLaws.{NoBadOrder}
use Rattle.trap_report.specs.declared.form.Field.{Field}
use Rattle.trap_report.specs.declared.form.Field.TheVariants.{Exactly}
use Rattle.trap_report.specs.declared.form.ReportWord.TheVariants.{TaintReport, One}
use Rattle.trap_report.specs.declared.saved.ReportKind.{ReportKind}
use Rattle.trap_report.specs.declared.saved.ReportKind.TheVariants.{Version, Shape, Number, Truncated, TooLong, Order}

abbrev IsNoOrder : ReportKind → Type 0
IsNoOrder Version = Unit {0}
IsNoOrder Shape = Unit {0}
IsNoOrder Number = Unit {0}
IsNoOrder Truncated = Unit {0}
IsNoOrder TooLong = Unit {0}
IsNoOrder Order = ⊥

-- of one line, and of all
abbrev LineFindsNone : Result ℕ ReportKind → Type 0
LineFindsNone (Ok n) = Unit {0}
LineFindsNone (Err kind) = IsNoOrder kind

abbrev FindsNone : Result Reported BadLine → Type 0
FindsNone (Ok told) = Unit {0}
FindsNone (Err bad) = IsNoOrder bad.kind

forms_find_none : (forms : List (List Field)) (fields : List (List ℕ)) → LineFindsNone (forms_read forms fields)
unfolding forms_read
forms_find_none [] fields = tt
forms_find_none (form ∷ forms) fields = by_form (has_shape form fields) (are_in_range form fields) (forms_find_none forms fields)
  where
    by_form : (shaped ranged : Bool) → LineFindsNone (forms_read forms fields)
        → LineFindsNone (if shaped then (if ranged then Ok (first_number form fields) else Err Number) else forms_read forms fields)
    by_form true true rest = tt
    by_form true false rest = tt
    by_form false ranged rest = rest

first_finds_none : (b : Bool) → LineFindsNone (if b then Ok 0 else Err Version)
first_finds_none true = tt
first_finds_none false = tt

line_finds_none : (numbers : Numbers) (kind : LineKind) (fields : List (List ℕ)) → LineFindsNone (line_read numbers kind fields)
unfolding line_read
line_finds_none numbers FirstLine fields = first_finds_none (has_shape (Exactly TaintReport ∷ Exactly One ∷ []) fields)
line_finds_none numbers (Numbered name) fields = forms_find_none (forms numbers (Numbered name)) fields
line_finds_none numbers (Counted section) fields = forms_find_none (forms numbers (Counted section)) fields
line_finds_none numbers (LineOf section) fields = forms_find_none (forms numbers (LineOf section)) fields
line_finds_none numbers LastLine fields = forms_find_none (forms numbers LastLine) fields

on_line_none : (line : ℕ) (result : Result ℕ ReportKind) (next : ℕ → Result Reported BadLine) → LineFindsNone result → ((n : ℕ) → FindsNone (next n)) → FindsNone (on_line line result next)
on_line_none line (Ok n) next here rest = rest n
on_line_none line (Err kind) next here rest = here

end_finds_none : (lines : List (List ℕ)) (taken : ℕ) (told : Reported) → FindsNone (at_end lines taken told)
end_finds_none [] taken told = tt
end_finds_none ([] ∷ []) taken told = tt
end_finds_none ((c ∷ line) ∷ []) taken told = tt
end_finds_none ([] ∷ next ∷ lines) taken told = tt
end_finds_none ((c ∷ line) ∷ next ∷ lines) taken told = tt

read_finds_none : (lines : List (List ℕ)) (taken : ℕ) (told : Reported) (kinds : List LineKind) → FindsNone (read lines taken told kinds)
unfolding read
read_finds_none lines taken told [] = end_finds_none lines taken told
read_finds_none [] taken told (kind ∷ kinds) = tt
read_finds_none (line ∷ []) taken told (kind ∷ kinds) = tt
read_finds_none (line ∷ next ∷ lines) taken told (kind ∷ kinds) =
    on_line_none (taken + 1) (line_read told.numbers kind (fields_of line)) _ (line_finds_none told.numbers kind (fields_of line))
    (λ n. read_finds_none (next ∷ lines) (taken + 1) (reported_after kind n told) (counted_lines kind n ++ kinds))

apart : (kind : ReportKind) → IsNoOrder kind → kind ≢ Order
apart kind none is = subst IsNoOrder is none

pub no_bad_order : NoBadOrder
unfolding saved_of
no_bad_order bytes bad found = apart bad.kind (subst FindsNone found (read_finds_none _ 0 _ _))
