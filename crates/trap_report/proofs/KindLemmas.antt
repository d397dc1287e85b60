-- What a line of one of several forms tells.
use Rattle.std.proofs.Common.{◌≡◌, ℕ, Bool, true, false, cond, List, [], ◌∷◌, Some, None, Result, Ok, Err, refl, sym, ap, ◌∙◌, ◌-◌}
use Rattle.trap_report.specs.Text.{Numbers}
use Rattle.trap_report.specs.Forms.{has_shape, forms_read}
use Rattle.trap_report.specs.Matching.{form_read}
use Rattle.trap_report.specs.Reading.{FirstLine, Numbered, Counted, LineOf, LastLine, forms, section_forms, line_read}
use Rattle.trap_report.specs.declared.form.ReportWord.TheVariants.{TaintReport, One}
use Rattle.trap_report.specs.declared.form.Field.{Field}
use Rattle.trap_report.specs.declared.form.Field.TheVariants.{Exactly, Decimal}
use Rattle.trap_report.specs.declared.report_line.HeaderLine.{HeaderLine}
use Rattle.trap_report.specs.declared.report_line.Section.{Section}
use Rattle.trap_report.specs.declared.saved.ReportKind.{ReportKind}
use Rattle.trap_report.specs.declared.saved.ReportKind.TheVariants.{Version, Shape}

some_of : {A B : Type 0} (b : Bool) (x r : A) (y z : B) → Some r ≡ cond b (Some x) None → y ≡ cond b y z
some_of true x r y z h = refl
some_of false x r y z h = let no : ⊥ = cc in absurd no

same_of : {A : Type 0} (b : Bool) (x r y : A) → Some r ≡ cond b (Some x) None → r ≡ cond b x y
same_of true x r y h = cc
same_of false x r y h = let no : ⊥ = cc in absurd no

none_of : {A B : Type 0} (b : Bool) (x : A) (y z : B) → None ≡ cond b (Some x) None → z ≡ cond b y z
none_of true x y z h = let no : ⊥ = cc in absurd no
none_of false x y z h = refl

pub no_form : (fields : List (List ℕ)) → Err Shape ≡ forms_read [] fields
unfolding forms_read
no_form fields = refl

pub this_form : (form : List Field) (others : List (List Field)) (fields : List (List ℕ)) (read : Result ℕ ReportKind) → Some read ≡ form_read form fields → read ≡ forms_read (form ∷ others) fields
unfolding form_read forms_read
this_form form others fields read h = same_of (has_shape form fields) _ read (forms_read others fields) h

pub other_form : (form : List Field) (others : List (List Field)) (fields : List (List ℕ)) → None ≡ form_read form fields → forms_read others fields ≡ forms_read (form ∷ others) fields
unfolding form_read forms_read
other_form form others fields h = none_of (has_shape form fields) _ _ (forms_read others fields) h

abbrev pub first_form : List Field
first_form = Exactly TaintReport ∷ Exactly One ∷ []

pub is_first : (numbers : Numbers) (fields : List (List ℕ)) (read : Result ℕ ReportKind) → Some read ≡ form_read first_form fields → Ok 0 ≡ line_read numbers FirstLine fields
unfolding form_read line_read
is_first numbers fields read h = some_of (has_shape first_form fields) _ read (Ok 0) (Err Version) h

pub not_first : (numbers : Numbers) (fields : List (List ℕ)) → None ≡ form_read first_form fields → Err Version ≡ line_read numbers FirstLine fields
unfolding form_read line_read
not_first numbers fields h = none_of (has_shape first_form fields) _ (Ok 0) (Err Version) h

-- each other line is one of its forms
pub line_read_numbered : (numbers : Numbers) (name : HeaderLine) (fields : List (List ℕ)) → line_read numbers (Numbered name) fields ≡ forms_read (forms numbers (Numbered name)) fields
unfolding line_read
line_read_numbered numbers name fields = refl

pub line_read_counted : (numbers : Numbers) (section : Section) (fields : List (List ℕ)) → line_read numbers (Counted section) fields ≡ forms_read (forms numbers (Counted section)) fields
unfolding line_read
line_read_counted numbers section fields = refl

pub line_read_of : (numbers : Numbers) (section : Section) (fields : List (List ℕ)) → line_read numbers (LineOf section) fields ≡ forms_read (forms numbers (LineOf section)) fields
unfolding line_read
line_read_of numbers section fields = refl

pub line_read_last : (numbers : Numbers) (fields : List (List ℕ)) → line_read numbers LastLine fields ≡ forms_read (forms numbers LastLine) fields
unfolding line_read
line_read_last numbers fields = refl

pub core_read : (numbers : Numbers) (section named : Section) (last : ℕ) (fields : List (List ℕ)) (read : Result ℕ ReportKind) → section ≡ named → numbers.cores - 1 ≡ last
    → read ≡ forms_read (section_forms (Decimal 0 last) named) fields → read ≡ line_read numbers (LineOf section) fields
core_read numbers section named last fields read s l h =
    h ∙ ap (λ (of : Section). forms_read (section_forms (Decimal 0 last) of) fields) (sym s)
    ∙ ap (λ (most : ℕ). forms_read (section_forms (Decimal 0 most) section) fields) (sym l)
    ∙ sym (line_read_of numbers section fields)
