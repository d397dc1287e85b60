-- A line of fields against a form, field by field.
use Rattle.std.proofs.Common.{◌≡◌, ℕ, ◌+◌, ◌<◌, ◌≤◌, Bool, true, false, ◌&&◌, ◌==◌, cond, List, [], ◌∷◌, length, length-drop, drop, take, ◌-◌, Option, Some, None, Ok, Err, refl, sym, ap, ◌∙◌, subst, arith}
use Rattle.std.specs.Prelude.{unwrap_or, nat_lt}
use Rattle.std.proofs.lemmas.Bool.Decides.{nat_tests}
use Rattle.std.proofs.lemmas.Bool.{leb-true}
use Rattle.std.proofs.lemmas.List.{take_rest}
use Rattle.std.proofs.lemmas.List.Sums.{position_or_len_is, fails_before_first}
use Rattle.std.proofs.lemmas.List.Quantifiers.{position-Some}
use Rattle.std.proofs.lemmas.List.Splits.{slice_split_first, slice_split_none}
use Rattle.std.specs.Prelude.{position, is_some}
use Rattle.std.specs.Option.{option_map}
use Rattle.std.specs.List.{slice_split, onto_first, position_or_len}
use Rattle.trap_report.specs.Forms.{has_form, is_in_range, has_shape, are_in_range, first_number, number}
use Rattle.trap_report.specs.Matching.{Matching, form_read, ReadsWithin, greatest, number_or, parts_left}
use Rattle.trap_report.specs.declared.form.Field.{Field}
use Rattle.trap_report.specs.declared.form.Field.TheVariants.{Exactly, Meeting, Verdict, Decimal, Hex}
use Rattle.trap_report.specs.declared.saved.ReportKind.TheVariants.{Number}

pub at_start : (form : List Field) (fields : List (List ℕ)) → Matching form fields form fields true None
at_start form fields = record { shape = refl; range = refl; number = refl }

and_assoc : (a b c : Bool) → (a && (b && c)) ≡ ((a && b) && c)
and_assoc true b c = refl
and_assoc false b c = refl

number_next : (first : Option ℕ) (field : Field) (form : List Field) (text : List ℕ) (fields : List (List ℕ)) → unwrap_or first (first_number (field ∷ form) (text ∷ fields)) ≡ unwrap_or (number_or first field text) (first_number form fields)
number_next (Some n) field form text fields = refl
number_next None (Exactly word) form text fields = refl
number_next None Meeting form text fields = refl
number_next None Verdict form text fields = refl
number_next None (Decimal low high) form text fields = refl
number_next None (Hex count) form text fields = refl

module _ (form : List Field) (fields : List (List ℕ)) (i : ℕ) (field : Field) (left : List (List ℕ)) (good : Bool) (first : Option ℕ) (m : Matching form fields (drop i form) left good first) (within : drop i form ≡ field ∷ drop (i + 1) form) where
  pub next_matched : (text : List ℕ) (rest : List (List ℕ)) (now : Bool) (after : Option ℕ) → left ≡ text ∷ rest → has_form field text ≡ true → now ≡ (good && is_in_range field text) → after ≡ number_or first field text → Matching form fields (drop (i + 1) form) rest now after
  next_matched text rest now after l h n a = record {
    shape = m.shape ∙ rw (within, l, h) refl;
    range = m.range ∙ rw (within, l, n) (and_assoc good (is_in_range field text) (are_in_range (drop (i + 1) form) rest));
    number = m.number ∙ rw (within, l, a) (number_next first field (drop (i + 1) form) text rest);
  }

  pub other_form : (text : List ℕ) (rest : List (List ℕ)) → left ≡ text ∷ rest → has_form field text ≡ false → None ≡ form_read form fields
  unfolding form_read
  other_form text rest l h = let no : has_shape form fields ≡ false = m.shape ∙ rw (within, l, h) refl in rw no refl

  pub too_few : left ≡ [] → None ≡ form_read form fields
  unfolding form_read
  too_few l = let no : has_shape form fields ≡ false = m.shape ∙ rw (within, l) refl in rw no refl

pub too_many : (form : List Field) (fields : List (List ℕ)) (rest : List Field) (left : List (List ℕ)) (good : Bool) (first : Option ℕ) (text : List ℕ) (more : List (List ℕ)) → Matching form fields rest left good first → rest ≡ [] → left ≡ text ∷ more → None ≡ form_read form fields
unfolding form_read
too_many form fields rest left good first text more m r l = let no : has_shape form fields ≡ false = m.shape ∙ rw (r, l) refl in rw no refl

and_true : (b : Bool) → (b && true) ≡ b
and_true true = refl
and_true false = refl

pub matched : (form : List Field) (fields : List (List ℕ)) (rest : List Field) (left : List (List ℕ)) (good : Bool) (first : Option ℕ) → Matching form fields rest left good first → rest ≡ [] → left ≡ []
    → form_read form fields ≡ Some (cond good (Ok (unwrap_or first 0)) (Err Number))
unfolding form_read
matched form fields rest left good first m r l =
    let shape : has_shape form fields ≡ true = m.shape ∙ rw (r, l) refl in
    let range : are_in_range form fields ≡ good = m.range ∙ rw r (and_true good) in
    let number : first_number form fields ≡ unwrap_or first 0 = m.number ∙ rw r refl in
    rw (shape, range, number) refl

-- ---- the first number of a line is at most what the form says

and_left : (a b : Bool) → (a && b) ≡ true → a ≡ true
and_left true b h = refl
and_left false b h = cc

and_right : (a b : Bool) → (a && b) ≡ true → b ≡ true
and_right true b h = h
and_right false b h = cc

within : (form : List Field) (fields : List (List ℕ)) → has_shape form fields ≡ true → are_in_range form fields ≡ true → (first_number form fields ≤ greatest form) × ReadsWithin form (first_number form fields)
within [] fields s r = (omega arith, tt)
within (field ∷ form) [] s r = let no : ⊥ = cc in absurd no
within (Decimal low high ∷ form) (text ∷ fields) s r =
    let range = and_right _ _ (and_left _ _ r) in
    let least = leb-true low (number text) (and_left _ _ range) in
    let most = leb-true (number text) high (and_right _ _ range) in
    (most, (least, most))
within (Exactly word ∷ form) (text ∷ fields) s r = within form fields (and_right _ _ s) r
within (Meeting ∷ form) (text ∷ fields) s r = within form fields (and_right _ _ s) r
within (Verdict ∷ form) (text ∷ fields) s r = within form fields (and_right _ _ s) r
within (Hex count ∷ form) (text ∷ fields) s r = within form fields (and_right _ _ s) r

pub matched_within : (form : List Field) (fields : List (List ℕ)) (rest : List Field) (left : List (List ℕ)) (good : Bool) (first : Option ℕ) → Matching form fields rest left good first → rest ≡ [] → left ≡ [] → good ≡ true → (unwrap_or first 0 ≤ greatest form) × ReadsWithin form (unwrap_or first 0)
matched_within form fields rest left good first m r l g =
    let shape : has_shape form fields ≡ true = m.shape ∙ rw (r, l) refl in
    let range : are_in_range form fields ≡ true = m.range ∙ rw r (and_true good) ∙ g in
    let number : first_number form fields ≡ unwrap_or first 0 = m.number ∙ rw r refl in
    subst (λ (n : ℕ). (n ≤ greatest form) × ReadsWithin form n) number (within form fields shape range)

-- ---- a text up to a byte

pub cut_found : (byte : ℕ) (text : List ℕ) (place : ℕ) → position (λ b. b == byte) text ≡ Some place
    → slice_split (λ b. b == byte) text ≡ take place text ∷ slice_split (λ b. b == byte) (take (length text - (place + 1)) (drop (place + 1) text))
cut_found byte text place h =
    let p : ℕ → Bool = λ b. b == byte in
    let found = position-Some p text place 0 h in
    let at : position_or_len p text ≡ place = position_or_len_is p text place 0 (omega (arith, found.0)) found.2 (λ _. found.1) in
    let rest : take (length text - (place + 1)) (drop (place + 1) text) ≡ drop (place + 1) text = take_rest text (place + 1) in
    let first = slice_split_first p text 0 (omega (arith, at, found.0)) in
    first ∙ ap (λ (n : ℕ). take n text ∷ slice_split p (drop (n + 1) text)) at ∙ ap (λ (xs : List ℕ). take place text ∷ slice_split p xs) (sym rest)

pub shorter_behind : (byte : ℕ) (text : List ℕ) (place : ℕ) → position (λ b. b == byte) text ≡ Some place → length (take (length text - (place + 1)) (drop (place + 1) text)) < length text
shorter_behind byte text place h =
    let found = position-Some (λ b. b == byte) text place 0 h in
    omega (arith, ap length (take_rest text (place + 1)), length-drop (place + 1) text, found.0)

no_place : (m n : ℕ) → cond (nat_lt m n) (Some m) None ≡ None → n ≤ m
no_place m n h = grind (arith, nat_tests)

pub cut_missing : (byte : ℕ) (text : List ℕ) → position (λ b. b == byte) text ≡ None → slice_split (λ b. b == byte) text ≡ text ∷ []
cut_missing byte text h =
    let p : ℕ → Bool = λ b. b == byte in
    let past : length text ≤ position_or_len p text = no_place (position_or_len p text) (length text) h in
    slice_split_none p text (λ k d within. fails_before_first p text k d (omega arith))

pub left_now : {B : Type 0} (left : Option B) (now : B → List ℕ) (fields : B) → left ≡ Some fields → parts_left 32 (option_map now left) ≡ slice_split (λ b. b == 32) (now fields)
left_now left now fields h = rw h refl

parts_of : (b : Bool) (x : ℕ) (parts : List (List ℕ)) → (first : List ℕ) × (rest : List (List ℕ)) × (cond b ([] ∷ parts) (onto_first x parts) ≡ first ∷ rest)
parts_of true x parts = ([], parts, refl)
parts_of false x [] = (x ∷ [], [], refl)
parts_of false x (part ∷ parts) = (x ∷ part, parts, refl)

-- a text has at least one part
pub some_part : (byte : ℕ) (text : List ℕ) → (first : List ℕ) × (rest : List (List ℕ)) × (slice_split (λ b. b == byte) text ≡ first ∷ rest)
some_part byte [] = ([], [], refl)
some_part byte (x ∷ text) = parts_of (x == byte) x (slice_split (λ b. b == byte) text)

pub some_left : {B : Type 0} (form : List Field) (fields : List (List ℕ)) (rest : List Field) (left : Option B) (now : B → List ℕ) (good : Bool) (first : Option ℕ) → Matching form fields rest (parts_left 32 (option_map now left)) good first → rest ≡ [] → is_some left ≡ true → None ≡ form_read form fields
some_left form fields rest None now good first m r h = let no : ⊥ = cc in absurd no
some_left form fields rest (Some text) now good first m r h =
    let parts = some_part 32 (now text) in
    too_many form fields rest _ good first parts.0 parts.1 m r parts.2

pub none_left : {B : Type 0} (left : Option B) (now : B → List ℕ) → is_some left ≡ false → parts_left 32 (option_map now left) ≡ []
none_left None now h = refl
none_left (Some text) now h = let no : ⊥ = cc in absurd no

-- ---- at the end of both

module _ (form : List Field) (fields : List (List ℕ)) (rest : List Field) (left : List (List ℕ)) (good : Bool) (first : Option ℕ) (m : Matching form fields rest left good first) (r : rest ≡ []) (l : left ≡ []) where
  pub all_good : (n : ℕ) → good ≡ true → n ≡ unwrap_or first 0 → Some (Ok n) ≡ form_read form fields
  all_good n g e = sym (matched form fields rest left good first m r l ∙ rw (g, e) refl)

  pub not_good : good ≡ false → Some (Err Number) ≡ form_read form fields
  not_good g = sym (matched form fields rest left good first m r l ∙ rw g refl)
