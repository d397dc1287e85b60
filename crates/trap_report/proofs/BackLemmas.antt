-- A line that is written reads back: it has its form, its numbers are in their ranges, and the first of them is what it told.
use Rattle.std.proofs.Common.{◌≡◌, ℕ, zero, suc, ◌<◌, ◌≤◌, ◌/◌, ◌%◌, ◌^◌, Bool, true, false, ◌&&◌, not, List, [], ◌∷◌, length, get_or, Ok, refl, ap, arith, rules, lit<, eq-eqb, ne_eqb}
use Rattle.std.specs.Prelude.{nat_le, decimal}
use Rattle.std.specs.List.{list_all}
use Rattle.std.proofs.lemmas.Bool.Decides.{nat_tests}
use Rattle.std.proofs.lemmas.Fmt.{digits_value-decimal, decimal_nonempty, length-decimal-le, first_decimal, decimal_digit}
use Rattle.std.proofs.lemmas.Str.Parse.{IsNumeralModel, numerals_by_fold}
use Rattle.trap_report.specs.Digits.{hex, hex_digit}
use Rattle.trap_report.specs.Forms.{has_form, is_in_range, has_shape, are_in_range, first_number, forms_read, number, number_after, is_digit, is_hex_digit, has_leading_zero}
use Rattle.trap_report.specs.declared.form.Field.{Field}
use Rattle.trap_report.specs.declared.form.Field.TheVariants.{Decimal, Hex}
use Rattle.trap_report.proofs.SplitLemmas.{decimal_digits}

and_both : (a b : Bool) → a ≡ true → b ≡ true → (a && b) ≡ true
and_both true b p q = q
and_both false b p q = p

-- ---- decimals

own : IsNumeralModel (λ ds. list_all is_digit ds ≡ true) (number_after 0)
own = numerals_by_fold _ (search rules) number_after (search rules)

pub number_decimal : (n : ℕ) → n < 2 ^ 64 → number (decimal n) ≡ n
number_decimal n h = digits_value-decimal own n h

pub decimal_form : (low high n : ℕ) → n < 2 ^ 32 → has_form (Decimal low high) (decimal n) ≡ true
decimal_form low high n h =
    let some : 0 < length (decimal n) = decimal_nonempty n (omega arith) in
    let short : length (decimal n) ≤ 10 = length-decimal-le 10 n (lit< tt) (omega arith) (omega arith) in
    and_both _ _ (grind (arith, nat_tests)) (and_both _ _ (grind (arith, nat_tests)) (decimal_digits n))

first_above : (text : List ℕ) → 48 < get_or text 0 0 → has_leading_zero text ≡ false
first_above text h = rw (ne_eqb (get_or text 0 0) 48 (λ e. let no : ⊥ = omega (arith, e) in no)) refl

plain : (n : ℕ) → n < 2 ^ 64 → has_leading_zero (decimal n) ≡ false
plain zero h = rw (decimal_digit 0 (lit< tt)) refl
plain (suc n) h = first_above (decimal (suc n)) (first_decimal (suc n) (omega arith) h)

pub decimal_in_range : (low high n : ℕ) → n < 2 ^ 32 → low ≤ n → n ≤ high → is_in_range (Decimal low high) (decimal n) ≡ true
decimal_in_range low high n h l m =
    let is : number (decimal n) ≡ n = number_decimal n (omega arith) in
    let least : nat_le low (number (decimal n)) ≡ true = rw is (grind (arith, nat_tests)) in
    let most : nat_le (number (decimal n)) high ≡ true = rw is (grind (arith, nat_tests)) in
    and_both (not (has_leading_zero (decimal n))) _ (ap not (plain n (omega arith))) (and_both _ _ least most)

-- ---- hexadecimal

length_hex : (count n : ℕ) → length (hex count n) ≡ count
unfolding hex
length_hex zero n = refl
length_hex (suc count) n = ap suc (length_hex count n)

hex_digit_is : (d : ℕ) → d < 16 → is_hex_digit (hex_digit d) ≡ true
hex_digit_is d h = grind (arith, nat_tests)

hex_digits : (count n : ℕ) → list_all is_hex_digit (hex count n) ≡ true
unfolding hex
hex_digits zero n = refl
hex_digits (suc count) n = and_both (is_hex_digit (hex_digit (n / 16 ^ count % 16))) (list_all is_hex_digit (hex count n)) (hex_digit_is (n / 16 ^ count % 16) (omega arith)) (hex_digits count n)

pub hex_form : (count n : ℕ) → has_form (Hex count) (hex count n) ≡ true
hex_form count n = and_both _ _ (rw (length_hex count n) (eq-eqb count count refl)) (hex_digits count n)

-- ---- a line of a form

pub and_no : (b : Bool) → (b && false) ≡ false
and_no true = refl
and_no false = refl

pub record Shaped (form : List Field) (fields : List (List ℕ)) : Type 0 where
  pub is : has_shape form fields ≡ true

pub record Ranged (form : List Field) (fields : List (List ℕ)) : Type 0 where
  pub is : are_in_range form fields ≡ true

pub no_field : Shaped [] []
no_field = record { is = refl }

pub with_field : (field : Field) (form : List Field) (text : List ℕ) (fields : List (List ℕ)) → has_form field text ≡ true → Shaped form fields → Shaped (field ∷ form) (text ∷ fields)
with_field field form text fields h k = record { is = and_both (has_form field text) (has_shape form fields) h k.is }

pub no_range : Ranged [] []
no_range = record { is = refl }

pub in_range_too : (field : Field) (form : List Field) (text : List ℕ) (fields : List (List ℕ)) → is_in_range field text ≡ true → Ranged form fields → Ranged (field ∷ form) (text ∷ fields)
in_range_too field form text fields h k = record { is = and_both (is_in_range field text) (are_in_range form fields) h k.is }

pub this_form : (form : List Field) (forms : List (List Field)) (fields : List (List ℕ)) (n : ℕ) → Shaped form fields → Ranged form fields → first_number form fields ≡ n → forms_read (form ∷ forms) fields ≡ Ok n
unfolding forms_read
this_form form forms fields n s r e = rw (s.is, r.is, e) refl

pub other_form : (form : List Field) (forms : List (List Field)) (fields : List (List ℕ)) → has_shape form fields ≡ false → forms_read (form ∷ forms) fields ≡ forms_read forms fields
unfolding forms_read
other_form form forms fields s = rw s refl
