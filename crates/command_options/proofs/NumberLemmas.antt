-- Decimals without a sign or a leading zero are what `parse` reads, and nothing else is.
use Rattle.std.proofs.Common.{◌≡◌, ◌≢◌, ◌∙◌, ℕ, zero, suc, ◌<◌, ◌^◌, true, false, not, ◌&&◌, List, length, get_or, Result, Ok, Err, inl, inr, ◌-◌, refl, sym, ap, subst, arith, lit<, ne_eqb, eq-eqb, le-leb}
use Rattle.std.specs.Prelude.{◌==◌, decimal, nat_le}
use Rattle.std.specs.Str.Parse.{ParsesUnsigned, AllDigits, digits_value}
use Rattle.std.proofs.lemmas.Bool.{and_parts, and_from, cases_lt, not-true}
use Rattle.std.proofs.lemmas.Fmt.{decimal_injective, decimal-digits_value, decimal_digit, first_decimal, parse-decimal}
use Rattle.std.proofs.lemmas.Str.Parse.{IsNumeralModel, numerals_by_value, tells_digits, parse_plain}
use Rattle.command_options.specs.Numbers.{Tells, is_plain}

digits : IsNumeralModel (AllDigits 10) (digits_value 10)
digits = numerals_by_value _ tells_digits

plain_first : (text : List ℕ) → 48 < get_or text 0 0 → is_plain text ≡ true
plain_first text h = rw (ne_eqb (get_or text 0 0) 43 (λ e. let f : ⊥ = omega (arith, e) in f), ne_eqb (get_or text 0 0) 48 (λ e. let f : ⊥ = omega (arith, e) in f)) refl

pub decimal_is_plain : (n : ℕ) → n < 2 ^ 64 → is_plain (decimal n) ≡ true
decimal_is_plain zero h = rw (decimal_digit 0 (lit< tt)) refl
decimal_is_plain (suc n) h = plain_first (decimal (suc n)) (first_decimal (suc n) (omega arith) h)

no_plus : (text : List ℕ) → is_plain text ≡ true → get_or text 0 0 ≢ 43
no_plus text h e =
    let none = not-true (get_or text 0 0 == 43) (and_parts (not (get_or text 0 0 == 43)) _ h).0 in
    let wrong : true ≡ false = sym (eq-eqb (get_or text 0 0) 43 e) ∙ none in
    cc

no_zero : (text : List ℕ) → is_plain text ≡ true → 0 < length text → get_or text 0 0 ≡ 48 → length text ≡ 1
no_zero text h some e = elim (cases_lt 1 (length text)) [
  | inl long ↦
      let none = not-true ((get_or text 0 0 == 48) && nat_le 2 (length text)) (and_parts (not (get_or text 0 0 == 43)) _ h).1 in
      let both = and_from (get_or text 0 0 == 48) (nat_le 2 (length text)) (eq-eqb (get_or text 0 0) 48 e) (le-leb 2 (length text) (omega arith)) in
      let wrong : true ≡ false = sym both ∙ none in
      cc
  | inr short ↦ omega arith
]

-- what `parse` reads is the text of its number
number_is_decimal : (E : Type 0) (text : List ℕ) (n : ℕ) → is_plain text ≡ true → ParsesUnsigned {E = E} 32 10 text (Ok n) → (text ≡ decimal n) × (n < 2 ^ 32)
number_is_decimal E text n plain read =
    let r = parse_plain digits {E = E} 32 text (Ok n) read (no_plus text plain) in
    let is : decimal (digits_value 10 text) ≡ text = decimal-digits_value digits text r.0.0 r.0.1 (no_zero text plain r.0.1) (omega (arith, r.0.2)) in
    (sym is ∙ ap decimal (sym r.1), omega (arith, r.0.2, r.1))

pub ok_tells : (E : Type 0) (text : List ℕ) (r : Result ℕ E) (n : ℕ) → is_plain text ≡ true → ParsesUnsigned 32 10 text r → r ≡ Ok n → Tells text 0 (2 ^ 32 - 1) n
ok_tells E text r n plain read is =
    let d = number_is_decimal E text n plain (subst (λ (x : Result ℕ E). ParsesUnsigned 32 10 text x) is read) in
    (d.0, omega arith, omega (arith, d.1))

-- and it reads each such text
pub err_tells : (E : Type 0) (text : List ℕ) (r : Result ℕ E) (e : E) → ParsesUnsigned 32 10 text r → r ≡ Err e → (n : ℕ) → Tells text 0 (2 ^ 32 - 1) n → ⊥
err_tells E text r e read is n told =
    let ok : Ok n ≡ Err e = sym (parse-decimal 32 n text r (omega (arith, told.2)) (omega (arith, told.2)) told.0 read) ∙ is in
    cc

pub unplain_tells : (text : List ℕ) → is_plain text ≡ false → (n : ℕ) → Tells text 0 (2 ^ 32 - 1) n → ⊥
unplain_tells text wrong n told =
    let plain : is_plain text ≡ true = rw told.0 (decimal_is_plain n (omega (arith, told.2))) in
    let both : true ≡ false = sym plain ∙ wrong in
    cc

-- a text tells one number
pub tells_one : (text : List ℕ) (low high n m : ℕ) → high < 2 ^ 32 → m < 2 ^ 32 → text ≡ decimal m → Tells text low high n → n ≡ m
tells_one text low high n m fits small is told = decimal_injective n m (omega (arith, told.2)) (omega arith) (sym told.0 ∙ is)
