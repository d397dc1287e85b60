-- A report's text cut into its lines and these into their fields gives back what it was made of.
use Rattle.std.proofs.Common.{◌≡◌, ◌==◌, ℕ, zero, suc, ◌+◌, ◌<◌, ◌≤◌, ◌/◌, ◌%◌, ◌^◌, Bool, true, false, ◌&&◌, cond, List, [], ◌∷◌, ◌++◌, map, Option, Some, None, refl, sym, ap, ◌∙◌, subst, arith, append_assoc, eq-eqb, ne_eqb, lit<}
use Rattle.std.specs.Prelude.{nat_lt, nat_le, codes, decimal}
use Rattle.trap_report.specs.Forms.{is_digit}
use Rattle.std.specs.List.{list_all, slice_split, flat_map, join_with_byte}
use Rattle.std.specs.Fmt.{digits, digits_onto, digit_glyph}
use Rattle.std.proofs.lemmas.List.Folds.{list_all-append}
use Rattle.std.proofs.lemmas.Bool.Decides.{nat_tests}
use Rattle.trap_report.specs.Digits.{hex, hex_digit}
use Rattle.trap_report.specs.Fields.{fields, touch_fields, end_fields, note_fields, trap_fields, spelled, line_text}
use Rattle.trap_report.specs.Names.{header_name, section_name, kind_name, verdict_name}
use Rattle.trap_report.specs.Reading.{fields_of, lines_in}
use Rattle.rv_execute.specs.Faults.{fault_number}
use Rattle.order_core.specs.declared.entry.Access.{Access}
use Rattle.record_lane.specs.declared.record.MeetKind.{MeetKind}
use Rattle.record_lane.specs.declared.record.MeetKind.TheVariants.{Call, Verdict}
use Rattle.syscall_drain.specs.declared.end.End.{End}
use Rattle.syscall_drain.specs.declared.end.End.TheVariants.{Exit, Trapped, Fault, Budget as BudgetEnd, Spent}
use Rattle.trap_report.specs.declared.report_line.HeaderLine.{HeaderLine}
use Rattle.trap_report.specs.declared.report_line.HeaderLine.TheVariants.{Cores, Budget, Limit, Stack, Heap}
use Rattle.trap_report.specs.declared.report_line.Section.{Section}
use Rattle.trap_report.specs.declared.report_line.Section.TheVariants.{Units, Calls, Traps, Ends}
use Rattle.trap_report.specs.declared.report_line.ReportLine.{ReportLine}
use Rattle.trap_report.specs.declared.report_line.ReportLine.TheVariants.{Version, Header, Count, UnitOf, NoteOf, TrapOf, EndOf, Last}

-- ---- texts whose bytes are all above one

abbrev pub is_above : ℕ → List ℕ → Bool
is_above byte text = list_all (λ c. nat_lt byte c) text

above_head : (byte c : ℕ) (text : List ℕ) → is_above byte (c ∷ text) ≡ true → (byte < c) × (is_above byte text ≡ true)
above_head byte c text h = of_and (nat_lt byte c) (is_above byte text) byte c h refl
  where
    of_and : (a b : Bool) (m n : ℕ) → (a && b) ≡ true → a ≡ nat_lt m n → (m < n) × (b ≡ true)
    of_and true b m n h e = ((let test : nat_lt m n ≡ true = sym e in grind (arith, nat_tests)), h)
    of_and false b m n h e = let no : ⊥ = cc in absurd no

split_above : (byte : ℕ) (text behind : List ℕ) → is_above byte text ≡ true → slice_split (λ b. b == byte) (text ++ byte ∷ behind) ≡ text ∷ slice_split (λ b. b == byte) behind
split_above byte [] behind h = rw (eq-eqb byte byte refl) refl
split_above byte (c ∷ text) behind h =
    let parts = above_head byte c text h in
    rw (ne_eqb c byte (λ e. let no : ⊥ = omega (arith, e, parts.0) in no), split_above byte text behind parts.1) refl

split_whole : (byte : ℕ) (text : List ℕ) → is_above byte text ≡ true → slice_split (λ b. b == byte) text ≡ text ∷ []
split_whole byte [] h = refl
split_whole byte (c ∷ text) h =
    let parts = above_head byte c text h in
    rw (ne_eqb c byte (λ e. let no : ⊥ = omega (arith, e, parts.0) in no), split_whole byte text parts.1) refl

-- ---- numbers, whatever they are

and_both : (a b : Bool) → a ≡ true → b ≡ true → (a && b) ≡ true
and_both true b p q = q
and_both false b p q = p

above_from : (byte c : ℕ) (text : List ℕ) → byte < c → is_above byte text ≡ true → is_above byte (c ∷ text) ≡ true
above_from byte c text h t = and_both (nat_lt byte c) (is_above byte text) (grind (arith, nat_tests)) t

pub above_append : (byte : ℕ) (xs ys : List ℕ) → is_above byte xs ≡ true → is_above byte ys ≡ true → is_above byte (xs ++ ys) ≡ true
above_append byte xs ys h k = list_all-append (λ c. nat_lt byte c) xs ys ∙ and_both (is_above byte xs) (is_above byte ys) h k

glyph_above : (d : ℕ) → 32 < digit_glyph false d
glyph_above d = grind (arith, nat_tests)

onto_above : (fuel n : ℕ) (text : List ℕ) → is_above 32 text ≡ true → is_above 32 (digits_onto fuel 10 false n text) ≡ true
onto_above zero n text h = h
onto_above (suc fuel) n text h =
    let more = above_from 32 (digit_glyph false (n % 10)) text (glyph_above (n % 10)) h in
    either (n / 10 == 0) (digit_glyph false (n % 10) ∷ text) (digits_onto fuel 10 false (n / 10) (digit_glyph false (n % 10) ∷ text)) more (onto_above fuel (n / 10) (digit_glyph false (n % 10) ∷ text) more)
  where
    either : (b : Bool) (xs ys : List ℕ) → is_above 32 xs ≡ true → is_above 32 ys ≡ true → is_above 32 (cond b xs ys) ≡ true
    either true xs ys p q = p
    either false xs ys p q = q

pub decimal_above : (n : ℕ) → is_above 32 (decimal n) ≡ true
unfolding digits
decimal_above n = onto_above 64 n [] refl

hex_digit_above : (d : ℕ) → 32 < hex_digit d
hex_digit_above d = grind (arith, nat_tests)

pub hex_above : (count n : ℕ) → is_above 32 (hex count n) ≡ true
unfolding hex
hex_above zero n = refl
hex_above (suc count) n = above_from 32 (hex_digit (n / 16 ^ count % 16)) (hex count n) (hex_digit_above (n / 16 ^ count % 16)) (hex_above count n)

-- ---- the fields of a line

-- each field has no space and no line feed
abbrev pub AreClean : List (List ℕ) → Type 0
AreClean [] = Unit {0}
AreClean (field ∷ fields) = (is_above 32 field ≡ true) × AreClean fields

header_clean : (name : HeaderLine) → is_above 32 (header_name name) ≡ true
header_clean Cores = refl
header_clean Budget = refl
header_clean Limit = refl
header_clean Stack = refl
header_clean Heap = refl

section_clean : (section : Section) → is_above 32 (section_name section) ≡ true
section_clean Units = refl
section_clean Calls = refl
section_clean Traps = refl
section_clean Ends = refl

kind_clean : (kind : MeetKind) → is_above 32 (kind_name kind) ≡ true
kind_clean Call = refl
kind_clean Verdict = refl

verdict_clean : (stop : Bool) → is_above 32 (verdict_name stop) ≡ true
verdict_clean false = refl
verdict_clean true = refl

touch_clean : (touch : Option Access) → AreClean (touch_fields touch)
touch_clean None = tt
touch_clean (Some access) = (decimal_above access.word, (decimal_above access.number, (hex_above 8 access.found, tt)))

end_clean : (end : End) → AreClean (end_fields end)
end_clean (Exit code) = (refl, (decimal_above code, tt))
end_clean Trapped = (refl, tt)
end_clean (Fault fault) = (refl, (decimal_above (fault_number fault), tt))
end_clean BudgetEnd = (refl, tt)
end_clean Spent = (refl, tt)

pub fields_clean : (line : ReportLine) → AreClean (fields line)
fields_clean Version = (refl, (refl, tt))
fields_clean (Header name number) = (header_clean name, (decimal_above number, tt))
fields_clean (Count section number) = (section_clean section, (decimal_above number, tt))
fields_clean (UnitOf core entry) = (decimal_above core, touch_clean entry.touch)
fields_clean (NoteOf core note) = (
  decimal_above core,
  (decimal_above note.step, (hex_above 8 note.pc, (kind_clean note.kind, (decimal_above note.call, (hex_above 32 note.tags, (hex_above 1 note.buffer, (verdict_clean note.stop, tt))))))),
)
fields_clean (TrapOf core trap) = (decimal_above core, (decimal_above trap.step, (hex_above 8 trap.pc, (decimal_above trap.kind, (hex_above 1 trap.bits, tt)))))
fields_clean (EndOf core end) = (decimal_above core, end_clean end)
fields_clean Last = (refl, tt)

-- ---- a line cut into its fields

-- the text of fields without the line feed
abbrev pub body : List (List ℕ) → List ℕ
body fields = join_with_byte 32 fields

spelled_body : (fields : List (List ℕ)) → spelled fields ≡ body fields ++ 10 ∷ []
spelled_body [] = refl
spelled_body (field ∷ []) = refl
spelled_body (field ∷ next ∷ fields) = ap (λ rest. field ++ 32 ∷ rest) (spelled_body (next ∷ fields)) ∙ sym (append_assoc field (32 ∷ body (next ∷ fields)) (10 ∷ []))

weaker : (text : List ℕ) → is_above 32 text ≡ true → is_above 10 text ≡ true
weaker [] h = refl
weaker (c ∷ text) h = let parts = above_head 32 c text h in above_from 10 c text (omega (arith, parts.0)) (weaker text parts.1)

body_above : (fields : List (List ℕ)) → AreClean fields → is_above 10 (body fields) ≡ true
body_above [] h = refl
body_above (field ∷ []) h = weaker field h.0
body_above (field ∷ next ∷ fields) h = above_append 10 field (32 ∷ body (next ∷ fields)) (weaker field h.0) (above_from 10 32 (body (next ∷ fields)) (lit< tt) (body_above (next ∷ fields) h.1))

pub fields_back : (field : List ℕ) (fields : List (List ℕ)) → AreClean (field ∷ fields) → fields_of (body (field ∷ fields)) ≡ field ∷ fields
fields_back field [] h = split_whole 32 field h.0
fields_back field (next ∷ fields) h = split_above 32 field (body (next ∷ fields)) h.0 ∙ ap (λ rest. field ∷ rest) (fields_back next fields h.1)

some_fields : (line : ReportLine) → (first : List ℕ) × (rest : List (List ℕ)) × (fields line ≡ first ∷ rest)
some_fields Version = (codes "taint-report", codes "1" ∷ [], refl)
some_fields (Header name number) = (header_name name, decimal number ∷ [], refl)
some_fields (Count section number) = (section_name section, decimal number ∷ [], refl)
some_fields (UnitOf core entry) = (decimal core, touch_fields entry.touch, refl)
some_fields (NoteOf core note) = (decimal core, note_fields note, refl)
some_fields (TrapOf core trap) = (decimal core, trap_fields trap, refl)
some_fields (EndOf core end) = (decimal core, end_fields end, refl)
some_fields Last = (codes "end", [], refl)

pub line_back : (line : ReportLine) → fields_of (body (fields line)) ≡ fields line
line_back line =
    let some = some_fields line in
    let clean : AreClean (some.0 ∷ some.1) = subst AreClean some.2 (fields_clean line) in
    ap (λ all. fields_of (body all)) some.2 ∙ fields_back some.0 some.1 clean ∙ sym some.2

-- ---- a text cut into its lines

pub lines_back : (lines : List ReportLine) → lines_in (flat_map line_text lines) ≡ map (λ line. body (fields line)) lines ++ [] ∷ []
lines_back [] = refl
lines_back (line ∷ lines) =
    let text : line_text line ++ flat_map line_text lines ≡ body (fields line) ++ 10 ∷ flat_map line_text lines = rw (spelled_body (fields line)) (append_assoc (body (fields line)) (10 ∷ []) (flat_map line_text lines)) in
    ap lines_in text ∙ split_above 10 (body (fields line)) (flat_map line_text lines) (body_above (fields line) (fields_clean line))
    ∙ ap (λ rest. body (fields line) ∷ rest) (lines_back lines)

-- ---- the fields of a text

pub fields_of_text : (lines : List ReportLine) → map fields_of (lines_in (flat_map line_text lines)) ≡ map fields lines ++ ([] ∷ []) ∷ []
fields_of_text lines = ap (map fields_of) (lines_back lines) ∙ each lines
  where
    each : (lines : List ReportLine) → map fields_of (map (λ line. body (fields line)) lines ++ [] ∷ []) ≡ map fields lines ++ ([] ∷ []) ∷ []
    each [] = refl
    each (line ∷ lines) = rw (line_back line, each lines) refl

-- ---- decimals are digits

digit_from : (c : ℕ) (text : List ℕ) → 48 ≤ c → c ≤ 57 → list_all is_digit text ≡ true → list_all is_digit (c ∷ text) ≡ true
digit_from c text low high t = and_both (is_digit c) (list_all is_digit text) (and_both (nat_le 48 c) (nat_le c 57) (grind (arith, nat_tests)) (grind (arith, nat_tests))) t

glyph_is : (d : ℕ) → d < 10 → digit_glyph false d ≡ 48 + d
glyph_is d h = grind (arith, nat_tests)

onto_digits : (fuel n : ℕ) (text : List ℕ) → list_all is_digit text ≡ true → list_all is_digit (digits_onto fuel 10 false n text) ≡ true
onto_digits zero n text h = h
onto_digits (suc fuel) n text h =
    let glyph : digit_glyph false (n % 10) ≡ 48 + n % 10 = glyph_is (n % 10) (omega arith) in
    let more = digit_from (digit_glyph false (n % 10)) text (omega (arith, glyph)) (omega (arith, glyph)) h in
    either (n / 10 == 0) (digit_glyph false (n % 10) ∷ text) (digits_onto fuel 10 false (n / 10) (digit_glyph false (n % 10) ∷ text)) more (onto_digits fuel (n / 10) (digit_glyph false (n % 10) ∷ text) more)
  where
    either : (b : Bool) (xs ys : List ℕ) → list_all is_digit xs ≡ true → list_all is_digit ys ≡ true → list_all is_digit (cond b xs ys) ≡ true
    either true xs ys p q = p
    either false xs ys p q = q

pub decimal_digits : (n : ℕ) → list_all is_digit (decimal n) ≡ true
unfolding digits
decimal_digits n = onto_digits 64 n [] refl
