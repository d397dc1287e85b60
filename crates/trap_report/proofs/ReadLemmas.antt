-- Reading line by line: what one line more leaves to be read.
use Rattle.std.proofs.Common.{◌≡◌, ◌==◌, ℕ, zero, suc, ◌+◌, ◌-◌, ◌<◌, Bool, true, false, cond, length, replicate, List, [], ◌∷◌, ◌++◌, Result, Ok, Err, refl, ◌∙◌, subst, arith}
use Rattle.std.proofs.lemmas.Bool.Decides.{nat_tests}
use Rattle.std.specs.List.{onto_first}
use Rattle.trap_report.specs.Reading.{LineKind, FirstLine, LineOf, header_kinds, section_kinds, nothing, saved_of, Reported, BadLine, count_range, lines_in, fields_of, read, line_read, reported_after, counted_lines, on_line, at_end}
use Rattle.trap_report.specs.Saved.{IsReading}
use Rattle.trap_report.specs.declared.saved.Saved.{Saved}
use Rattle.trap_report.specs.Walking.{Goes, HasOne, TakesLine, at_line, fault_at, reading}
use Rattle.trap_report.specs.Text.{Numbers}
use Rattle.trap_report.specs.declared.form.Field.TheVariants.{Decimal}
use Rattle.trap_report.specs.declared.report_line.Section.{Section}
use Rattle.trap_report.specs.declared.report_line.Section.TheVariants.{Units, Calls, Traps, Ends}
use Rattle.trap_report.specs.declared.saved.ReportKind.{ReportKind}
use Rattle.trap_report.specs.declared.saved.ReportKind.TheVariants.{Truncated, TooLong}
use Rattle.trap_report.specs.declared.saved.ReportFault.{ReportFault}
use Rattle.trap_report.specs.declared.saved.ReportFault.TheVariants.{Bad, NoMemory}
use Rattle.trap_report.proofs.MatchLemmas.{some_part}

-- ---- steps one after another

pub goes_after : {A : Type 0} (before mid : Result Reported BadLine) (after : A → Result Reported BadLine) (result : Result A ReportFault) → before ≡ mid → Goes mid after result → Goes before after result
goes_after before mid after (Ok value) e g = record { leads = e ∙ g.leads }
goes_after before mid after (Err (Bad line kind)) e g = record { leads = e ∙ g.leads }
goes_after before mid after (Err NoMemory) e g = record { leads = tt }

-- a fault is that of the whole, whatever was to come
pub goes_wrong : {A B : Type 0} (before mid : Result Reported BadLine) (after : A → Result Reported BadLine) (whole : B → Result Reported BadLine) (fault : ReportFault) → before ≡ mid → Goes mid after (Err fault) → Goes before whole (Err fault)
goes_wrong before mid after whole (Bad line kind) e g = record { leads = e ∙ g.leads }
goes_wrong before mid after whole NoMemory e g = record { leads = tt }

-- ---- one line

read_one : (line next : List ℕ) (lines : List (List ℕ)) (taken : ℕ) (told : Reported) (kind : LineKind) (kinds : List LineKind)
    → read (line ∷ next ∷ lines) taken told (kind ∷ kinds) ≡ on_line (taken + 1) (line_read told.numbers kind (fields_of line)) (λ n. read (next ∷ lines) (taken + 1) (reported_after kind n told) (counted_lines kind n ++ kinds))
unfolding read
read_one line next lines taken told kind kinds = refl

pub read_whole : (line : List ℕ) (lines : List (List ℕ)) (first : List ℕ) (more : List (List ℕ)) (taken : ℕ) (told : Reported) (kind : LineKind) (kinds : List LineKind) → lines ≡ first ∷ more
    → read (line ∷ lines) taken told (kind ∷ kinds) ≡ on_line (taken + 1) (line_read told.numbers kind (fields_of line)) (λ n. read lines (taken + 1) (reported_after kind n told) (counted_lines kind n ++ kinds))
read_whole line lines first more taken told kind kinds e = rw e (read_one line first more taken told kind kinds)

told_line : (line : ℕ) (read : Result ℕ ReportKind) (after : ℕ → Result Reported BadLine) → Goes (on_line line read after) after (at_line line read)
told_line line (Ok n) after = record { leads = refl }
told_line line (Err kind) after = record { leads = refl }

pub line_goes : (rest new : List ℕ) (taken now : ℕ) (line : List ℕ) (told : Reported) (kind : LineKind) (kinds : List LineKind) (of : Result ℕ ReportKind) (result : Result ℕ ReportFault)
    → lines_in rest ≡ line ∷ lines_in new → now ≡ taken + 1 → of ≡ line_read told.numbers kind (fields_of line) → result ≡ at_line now of
    → TakesLine kind told kinds rest taken new now result
line_goes rest new taken now line told kind kinds of result l n o r =
    let part = some_part 10 new in
    let whole : reading rest taken told (kind ∷ kinds) ≡ on_line (taken + 1) of (λ m. reading new (taken + 1) (reported_after kind m told) (counted_lines kind m ++ kinds)) =
    rw (l, o) (read_whole line (lines_in new) part.0 part.1 taken told kind kinds part.2) in
    rw (r, n) (goes_after _ _ _ _ whole (told_line (taken + 1) of (λ m. reading new (taken + 1) (reported_after kind m told) (counted_lines kind m ++ kinds))))

read_none : (lines : List (List ℕ)) (taken : ℕ) (told : Reported) (kind : LineKind) (kinds : List LineKind) → HasOne lines → read lines taken told (kind ∷ kinds) ≡ Err (record { line = taken + 1; kind = Truncated })
unfolding read
read_none [] taken told kind kinds h = absurd h
read_none (line ∷ []) taken told kind kinds h = refl
read_none (line ∷ next ∷ lines) taken told kind kinds h = absurd h

pub line_cut : {A : Type 0} (rest : List ℕ) (taken : ℕ) (told : Reported) (kind : LineKind) (kinds : List LineKind) (after : A → Result Reported BadLine) (fault : ReportFault)
    → HasOne (lines_in rest) → fault ≡ fault_at (taken + 1) Truncated → Goes (reading rest taken told (kind ∷ kinds)) after (Err fault)
line_cut rest taken told kind kinds after fault h f = rw f (record { leads = read_none (lines_in rest) taken told kind kinds h })

-- what a `?` hands on
pub exit_goes : {B : Type 0} (before : Result Reported BadLine) (whole : B → Result Reported BadLine) (result : Result B ReportFault) (given fault : ReportFault) → result ≡ Err given → given ≡ fault → Goes before whole (Err fault) → Goes before whole result
exit_goes before whole result given fault r g h = rw (r, g) h

pub goes_ok : {A : Type 0} (before : Result Reported BadLine) (after : A → Result Reported BadLine) (result : Result A ReportFault) (value : A) → Goes before after result → result ≡ Ok value → before ≡ after value
goes_ok before after result value g r = (subst (λ (of : Result _ ReportFault). Goes before after of) r g).leads

pub goes_err : {A B : Type 0} (before : Result Reported BadLine) (after : A → Result Reported BadLine) (whole : B → Result Reported BadLine) (result : Result A ReportFault) (fault : ReportFault) → Goes before after result → result ≡ Err fault → Goes before whole (Err fault)
goes_err before after whole result fault g r = goes_wrong before before after whole fault refl (subst (λ (of : Result _ ReportFault). Goes before after of) r g)

pub one_of : (n : ℕ) (kind : LineKind) (kinds : List LineKind) → 0 < n → replicate n kind ++ kinds ≡ kind ∷ (replicate (n - 1) kind ++ kinds)
one_of zero kind kinds h = absurd (omega arith)
one_of (suc n) kind kinds h = let same : suc n - 1 ≡ n = omega arith in rw same refl

-- ---- the end of the text

nothing_more : (taken : ℕ) (told : Reported) → reading [] taken told [] ≡ Ok told
unfolding read
nothing_more taken told = refl

long_of : (b : Bool) (x : ℕ) (parts : List (List ℕ)) (first : List ℕ) (rest : List (List ℕ)) (taken : ℕ) (told : Reported) → parts ≡ first ∷ rest → at_end (cond b ([] ∷ parts) (onto_first x parts)) taken told ≡ Err (record { line = taken + 1; kind = TooLong })
long_of true x parts first rest taken told h = rw h refl
long_of false x parts first rest taken told h = rw h refl

more_follows : (x : ℕ) (text : List ℕ) (taken : ℕ) (told : Reported) → reading (x ∷ text) taken told [] ≡ Err (record { line = taken + 1; kind = TooLong })
unfolding read
more_follows x text taken told =
    let part = some_part 10 text in
    long_of (x == 10) x (lines_in text) part.0 part.1 taken told part.2

pub at_the_end : (rest : List ℕ) (taken : ℕ) (told : Reported) → length rest ≡ 0 → reading rest taken told [] ≡ Ok told
at_the_end [] taken told h = nothing_more taken told
at_the_end (x ∷ rest) taken told h = absurd (omega arith)

pub past_the_end : (rest : List ℕ) (taken : ℕ) (told : Reported) → 0 < length rest → reading rest taken told [] ≡ Err (record { line = taken + 1; kind = TooLong })
past_the_end [] taken told h = absurd (omega arith)
past_the_end (x ∷ rest) taken told h = more_follows x rest taken told

-- ---- sections of which nothing is kept

pub any_count : (numbers : Numbers) (section : Section) → (section ≡ Units → ⊥) → count_range numbers section ≡ Decimal 0 4294967295
any_count numbers Units h = absurd (h refl)
any_count numbers Calls h = refl
any_count numbers Traps h = refl
any_count numbers Ends h = refl

pub nothing_kept : (section : Section) (n : ℕ) (told : Reported) → (section ≡ Units → ⊥) → reported_after (LineOf section) n told ≡ told
nothing_kept Units n told h = absurd (h refl)
nothing_kept Calls n told h = refl
nothing_kept Traps n told h = refl
nothing_kept Ends n told h = refl

pub is_zero : (n : ℕ) (b : Bool) → b ≡ (n == 0) → b ≡ true → n ≡ 0
is_zero n b e h = grind (arith, nat_tests)

pub not_zero : (n : ℕ) (b : Bool) → b ≡ (n == 0) → b ≡ false → 0 < n
not_zero n b e h = grind (arith, nat_tests)

-- ---- the whole text

pub at_first : (bytes rest : List ℕ) (taken : ℕ) → rest ≡ bytes → taken ≡ 0 → saved_of bytes ≡ reading rest taken nothing (FirstLine ∷ (header_kinds ++ section_kinds))
unfolding saved_of
at_first bytes rest taken r t = rw (r, t) refl

said_wrong : (said : Result Reported BadLine) (fault : ReportFault) → Goes {A = ℕ} said (λ _. said) (Err fault) → IsReading said (Err fault)
said_wrong said (Bad line kind) g = g.leads
said_wrong said NoMemory g = tt

pub read_wrong : {A : Type 0} (said mid : Result Reported BadLine) (after : A → Result Reported BadLine) (result : Result Saved ReportFault) (given fault : ReportFault) → result ≡ Err given → given ≡ fault → said ≡ mid → Goes mid after (Err fault) → IsReading said result
read_wrong said mid after result given fault r g e h = rw (r, g) (said_wrong said fault (goes_wrong said mid after (λ _. said) fault e h))
