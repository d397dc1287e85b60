-- Two orders with one report are one order.
use Rattle.std.proofs.Common.{◌≡◌, ℕ, ◌<◌, ◌≤◌, ◌^◌, true, List, [], ◌∷◌, ◌++◌, map, drop, refl, sym, ap, ◌∙◌, subst, arith}
use Rattle.std.specs.Prelude.{codes, decimal}
use Rattle.std.specs.List.{list_all, flat_map}
use Rattle.std.proofs.lemmas.Fmt.{decimal_injective}
use Rattle.order_core.specs.Marked.{Marked, marks_of}
use Rattle.machine.specs.Setups.{Setup, core_count}
use Rattle.machine.specs.States.{State, opening}
use Rattle.machine.specs.Steps.{step}
use Rattle.machine.specs.Runs.{IsPlayableFrom}
use Rattle.trap_report.specs.Fields.{fields, line_text}
use Rattle.trap_report.specs.Forms.{is_digit}
use Rattle.trap_report.specs.Reading.{fields_of, lines_in}
use Rattle.trap_report.specs.Text.{Report, report_of, text, unit_lines, lines_of}
use Rattle.trap_report.specs.ReportLaws.{OneOrder}
use Rattle.trap_report.specs.declared.report_line.Section.TheVariants.{Calls}
use Rattle.trap_report.specs.declared.report_line.ReportLine.{ReportLine}
use Rattle.trap_report.specs.declared.report_line.ReportLine.TheVariants.{Count}
use Rattle.trap_report.proofs.SplitLemmas.{decimal_digits, fields_of_text}
use Rattle.trap_report.proofs.RunLemmas.{marks_of_entries}

-- core numbers that fit
abbrev pub AreSmall : List ℕ → Type 0
AreSmall [] = Unit {0}
AreSmall (core ∷ order) = (core < 2 ^ 8) × AreSmall order

playable_small : (s : Setup) (t : State) (order : List ℕ) → core_count s ≤ 2 ^ 8 → IsPlayableFrom s t order → AreSmall order
unfolding IsPlayableFrom
playable_small s t [] h p = tt
playable_small s t (core ∷ order) h p = (omega (arith, p.0), playable_small s (step s t core) order h p.2)

no_number : (n : ℕ) → codes "calls" ≡ decimal n → ⊥
no_number n h =
    let digits : list_all is_digit (codes "calls") ≡ true = ap (list_all is_digit) h ∙ decimal_digits n in
    let no : ⊥ = cc in no

units_same : (us vs : List Marked) (k m : ℕ) (ys zs : List ReportLine) (end : List (List (List ℕ))) → AreSmall (marks_of us) → AreSmall (marks_of vs)
    → map fields (unit_lines us ++ Count Calls k ∷ ys) ++ end ≡ map fields (unit_lines vs ++ Count Calls m ∷ zs) ++ end → marks_of us ≡ marks_of vs
units_same [] [] k m ys zs end a b h = refl
units_same [] (v ∷ vs) k m ys zs end a b h = let head : codes "calls" ≡ decimal v.0 = cc in absurd (no_number v.0 head)
units_same (u ∷ us) [] k m ys zs end a b h = let head : codes "calls" ≡ decimal u.0 = cc in absurd (no_number u.0 head)
units_same (u ∷ us) (v ∷ vs) k m ys zs end a b h =
    let head : decimal u.0 ≡ decimal v.0 = cc in
    let same : u.0 ≡ v.0 = decimal_injective u.0 v.0 (omega (arith, a.0)) (omega (arith, b.0)) head in
    let rest : map fields (unit_lines us ++ Count Calls k ∷ ys) ++ end ≡ map fields (unit_lines vs ++ Count Calls m ∷ zs) ++ end = cc in
    let marks : marks_of us ≡ marks_of vs = units_same us vs k m ys zs end a.1 b.1 rest in
    cc

reports_same : (report other : Report) → AreSmall (marks_of report.units) → AreSmall (marks_of other.units) → flat_map line_text (lines_of report) ≡ flat_map line_text (lines_of other) → marks_of report.units ≡ marks_of other.units
reports_same report other a b h =
    let all : map fields (lines_of report) ++ ([] ∷ []) ∷ [] ≡ map fields (lines_of other) ++ ([] ∷ []) ∷ [] =
    sym (fields_of_text (lines_of report)) ∙ ap (λ (text : List ℕ). map fields_of (lines_in text)) h ∙ fields_of_text (lines_of other) in
    units_same report.units other.units _ _ _ _ (([] ∷ []) ∷ []) a b (ap (drop 7) all)

pub one_text_one_order : OneOrder
unfolding text report_of
one_text_one_order s order other cores p q h =
    let marks = marks_of_entries s (opening s) order in
    let others = marks_of_entries s (opening s) other in
    sym marks
    ∙ reports_same (report_of s order) (report_of s other) (subst AreSmall (sym marks) (playable_small s (opening s) order cores p)) (subst AreSmall (sym others) (playable_small s (opening s) other cores q)) h
    ∙ others
