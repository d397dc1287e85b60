-- What a finished run has of its report, and the entries that are left of the logs of its cores.
use Rattle.std.proofs.Common.{◌≡◌, ℕ, zero, suc, ◌+◌, ◌<◌, List, [], ◌∷◌, map, length, drop, take, get_or, set, replicate, Option, Some, None, refl, sym, ap, ◌∙◌, subst, arith, add-one, eq-eqb, ne_eqb, length-drop, length-set, get_or-set_same, get_or-set_other, inl, inr}
use Rattle.std.proofs.lemmas.List.{length-replicate}
use Rattle.std.proofs.lemmas.Bool.{cases_eq}
use Rattle.std.specs.Prelude.{slice_get, sum_by}
use Rattle.std.specs.List.{range_with_len}
use Rattle.std.proofs.lemmas.List.FromFn.{length-map-range_with_len, get_or-map-range_with_len}
use Rattle.std.proofs.lemmas.List.Sums.{sum_by_more}
use Rattle.std.proofs.lemmas.Option.{slice_get_within, get_or_from_slice_get}
use Rattle.order_core.specs.declared.entry.Entry.{Entry}
use Rattle.order_core.specs.Logs.{log_of}
use Rattle.order_core.specs.Marked.{Marked, marks_of, part_of}
use Rattle.machine.specs.Setups.{Setup, core_count}
use Rattle.machine.specs.States.{State, opening}
use Rattle.machine.specs.Steps.{step}
use Rattle.machine.specs.Runs.{entries_from, along, log_along, IsPlayableFrom}
use Rattle.machine.specs.Outcomes.{Summary, summary_of, summaries}
use Rattle.machine.specs.FinishedRuns.{FinishedRun, IsFinishedRun}
use Rattle.inline_tracker.specs.Seen.{FinishedSeen, next_core}
use Rattle.trap_report.specs.Text.{report_of, by_core, end_lines}
use Rattle.trap_report.specs.Left.{TellsRun, IsTakenTo, IsTakenAt, following}
use Rattle.trap_report.proofs.LeftLemmas.{length_ends}
use Rattle.trap_report.specs.declared.report_line.HeaderLine.{HeaderLine}
use Rattle.trap_report.specs.declared.report_line.HeaderLine.TheVariants.{Cores, Budget, Limit, Stack, Heap}

-- ---- a finished run tells its report

pub marks_of_entries : (s : Setup) (t : State) (order : List ℕ) → marks_of (entries_from s t order) ≡ order
unfolding entries_from
marks_of_entries s t [] = refl
marks_of_entries s t (core ∷ order) = ap (λ rest. core ∷ rest) (marks_of_entries s (step s t core) order)

known_core : (s : Setup) (t : State) (order : List ℕ) (place core : ℕ) → IsPlayableFrom s t order → slice_get order place ≡ Some core → core < core_count s
unfolding IsPlayableFrom
known_core s t [] place core p h = absurd (let no : ⊥ = cc in no)
known_core s t (first ∷ order) zero core p h = let same : first ≡ core = cc in rw (← same) p.0
known_core s t (first ∷ order) (suc place) core p h = known_core s (step s t first) order place core p.2 h

pub told : (s : Setup) (f : FinishedRun) → IsFinishedRun s f → TellsRun s f
unfolding report_of
told s f h =
    let run = h.run in
    let logs : f.logs ≡ map (log_along s f.order) (range_with_len 0 (core_count s)) = ap (λ (x : FinishedRun). x.logs) run in
    let cores : f.cores ≡ summaries s (along s f.order) = ap (λ (x : FinishedRun). x.cores) run in
    let count : length f.logs ≡ core_count s = ap length logs ∙ length-map-range_with_len (log_along s f.order) 0 (core_count s) in
    record {
      numbers = refl;
      cores = sym cores;
      count = ap length cores ∙ length-map-range_with_len (λ c. summary_of ((along s f.order).cores c)) 0 (core_count s);
      ends = ap (λ (l : List Summary). length (by_core end_lines 0 l)) cores
          ∙ length_ends 0 (λ c. summary_of ((along s f.order).cores c)) 0 (core_count s) (λ c k. h.complete.ended c (omega (arith, k)))
          ∙ sym (ap length cores ∙ length-map-range_with_len (λ c. summary_of ((along s f.order).cores c)) 0 (core_count s));
      order = marks_of_entries s (opening s) f.order;
      known = λ place core e. omega (arith, count, known_core s (opening s) f.order place core h.complete.playable e);
      parts = λ core k. ap (λ (l : List (List Entry)). get_or l core []) logs ∙ get_or-map-range_with_len (log_along s f.order) 0 (core_count s) core core [] (omega (arith, count)) (omega arith);
    }

-- ---- before the first unit nothing is taken

get_or_same : (n i x : ℕ) → get_or (replicate n x) i x ≡ x
get_or_same zero i x = refl
get_or_same (suc n) zero x = refl
get_or_same (suc n) (suc i) x = get_or_same n i x

pub none_taken : (s : Setup) (f : FinishedSeen) (taken : List ℕ) (n : ℕ) → n ≡ 256 → taken ≡ replicate n 0 → f.given ≡ 0 → TellsRun s f.run → IsTakenTo s f 0 taken
none_taken s f taken n size zeros front t = record {
  given = front;
  size = ap length zeros ∙ (let none : ℕ = 0 in length-replicate n none) ∙ size;
  left = λ core k.
      let none : get_or taken core 0 ≡ 0 = ap (λ (l : List ℕ). get_or l core 0) zeros ∙ (let nought : ℕ = 0 in get_or_same n core nought) in
      rw none (t.parts core k);
}

pub taken_following : (next : HeaderLine) (s : Setup) (f : FinishedSeen) (taken : List ℕ) → IsTakenTo s f 0 taken → IsTakenAt s f (following next) taken
taken_following Cores s f taken h = h
taken_following Budget s f taken h = h
taken_following Limit s f taken h = h
taken_following Stack s f taken h = h
taken_following Heap s f taken h = h

-- ---- one more unit

pub length_marks_of : (units : List Marked) → length (marks_of units) ≡ length units
length_marks_of [] = refl
length_marks_of (unit ∷ units) = ap suc (length_marks_of units)

unit_of : (units : List Marked) (place core : ℕ) → slice_get (marks_of units) place ≡ Some core → (entry : Entry) × (drop place units ≡ (core, entry) ∷ drop (place + 1) units)
unit_of [] place core h = absurd (let no : ⊥ = cc in no)
unit_of (unit ∷ units) zero core h =
    let same : unit.0 ≡ core = cc in
    (unit.1, ap (λ (c : ℕ). let m : Marked = (c, unit.1) in m ∷ units) same)
unit_of (unit ∷ units) (suc place) core h =
    let rest = unit_of units place core h in
    (rest.0, rw add-one (rw add-one at rest.1))

part_of_same : (core : ℕ) (entry : Entry) (units : List Marked) → part_of core ((core, entry) ∷ units) ≡ entry ∷ part_of core units
part_of_same core entry units = rw (eq-eqb core core refl) refl

part_of_other : (other core : ℕ) (entry : Entry) (units : List Marked) → (core ≡ other → ⊥) → part_of other ((core, entry) ∷ units) ≡ part_of other units
part_of_other other core entry units h = rw (ne_eqb core other h) refl

module _ (s : Setup) (f : FinishedSeen) (place : ℕ) (taken : List ℕ) (core : ℕ) (t : TellsRun s f.run) (k : IsTakenTo s f place taken) (at : slice_get f.run.order place ≡ Some core) where
  abbrev units : List Marked
  units = (report_of s f.run.order).units

  unit : (entry : Entry) × (drop place units ≡ (core, entry) ∷ drop (place + 1) units)
  unit = unit_of units place core (ap (λ (o : List ℕ). slice_get o place) t.order ∙ at)

  left_is : drop (get_or taken core 0) (log_of f.run.logs core) ≡ unit.0 ∷ part_of core (drop (place + 1) units)
  left_is = k.left core (t.known place core at) ∙ ap (part_of core) unit.1 ∙ part_of_same core unit.0 (drop (place + 1) units)

  pub more_left : get_or taken core 0 < length (log_of f.run.logs core)
  more_left =
      let lengths : length (drop (get_or taken core 0) (log_of f.run.logs core)) ≡ suc (length (part_of core (drop (place + 1) units))) = ap length left_is in
      omega (arith, lengths, length-drop (get_or taken core 0) (log_of f.run.logs core))

  pub unit_told : (entry : Entry) → drop (get_or taken core 0) (log_of f.run.logs core) ≡ entry ∷ drop (get_or taken core 0 + 1) (log_of f.run.logs core) → drop place (report_of s f.run.order).units ≡ (core, entry) ∷ drop (place + 1) (report_of s f.run.order).units
  unit_told entry e =
      let same : unit.0 ≡ entry = cc (left_is, e) in
      unit.1 ∙ ap (λ (made : Entry). let m : Marked = (core, made) in m ∷ drop (place + 1) units) same

  pub taken_on : (entry : Entry) (now : List ℕ) → core < length taken → drop (get_or taken core 0) (log_of f.run.logs core) ≡ entry ∷ drop (get_or taken core 0 + 1) (log_of f.run.logs core) → now ≡ set taken core (get_or taken core 0 + 1) → IsTakenTo s (record { run = f.run; given = place + 1 }) (place + 1) now
  taken_on entry now within e new = record {
    given = refl;
    size = ap length new ∙ length-set taken core (get_or taken core 0 + 1) ∙ k.size;
    left = λ other h. elim (cases_eq core other) [
      | inl same ↦
          let now_is : get_or now core 0 ≡ get_or taken core 0 + 1 = ap (λ (l : List ℕ). get_or l core 0) new ∙ get_or-set_same taken core (get_or taken core 0 + 1) 0 within in
          let rest : drop (get_or taken core 0 + 1) (log_of f.run.logs core) ≡ part_of core (drop (place + 1) units) = cc (left_is, e) in
          let P : ℕ → Type 0 = λ n. drop (get_or now n 0) (log_of f.run.logs n) ≡ part_of n (drop (place + 1) units) in
          let here : P core = ap (λ (n : ℕ). drop n (log_of f.run.logs core)) now_is ∙ rest in
          subst P same here
      | inr differ ↦
          let now_is : get_or now other 0 ≡ get_or taken other 0 = ap (λ (l : List ℕ). get_or l other 0) new ∙ get_or-set_other taken core other (get_or taken core 0 + 1) 0 (λ q. differ (sym q)) in
          ap (λ (n : ℕ). drop n (log_of f.run.logs other)) now_is ∙ k.left other h ∙ ap (part_of other) unit.1 ∙ part_of_other other core unit.0 (drop (place + 1) units) differ
    ];
  }

-- what is given next is at this place of the order
pub at_given : (f : FinishedSeen) (place : ℕ) (result found : Option ℕ) → f.given ≡ place → result ≡ next_core f → result ≡ found → slice_get f.run.order place ≡ found
at_given f place result found here next is = ap (slice_get f.run.order) (sym here) ∙ sym next ∙ is

-- no unit is left where the order has no place
pub none_left : (units : List Marked) (place : ℕ) → slice_get (marks_of units) place ≡ None → drop place units ≡ []
none_left [] zero h = refl
none_left [] (suc place) h = refl
none_left (unit ∷ units) zero h = cc
none_left (unit ∷ units) (suc place) h = none_left units place h

-- ---- counts over the cores

pub sum_by_next : (count : Summary → ℕ) (cores : List Summary) (i : ℕ) (core : Summary) → slice_get cores i ≡ Some core → sum_by count (take (i + 1) cores) ≡ sum_by count (take i cores) + count core
sum_by_next count cores i core h =
    sum_by_more count cores i core (slice_get_within cores i core h)
    ∙ ap (λ x. sum_by count (take i cores) + count x) (get_or_from_slice_get cores i core core h)
