-- What a core claims of the output, as its changes of memory tell it: the place that each claim found, and its length.
use Rattle.std.proofs.Common.{◌≡◌, ℕ, ◌+◌, ◌*◌, ◌<◌, ◌≤◌, Bool, true, false, ◌&&◌, not, ◌==◌, nat_lt, nat_le, if◌then◌else◌, Option, Some, None, List, [], ◌∷◌, ◌++◌, map, length, refl, sym, ap, ap₂, ◌∙◌, arith, append_assoc}
use Rattle.std.specs.List.{AllByRecursion}
use Rattle.std.proofs.lemmas.Bool.Decides.{nat_tests}
use Rattle.std.proofs.lemmas.List.{map-append}
use Rattle.rv_execute.specs.declared.op.Op.{Op}
use Rattle.rv_execute.specs.declared.op.Op.TheVariants.{Place}
use Rattle.rv_execute.specs.declared.op.Taken.{Taken}
use Rattle.ticket_table.specs.declared.change.Terms.{Terms}
use Rattle.ticket_table.specs.declared.change.Change.{Change}
use Rattle.elf_image.specs.declared.device.TheConstants.{OUTPUT_WORD}
use Rattle.syscall_drain.specs.Programs.{Program}
use Rattle.syscall_drain.specs.Locals.{Local, opening_local}
use Rattle.syscall_drain.specs.Units.{FitsAsk, next_ask, answered, taken_of, place_asked, placed}
use Rattle.syscall_drain.specs.Runs.{IsLocalRun}
use Rattle.syscall_drain.specs.Sound.{IsSound, due}
use Rattle.syscall_drain.specs.Pieces.{Piece, piece_at, bytes_placed}
use Rattle.syscall_drain.specs.declared.ask.CoreAsk.{CoreAsk}
use Rattle.syscall_drain.specs.declared.ask.CoreAsk.TheVariants.{Quiet as AsksNothing, Touch as Touches, Meet as Meets, Ended}
use Rattle.syscall_drain.specs.declared.ask.Answer.{Answer}
use Rattle.syscall_drain.specs.declared.ask.Answer.TheVariants.{Nothing, Taken as Took, Reply as Replied}
use Rattle.syscall_drain.proofs.Units.{fits_running, answered_units, answered_sound, answered_below, output_asked, places_bytes}
use Rattle.live_run.proofs.Spans.{total, total_append, all_append}
use Rattle.actor_lists.specs.Walked.{draw_by, SaysSpent, walked, draws_by, claims_by}

-- ---- a change of the output's word

abbrev pub placed_length : Op → ℕ
placed_length (Place size) = size
placed_length _ = 0

-- the place and the length that a change claims: none from the limit on
abbrev pub span_of : ℕ → Change → List (ℕ × ℕ)
span_of limit e = if (e.word == OUTPUT_WORD) && nat_lt e.number limit then (e.old, placed_length e.op) ∷ [] else []

abbrev pub spans : ℕ → List Change → List (ℕ × ℕ)
spans limit [] = []
spans limit (e ∷ changes) = span_of limit e ++ spans limit changes

-- only claims change the output's word
abbrev pub IsClaim : Change → Type 0
IsClaim e = e.word ≡ OUTPUT_WORD → e.op ≡ Place (placed_length e.op)

abbrev pub piece_span : Piece → ℕ × ℕ
piece_span piece = (piece.place, length piece.bytes)

-- ---- one unit

pub record ClaimsSpans (limit : ℕ) (pieces : List Piece) (changes : List Change) : Type 0 where
  pub spans_are : map piece_span pieces ≡ spans limit changes
  pub claims : AllByRecursion IsClaim changes

span_here : (limit number old size : ℕ) (gathered : List ℕ) (spent : Bool) → spent ≡ nat_le limit number → size ≡ length gathered
    → map piece_span (piece_at (if not spent then Some old else None) gathered) ≡ (if nat_lt number limit then (old, size) ∷ [] else []) ++ []
span_here limit number old size gathered true told same = let later : nat_lt number limit ≡ false = grind (arith, nat_tests) in rw later refl
span_here limit number old size gathered false told same = let within : nat_lt number limit ≡ true = grind (arith, nat_tests) in rw (within, same) refl

touch_claims : (terms : Terms) (caller word : ℕ) (op : Op) (t : Taken) (gathered : List ℕ) (b : Bool) → (word == OUTPUT_WORD) ≡ b → t.spent ≡ nat_le terms.limit t.number → (word ≡ OUTPUT_WORD → op ≡ Place (length gathered))
    → map piece_span (piece_at (place_asked (Touches word op) t) gathered) ≡ spans terms.limit (draw_by terms caller (Touches word op) (Took t))
touch_claims terms caller word op t gathered true e told asked =
    let same : word ≡ OUTPUT_WORD = grind (arith, nat_tests) in
    rw e (span_here terms.limit t.number t.old (placed_length op) gathered t.spent told (ap placed_length (asked same)))
touch_claims terms caller word op t gathered false e told asked = rw e refl

is_claim : (op : Op) (size : ℕ) → op ≡ Place size → op ≡ Place (placed_length op)
is_claim op size e = e ∙ ap (λ (o : Op). Place (placed_length o)) (sym e)

unit_claims : (terms : Terms) (caller : ℕ) (program : Program) (l : Local) (answer : Answer) → IsSound l → FitsAsk (next_ask program l) answer → SaysSpent terms.limit answer
    → ClaimsSpans terms.limit (piece_at (placed program l answer) l.gathered) (draw_by terms caller (next_ask program l) answer)
unfolding placed
unit_claims terms caller program l answer sound fits told = by_ask (next_ask program l) answer refl fits told
  where
    by_ask : (ask : CoreAsk) (a : Answer) → next_ask program l ≡ ask → FitsAsk ask a → SaysSpent terms.limit a
        → ClaimsSpans terms.limit (piece_at (place_asked ask (taken_of a)) l.gathered) (draw_by terms caller ask a)
    by_ask AsksNothing Nothing asks f t = record { spans_are = refl; claims = tt }
    by_ask AsksNothing (Took taken) asks f t = absurd f
    by_ask AsksNothing (Replied reply) asks f t = absurd f
    by_ask (Touches word op) Nothing asks f t = absurd f
    by_ask (Touches word op) (Took taken) asks f t =
        let running = fits_running program l (Took taken) (rw asks f) in
        let asked : word ≡ OUTPUT_WORD → op ≡ Place (length l.gathered) = λ same. output_asked program l op running sound (asks ∙ ap (λ (n : ℕ). Touches n op) same) in
        record {
          spans_are = touch_claims terms caller word op taken l.gathered (word == OUTPUT_WORD) refl t asked;
          claims = (λ same. is_claim op (length l.gathered) (asked same), tt);
        }
    by_ask (Touches word op) (Replied reply) asks f t = absurd f
    by_ask (Meets item) Nothing asks f t = absurd f
    by_ask (Meets item) (Took taken) asks f t = absurd f
    by_ask (Meets item) (Replied reply) asks f t = record { spans_are = refl; claims = tt }
    by_ask Ended Nothing asks f t = absurd f
    by_ask Ended (Took taken) asks f t = absurd f
    by_ask Ended (Replied reply) asks f t = absurd f

-- ---- all units

pub spans_append : (limit : ℕ) (changes more : List Change) → spans limit (changes ++ more) ≡ spans limit changes ++ spans limit more
spans_append limit [] more = refl
spans_append limit (e ∷ changes) more = rw (spans_append limit changes more) (sym (append_assoc (span_of limit e) (spans limit changes) (spans limit more)))

pub run_claims : (terms : Terms) (caller : ℕ) (program : Program) (budget : ℕ) (l : Local) (answers : List Answer) → IsSound l → IsLocalRun program budget l answers → AllByRecursion (SaysSpent terms.limit) answers
    → ClaimsSpans terms.limit (claims_by program budget l answers) (draws_by terms caller program budget l answers)
unfolding walked IsLocalRun
run_claims terms caller program budget l [] sound run told = record { spans_are = refl; claims = tt }
run_claims terms caller program budget l (answer ∷ rest) sound run told =
    let here = unit_claims terms caller program l answer sound run.0 told.0 in
    let later = run_claims terms caller program budget (answered program budget l answer) rest (answered_sound program budget l answer sound) run.1 told.1 in
    record {
      spans_are = map-append piece_span (piece_at (placed program l answer) l.gathered) (claims_by program budget (answered program budget l answer) rest)
          ∙ ap₂ (λ (a b : List (ℕ × ℕ)). a ++ b) here.spans_are later.spans_are
          ∙ sym (spans_append terms.limit (draw_by terms caller (next_ask program l) answer) (draws_by terms caller program budget (answered program budget l answer) rest));
      claims = all_append IsClaim (draw_by terms caller (next_ask program l) answer) (draws_by terms caller program budget (answered program budget l answer) rest) here.claims later.claims;
    }

-- ---- how much a core claims

piece_total : (place : Option ℕ) (bytes : List ℕ) → total (map piece_span (piece_at place bytes)) ≡ length (bytes_placed place bytes)
piece_total None bytes = refl
piece_total (Some place) bytes = omega arith

-- four bytes for each unit, and no more units than the budget
record IsShort (program : Program) (budget : ℕ) (l : Local) (answers : List Answer) : Type 0 where
  few : total (map piece_span (claims_by program budget l answers)) ≤ due l + 4 * length answers
  spent : l.units + length answers ≤ budget

run_short : (program : Program) (budget : ℕ) (l : Local) (answers : List Answer) → IsSound l → IsLocalRun program budget l answers → l.units ≤ budget → (l.ending ≡ None → l.units < budget) → IsShort program budget l answers
unfolding walked IsLocalRun
run_short program budget l [] sound run within going = record { few = omega arith; spent = omega arith }
run_short program budget l (answer ∷ rest) sound run within going =
    let next : Local = answered program budget l answer in
    let running = fits_running program l answer run.0 in
    let count : next.units ≡ l.units + 1 = answered_units program budget l answer sound in
    let below : l.units < budget = going running in
    let later = run_short program budget next rest (answered_sound program budget l answer sound) run.1 (omega (arith, count, below)) (λ none. rw count (answered_below program budget l answer sound none below)) in
    let more = (places_bytes program budget l answer running sound).few in
    let all : map piece_span (piece_at (placed program l answer) l.gathered ++ claims_by program budget next rest) ≡ map piece_span (piece_at (placed program l answer) l.gathered) ++ map piece_span (claims_by program budget next rest) =
    map-append piece_span (piece_at (placed program l answer) l.gathered) (claims_by program budget next rest) in
    record {
      few = rw all (omega (arith, total_append (map piece_span (piece_at (placed program l answer) l.gathered)) (map piece_span (claims_by program budget next rest)), piece_total (placed program l answer) l.gathered, more, later.few));
      spent = omega (arith, later.spent, count);
    }

pub opening_sound : (program : Program) (core : ℕ) → IsSound (opening_local program core)
unfolding opening_local
opening_sound program core = record { phase = tt }

pub claims_short : (program : Program) (budget core : ℕ) (answers : List Answer) → 1 ≤ budget → IsLocalRun program budget (opening_local program core) answers
    → total (map piece_span (claims_by program budget (opening_local program core) answers)) ≤ 4 * budget
unfolding opening_local
claims_short program budget core answers some run =
    let short = run_short program budget (opening_local program core) answers (opening_sound program core) run (omega arith) (λ none. omega (arith, some)) in
    omega (arith, short.few, short.spent)
