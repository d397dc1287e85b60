-- A history of the words' payloads is a legal merge of the logs of the cores that made it.
use Rattle.std.proofs.Common.{◌≡◌, ◌≢◌, ◌⊎◌, ℕ, zero, suc, ◌+◌, ◌<◌, ◌≤◌, Bool, cond, List, [], ◌∷◌, ◌++◌, length, map, Some, refl, sym, ap, subst, ◌∙◌, inl, inr, arith, eq-eqb, ne_eqb, add-one, option_to_list}
use Rattle.std.specs.Prelude.{All}
use Rattle.std.specs.List.{range_with_len}
use Rattle.std.proofs.lemmas.Bool.{cases_eq}
use Rattle.std.proofs.lemmas.List.FromFn.{length-range_with_len}
use Rattle.std.proofs.lemmas.List.Elements.{All-nil, All-cons, All-head, All-tail}
use Rattle.ticket_table.specs.declared.change.Terms.{Terms}
use Rattle.ticket_table.specs.declared.change.Change.{Change}
use Rattle.ticket_table.specs.History.{Basis, IsHistory, of_word, of_caller, count_at, made}
use Rattle.ticket_table.proofs.Histories.{numbers_in_order}
use Rattle.syscall_drain.specs.Programs.{Program}
use Rattle.syscall_drain.specs.Locals.{Local}
use Rattle.syscall_drain.specs.Units.{next_ask, answered}
use Rattle.syscall_drain.specs.declared.ask.CoreAsk.{CoreAsk}
use Rattle.syscall_drain.specs.declared.ask.CoreAsk.TheVariants.{Quiet as AsksNothing, Touch as Touches, Meet as Meets, Ended}
use Rattle.syscall_drain.specs.declared.ask.Answer.{Answer}
use Rattle.syscall_drain.specs.declared.ask.Answer.TheVariants.{Nothing, Taken as Took, Reply as Replied}
use Rattle.order_core.specs.declared.entry.Access.{Access}
use Rattle.order_core.specs.declared.entry.Entry.{Entry}
use Rattle.order_core.specs.Logs.{log_of, TouchesBelow}
use Rattle.order_core.specs.Marked.{part_of, numbers_by, numbers_of}
use Rattle.order_core.specs.LegalMerge.{CountUpFrom}
use Rattle.order_core.specs.History.{CoreAccess, touches_of, FitsLogs, ExtendsToMerge}
use Rattle.order_core.proofs.HistoryLaws.{history_merges, numbers_in_history_of}
use Rattle.actor_lists.specs.Walked.{access_by, draw_by, draws_by, log_by, walked}
use Rattle.live_run.proofs.WordValues.{front_all, back_all}

-- the access of a change, and with the core that made it
abbrev pub access_in : Change → Access
access_in e = record { word = e.word; number = e.number; found = e.old }

abbrev pub core_access : Change → CoreAccess
core_access e = (e.caller, access_in e)

-- ---- one core's part

pub caller_same : (caller : ℕ) (e : Change) (changes : List Change) → e.caller ≡ caller → of_caller caller (e ∷ changes) ≡ e ∷ of_caller caller changes
caller_same caller e changes same = ap (λ (b : Bool). cond b (e ∷ of_caller caller changes) (of_caller caller changes)) (eq-eqb e.caller caller same)

pub caller_other : (caller : ℕ) (e : Change) (changes : List Change) → e.caller ≢ caller → of_caller caller (e ∷ changes) ≡ of_caller caller changes
caller_other caller e changes other = ap (λ (b : Bool). cond b (e ∷ of_caller caller changes) (of_caller caller changes)) (ne_eqb e.caller caller other)

part_is : (core : ℕ) (changes : List Change) → part_of core (map core_access changes) ≡ map access_in (of_caller core changes)
part_is core [] = refl
part_is core (e ∷ changes) = by_caller (cases_eq e.caller core) (part_is core changes)
  where
    by_caller : (e.caller ≡ core) ⊎ (e.caller ≢ core) → part_of core (map core_access changes) ≡ map access_in (of_caller core changes)
        → part_of core (map core_access (e ∷ changes)) ≡ map access_in (of_caller core (e ∷ changes))
    by_caller (inl same) rest =
        ap (λ (b : Bool). cond b (access_in e ∷ part_of core (map core_access changes)) (part_of core (map core_access changes))) (eq-eqb e.caller core same)
        ∙ ap (λ (xs : List Access). access_in e ∷ xs) rest
        ∙ ap (map access_in) (sym (caller_same core e changes same))
    by_caller (inr other) rest =
        ap (λ (b : Bool). cond b (access_in e ∷ part_of core (map core_access changes)) (part_of core (map core_access changes))) (ne_eqb e.caller core other)
        ∙ rest
        ∙ ap (map access_in) (sym (caller_other core e changes other))

-- a caller that made no change
pub caller_past : (count caller : ℕ) (changes : List Change) → All (λ e. e.caller < count) changes → count ≤ caller → of_caller caller changes ≡ []
caller_past count caller [] all past = refl
caller_past count caller (e ∷ changes) all past =
    let here : e.caller < count = All-head (λ (x : Change). x.caller < count) e changes all in
    caller_other caller e changes (λ same. omega arith)
    ∙ caller_past count caller changes (All-tail (λ (x : Change). x.caller < count) e changes all) past

-- one unit's change is its access
unit_touch : (terms : Terms) (caller : ℕ) (ask : CoreAsk) (answer : Answer) (changes : List Change) (accesses : List Access) → map access_in changes ≡ accesses
    → map access_in (draw_by terms caller ask answer ++ changes) ≡ option_to_list (access_by ask answer) ++ accesses
unit_touch terms caller AsksNothing answer changes accesses rest = rest
unit_touch terms caller (Touches word op) Nothing changes accesses rest = rest
unit_touch terms caller (Touches word op) (Took t) changes accesses rest = ap (λ (xs : List Access). record { word = word; number = t.number; found = t.old } ∷ xs) rest
unit_touch terms caller (Touches word op) (Replied reply) changes accesses rest = rest
unit_touch terms caller (Meets item) answer changes accesses rest = rest
unit_touch terms caller Ended answer changes accesses rest = rest

-- the changes that a core draws are the accesses of its log
pub draws_are : (terms : Terms) (caller : ℕ) (program : Program) (budget : ℕ) (l : Local) (answers : List Answer)
    → map access_in (draws_by terms caller program budget l answers) ≡ touches_of (log_by program budget l answers)
unfolding walked
draws_are terms caller program budget l [] = refl
draws_are terms caller program budget l (answer ∷ answers) =
    unit_touch terms caller (next_ask program l) answer (draws_by terms caller program budget (answered program budget l answer) answers)
    (touches_of (log_by program budget (answered program budget l answer) answers)) (draws_are terms caller program budget (answered program budget l answer) answers)

-- an access is to the word of its change
unit_below : (words : ℕ) (terms : Terms) (caller : ℕ) (ask : CoreAsk) (answer : Answer) → All (λ e. e.word < words) (draw_by terms caller ask answer) → TouchesBelow words (record { touch = access_by ask answer })
unit_below words terms caller (Touches word op) (Took t) all = All-head (λ (e : Change). e.word < words) (made terms caller word t.number op t.old) [] all
unit_below words terms caller AsksNothing answer all = tt
unit_below words terms caller (Touches word op) Nothing all = tt
unit_below words terms caller (Touches word op) (Replied reply) all = tt
unit_below words terms caller (Meets item) answer all = tt
unit_below words terms caller Ended answer all = tt

pub log_below : (words : ℕ) (terms : Terms) (caller : ℕ) (program : Program) (budget : ℕ) (l : Local) (answers : List Answer)
    → All (λ e. e.word < words) (draws_by terms caller program budget l answers) → All (TouchesBelow words) (log_by program budget l answers)
unfolding walked
log_below words terms caller program budget l [] all = All-nil (TouchesBelow words)
log_below words terms caller program budget l (answer ∷ answers) all =
    let next : Local = answered program budget l answer in
    let here : List Change = draw_by terms caller (next_ask program l) answer in
    let later : List Change = draws_by terms caller program budget next answers in
    All-cons (TouchesBelow words) (record { touch = access_by (next_ask program l) answer }) (log_by program budget next answers)
    (unit_below words terms caller (next_ask program l) answer (front_all (λ (e : Change). e.word < words) here later all))
    (log_below words terms caller program budget next answers (back_all (λ (e : Change). e.word < words) here later all))

-- ---- one word's numbers

counts_up : (first count : ℕ) → CountUpFrom first (range_with_len first count)
counts_up first zero = tt
counts_up first (suc count) = (refl, subst (λ (n : ℕ). CountUpFrom n (range_with_len (first + 1) count)) (add-one first) (counts_up (first + 1) count))

numbers_are : (word : ℕ) (changes : List Change) → numbers_by Some word (map core_access changes) ≡ map (λ e. e.number) (of_word word changes)
numbers_are word [] = refl
numbers_are word (e ∷ changes) = by_word (cases_eq e.word word) (numbers_are word changes)
  where
    by_word : (e.word ≡ word) ⊎ (e.word ≢ word) → numbers_by Some word (map core_access changes) ≡ map (λ x. x.number) (of_word word changes)
        → numbers_by Some word (map core_access (e ∷ changes)) ≡ map (λ x. x.number) (of_word word (e ∷ changes))
    by_word (inl same) rest =
        ap (λ (b : Bool). cond b (e.number ∷ []) [] ++ numbers_by Some word (map core_access changes)) (eq-eqb e.word word same)
        ∙ ap (λ (ns : List ℕ). e.number ∷ ns) rest
        ∙ ap (λ (b : Bool). map (λ (x : Change). x.number) (cond b (e ∷ of_word word changes) (of_word word changes))) (sym (eq-eqb e.word word same))
    by_word (inr other) rest =
        ap (λ (b : Bool). cond b (e.number ∷ []) [] ++ numbers_by Some word (map core_access changes)) (ne_eqb e.word word other)
        ∙ rest
        ∙ ap (λ (b : Bool). map (λ (x : Change). x.number) (cond b (e ∷ of_word word changes) (of_word word changes))) (sym (ne_eqb e.word word other))

pub number_count : (basis : Basis) (history : List Change) → IsHistory basis history → (word : ℕ) → length (numbers_by Some word (map core_access history)) ≡ count_at word history
number_count basis history all word = ap length (numbers_are word history ∙ numbers_in_order basis history all word) ∙ length-range_with_len 0 (count_at word history)

-- ---- all cores

-- the accesses of a history fit logs whose accesses are each core's changes
pub history_fits : (basis : Basis) (history : List Change) (logs : List (List Entry)) → IsHistory basis history
    → ((core : ℕ) → map access_in (of_caller core history) ≡ touches_of (log_of logs core)) → FitsLogs logs (map core_access history)
history_fits basis history logs all touches = record {
  parts = λ core. part_is core history ∙ touches core;
  numbers = λ word. subst (CountUpFrom 0) (sym (numbers_are word history ∙ numbers_in_order basis history all word)) (counts_up 0 (count_at word history));
}

pub merged : (basis : Basis) (history : List Change) (logs : List (List Entry)) → IsHistory basis history
    → ((core : ℕ) → map access_in (of_caller core history) ≡ touches_of (log_of logs core)) → ExtendsToMerge logs (map core_access history)
merged basis history logs all touches = history_merges logs (map core_access history) (history_fits basis history logs all touches)

-- the merge has as many accesses of a word as the history has changes of it
pub merged_count : (basis : Basis) (history : List Change) (logs : List (List Entry)) → IsHistory basis history → (merge : ExtendsToMerge logs (map core_access history)) → (word : ℕ)
    → length (numbers_of word merge.marked) ≡ count_at word history
merged_count basis history logs all merge word =
    ap length (sym (numbers_in_history_of word merge.marked) ∙ ap (numbers_by Some word) merge.accesses) ∙ number_count basis history all word
