-- A run gives a history of each word, over which each core goes along its own log.
use Rattle.std.proofs.Common.{◌≡◌, ◌≢◌, ◌⊎◌, ℕ, suc, ◌<◌, ◌≤◌, ◌==◌, Bool, true, false, if◌then◌else◌, eqb, Option, Some, None, IfSome, List, [], ◌∷◌, ◌++◌, length, ◌+◌, length-append, refl, sym, ap, ◌∙◌, subst, inl, inr, arith, eq-eqb}
use Rattle.std.proofs.lemmas.Bool.{cases_eq}
use Rattle.std.proofs.lemmas.Bool.Decides.{eqb_tells}
use Rattle.order_core.specs.declared.entry.Access.{Access}
use Rattle.order_core.specs.declared.entry.Entry.{Entry}
use Rattle.order_core.specs.SetAt.{set_at}
use Rattle.order_core.specs.Marked.{Marked, part_of, number_at, numbers_of}
use Rattle.order_core.specs.LegalMerge.{CountUpFrom}
use Rattle.order_core.proofs.MarkedLemmas.{part_of_same, part_of_other, number_at_some, number_at_apart}
use Rattle.machine.specs.Setups.{Setup, core_count}
use Rattle.machine.specs.States.{Core, Word, State}
use Rattle.machine.specs.Steps.{Accessed, core_given, found_in, touched, left, step}
use Rattle.machine.specs.Runs.{run, IsPlayableFrom, access_to, entry_at, entries_from}
use Rattle.machine.proofs.SetAt.{set_at_here, set_at_there}
use Rattle.machine.proofs.ByAsk.{left_count, step_quiet, step_took}
use Rattle.machine.proofs.CoreSteps.{finding_by, step_here, step_there}
use Rattle.machine.proofs.Histories.{History, found_at, core_next, IsInHistory, word_in, MakesEntry, IsCoreRun}

-- ---- the words of a run

-- a step leaves a word as it was, or with one more access
record IsTouched (s : Setup) (t : State) (c n : ℕ) : Type 0 where
  asks : touched s (t.cores c) ≡ Some n
  word : (step s t c).words n ≡ left s (t.cores c) (t.words n)

word_cases : (s : Setup) (t : State) (c n : ℕ) → ((step s t c).words n ≡ t.words n) ⊎ IsTouched s t c n
word_cases s t c n = by_touch (touched s (t.cores c)) refl
  where
    by_touch : (word : Option ℕ) → touched s (t.cores c) ≡ word → ((step s t c).words n ≡ t.words n) ⊎ IsTouched s t c n
    by_touch None e = inl (ap (λ (u : State). u.words n) (step_quiet s t c e))
    by_touch (Some m) e = by_word (cases_eq n m)
      where
        words : (step s t c).words ≡ set_at t.words m (left s (t.cores c) (t.words m))
        words = ap (λ (u : State). u.words) (step_took s t c m e)

        by_word : (n ≡ m) ⊎ (n ≢ m) → ((step s t c).words n ≡ t.words n) ⊎ IsTouched s t c n
        by_word (inl same) = inr (subst (λ (k : ℕ). IsTouched s t c k) (sym same) (record {
          asks = e;
          word = ap (λ (w : ℕ → Word). w m) words ∙ set_at_here t.words m (left s (t.cores c) (t.words m));
        }))
        by_word (inr apart) = inl (ap (λ (w : ℕ → Word). w n) words ∙ set_at_there t.words m (left s (t.cores c) (t.words m)) n apart)

touched_count : (s : Setup) (t : State) (c n : ℕ) → IsTouched s t c n → ((step s t c).words n).count ≡ suc (t.words n).count
touched_count s t c n h = omega (arith, ap (λ (w : Word). w.count) h.word, left_count s (t.cores c) (t.words n))

-- counts only grow
pub count_step : (s : Setup) (t : State) (c n : ℕ) → (t.words n).count ≤ ((step s t c).words n).count
count_step s t c n = by_word (word_cases s t c n)
  where
    by_word : ((step s t c).words n ≡ t.words n) ⊎ IsTouched s t c n → (t.words n).count ≤ ((step s t c).words n).count
    by_word (inl same) = omega (arith, ap (λ (w : Word). w.count) same)
    by_word (inr h) = omega (arith, touched_count s t c n h)

pub count_run : (s : Setup) (t : State) (order : List ℕ) (n : ℕ) → (t.words n).count ≤ ((run s t order).words n).count
unfolding run
count_run s t [] n = omega arith
count_run s t (c ∷ order) n = omega (arith, count_step s t c n, count_run s (step s t c) order n)

-- a word with no more accesses is the same
same_count : (s : Setup) (t : State) (c n : ℕ) → ((step s t c).words n).count ≤ (t.words n).count → (step s t c).words n ≡ t.words n
same_count s t c n few = by_word (word_cases s t c n)
  where
    by_word : ((step s t c).words n ≡ t.words n) ⊎ IsTouched s t c n → (step s t c).words n ≡ t.words n
    by_word (inl same) = same
    by_word (inr h) = absurd (omega (arith, few, touched_count s t c n h))

-- ---- the history of a run

unfoldable pub history_of_run : Setup → State → List ℕ → History
history_of_run s t [] n k = t.words n
history_of_run s t (c ∷ order) n k = if (t.words n).count == k then t.words n else history_of_run s (step s t c) order n k

pub history_now : (s : Setup) (t : State) (order : List ℕ) (n : ℕ) → history_of_run s t order n (t.words n).count ≡ t.words n
unfolding history_of_run
history_now s t [] n = refl
history_now s t (c ∷ order) n = rw (eq-eqb (t.words n).count (t.words n).count refl) refl

history_later : (s : Setup) (t : State) (c : ℕ) (order : List ℕ) (n k : ℕ) → ((step s t c).words n).count ≤ k
    → history_of_run s t (c ∷ order) n k ≡ history_of_run s (step s t c) order n k
unfolding history_of_run
history_later s t c order n k within = by_count (eqb_tells (t.words n).count k)
  where
    by_count : ((eqb (t.words n).count k ≡ true) × ((t.words n).count ≡ k)) ⊎ ((eqb (t.words n).count k ≡ false) × ((t.words n).count ≢ k))
        → (if (t.words n).count == k then t.words n else history_of_run s (step s t c) order n k) ≡ history_of_run s (step s t c) order n k
    by_count (inl now) =
        let same : (step s t c).words n ≡ t.words n = same_count s t c n (omega (arith, within, now.1)) in
        let counts : ((step s t c).words n).count ≡ k = ap (λ (w : Word). w.count) same ∙ now.1 in
        rw now.0 (sym same ∙ sym (history_now s (step s t c) order n) ∙ ap (history_of_run s (step s t c) order n) counts)
    by_count (inr apart) = rw apart.0 refl

-- no entry of it has more accesses than the end
pub history_count : (s : Setup) (t : State) (order : List ℕ) (n k : ℕ) → (history_of_run s t order n k).count ≤ ((run s t order).words n).count
unfolding history_of_run run
history_count s t [] n k = omega arith
history_count s t (c ∷ order) n k = by_count ((t.words n).count == k) (count_run s t (c ∷ order) n) (history_count s (step s t c) order n k)
  where
    by_count : (b : Bool) → (t.words n).count ≤ ((run s (step s t c) order).words n).count
        → (history_of_run s (step s t c) order n k).count ≤ ((run s (step s t c) order).words n).count
        → (if b then t.words n else history_of_run s (step s t c) order n k).count ≤ ((run s (step s t c) order).words n).count
    by_count true now later = now
    by_count false now later = later

-- and the last is the end
pub history_last : (s : Setup) (t : State) (order : List ℕ) (n : ℕ) → history_of_run s t order n ((run s t order).words n).count ≡ (run s t order).words n
unfolding run
history_last s t [] n = history_now s t [] n
history_last s t (c ∷ order) n =
    history_later s t c order n ((run s (step s t c) order).words n).count (count_run s (step s t c) order n) ∙ history_last s (step s t c) order n

-- ---- a history that a run follows

unfoldable pub Follows : Setup → History → State → List ℕ → Type 0
Follows s history t [] = (n : ℕ) → history n (t.words n).count ≡ t.words n
Follows s history t (c ∷ order) = ((n : ℕ) → history n (t.words n).count ≡ t.words n) × Follows s history (step s t c) order

follows_now : (s : Setup) (history : History) (t : State) (order : List ℕ) → Follows s history t order → (n : ℕ) → history n (t.words n).count ≡ t.words n
unfolding Follows
follows_now s history t [] h = h
follows_now s history t (c ∷ order) h = h.0

follows_from : (s : Setup) (history : History) (t : State) (order : List ℕ) → ((n k : ℕ) → (t.words n).count ≤ k → history n k ≡ history_of_run s t order n k)
    → Follows s history t order
unfolding Follows
follows_from s history t [] same = λ n. same n (t.words n).count (omega arith) ∙ history_now s t [] n
follows_from s history t (c ∷ order) same = (
  λ n. same n (t.words n).count (omega arith) ∙ history_now s t (c ∷ order) n,
  follows_from s history (step s t c) order (λ n k within. same n k (omega (arith, within, count_step s t c n)) ∙ history_later s t c order n k within),
)

pub follows_history : (s : Setup) (t : State) (order : List ℕ) → Follows s (history_of_run s t order) t order
follows_history s t order = follows_from s (history_of_run s t order) t order (λ n k within. refl)

-- ---- each core along its log

-- the words of a run are exactly those of its history
abbrev pub Exact : Word → Word → Type 0
Exact word other = word ≡ other

-- what a unit finds in the state is what it finds in the history
found_same : (s : Setup) (history : History) (t : State) (word : Option ℕ) → ((n : ℕ) → history n (t.words n).count ≡ t.words n)
    → found_at s history (access_to t.words word) ≡ finding_by s t word
found_same s history t None now = refl
found_same s history t (Some n) now = ap (λ (w : Word). Accessed (found_in s w) w.tag) (now n)

next_is : (s : Setup) (history : History) (t : State) (c : ℕ) → ((n : ℕ) → history n (t.words n).count ≡ t.words n)
    → core_next s history (t.cores c) (entry_at s t c) ≡ (step s t c).cores c
unfolding entry_at
next_is s history t c now = ap (core_given s (t.cores c)) (found_same s history t (touched s (t.cores c)) now) ∙ sym (step_here s t c)

entry_word : (words : ℕ → Word) (word : Option ℕ) → word ≡ word_in (access_to words word)
entry_word words None = refl
entry_word words (Some n) = refl

in_history : (s : Setup) (history : History) (t : State) (c : ℕ) (word : Option ℕ) → touched s (t.cores c) ≡ word
    → ((n : ℕ) → history n (t.words n).count ≡ t.words n)
    → ((n : ℕ) → history n ((step s t c).words n).count ≡ (step s t c).words n) → IfSome (access_to t.words word) (IsInHistory s Exact history (t.cores c))
in_history s history t c None e now next = tt
in_history s history t c (Some n) e now next =
    let words : (step s t c).words n ≡ left s (t.cores c) (t.words n) =
    ap (λ (u : State). u.words n) (step_took s t c n e) ∙ set_at_here t.words n (left s (t.cores c) (t.words n)) in
    let more : ((step s t c).words n).count ≡ suc (t.words n).count = omega (arith, ap (λ (w : Word). w.count) words, left_count s (t.cores c) (t.words n)) in
    record {
      count = ap (λ (w : Word). w.count) (now n);
      payload = ap (λ (w : Word). w.payload) (now n);
      after = λ word same. ap (left s (t.cores c)) (same ∙ now n) ∙ sym words ∙ sym (next n) ∙ ap (history n) more;
    }

makes_entry : (s : Setup) (history : History) (t : State) (c : ℕ) → c < core_count s → (t.cores c).local.ending ≡ None
    → ((n : ℕ) → history n (t.words n).count ≡ t.words n)
    → ((n : ℕ) → history n ((step s t c).words n).count ≡ (step s t c).words n) → MakesEntry s Exact history c (t.cores c) (entry_at s t c)
unfolding entry_at
makes_entry s history t c below running now next = record {
  within = below;
  running = running;
  touches = entry_word t.words (touched s (t.cores c));
  found = in_history s history t c (touched s (t.cores c)) refl now next;
}

run_more : (s : Setup) (history : History) (c : ℕ) (core : Core) (entry : Entry) (entries : List Entry) → MakesEntry s Exact history c core entry
    → IsCoreRun s Exact history c (core_next s history core entry) entries → IsCoreRun s Exact history c core (entry ∷ entries)
unfolding IsCoreRun
run_more s history c core entry entries makes rest = (makes, rest)

run_none : (s : Setup) (history : History) (c : ℕ) (core : Core) → IsCoreRun s Exact history c core []
unfolding IsCoreRun
run_none s history c core = tt

pub decompose : (s : Setup) (history : History) (t : State) (order : List ℕ) → Follows s history t order → IsPlayableFrom s t order → (c : ℕ)
    → IsCoreRun s Exact history c (t.cores c) (part_of c (entries_from s t order))
unfolding Follows IsPlayableFrom entries_from
decompose s history t [] follows playable c = run_none s history c (t.cores c)
decompose s history t (d ∷ order) follows playable c = by_core (cases_eq d c) (decompose s history (step s t d) order follows.1 playable.2 c)
  where
    rest : List Marked
    rest = entries_from s (step s t d) order

    by_core : (d ≡ c) ⊎ (d ≢ c) → IsCoreRun s Exact history c ((step s t d).cores c) (part_of c rest)
        → IsCoreRun s Exact history c (t.cores c) (part_of c ((d, entry_at s t d) ∷ rest))
    by_core (inl same) h =
        let makes : MakesEntry s Exact history d (t.cores d) (entry_at s t d) =
        makes_entry s history t d playable.0 playable.1 follows.0 (follows_now s history (step s t d) order follows.1) in
        let going : IsCoreRun s Exact history d (core_next s history (t.cores d) (entry_at s t d)) (part_of d rest) =
        subst (λ (core : Core). IsCoreRun s Exact history d core (part_of d rest)) (sym (next_is s history t d follows.0))
        (subst (λ (k : ℕ). IsCoreRun s Exact history k ((step s t d).cores k) (part_of k rest)) (sym same) h) in
        subst (λ (k : ℕ). IsCoreRun s Exact history k (t.cores k) (part_of k ((d, entry_at s t d) ∷ rest))) same
        (subst (IsCoreRun s Exact history d (t.cores d)) (sym (part_of_same d (d, entry_at s t d) rest refl)) (run_more s history d (t.cores d) (entry_at s t d) (part_of d rest) makes going))
    by_core (inr apart) h =
        subst (IsCoreRun s Exact history c (t.cores c)) (sym (part_of_other c (d, entry_at s t d) rest apart))
        (subst (λ (core : Core). IsCoreRun s Exact history c core (part_of c rest)) (step_there s t d c (λ e. apart (sym e))) h)

-- ---- the numbers of a run

-- the numbers of each word count up from what it had at the start
numbers_more : (s : Setup) (t : State) (c n : ℕ) (word : Option ℕ) (rest : List ℕ) → touched s (t.cores c) ≡ word
    → CountUpFrom ((step s t c).words n).count rest → CountUpFrom (t.words n).count (number_at n (access_to t.words word) ++ rest)
numbers_more s t c n None rest e h = subst (λ (w : Word). CountUpFrom w.count rest) (ap (λ (u : State). u.words n) (step_quiet s t c e)) h
numbers_more s t c n (Some m) rest e h = by_word (cases_eq n m)
  where
    access : Access
    access = record { word = m; number = (t.words m).count; found = (t.words m).payload }

    words : (step s t c).words ≡ set_at t.words m (left s (t.cores c) (t.words m))
    words = ap (λ (u : State). u.words) (step_took s t c m e)

    by_word : (n ≡ m) ⊎ (n ≢ m) → CountUpFrom (t.words n).count (number_at n (Some access) ++ rest)
    by_word (inl same) =
        let now : (step s t c).words m ≡ left s (t.cores c) (t.words m) =
        ap (λ (w : ℕ → Word). w m) words ∙ set_at_here t.words m (left s (t.cores c) (t.words m)) in
        let more : ((step s t c).words m).count ≡ suc (t.words m).count = omega (arith, ap (λ (w : Word). w.count) now, left_count s (t.cores c) (t.words m)) in
        let here : CountUpFrom ((step s t c).words m).count rest = subst (λ (k : ℕ). CountUpFrom ((step s t c).words k).count rest) same h in
        subst (λ (k : ℕ). CountUpFrom (t.words k).count (number_at k (Some access) ++ rest)) (sym same)
        (subst (λ (xs : List ℕ). CountUpFrom (t.words m).count (xs ++ rest)) (sym (number_at_some m access refl)) (refl, subst (λ (k : ℕ). CountUpFrom k rest) more here))
    by_word (inr apart) =
        let now : (step s t c).words n ≡ t.words n = ap (λ (w : ℕ → Word). w n) words ∙ set_at_there t.words m (left s (t.cores c) (t.words m)) n apart in
        subst (λ (xs : List ℕ). CountUpFrom (t.words n).count (xs ++ rest)) (sym (number_at_apart n access (λ k. apart (sym k)))) (subst (λ (w : Word). CountUpFrom w.count rest) now h)

numbers_first : (s : Setup) (t : State) (c n : ℕ) (rest : List ℕ) → CountUpFrom ((step s t c).words n).count rest
    → CountUpFrom (t.words n).count (number_at n (entry_at s t c).touch ++ rest)
unfolding entry_at
numbers_first s t c n rest h = numbers_more s t c n (touched s (t.cores c)) rest refl h

pub numbers_along : (s : Setup) (t : State) (order : List ℕ) (n : ℕ) → CountUpFrom (t.words n).count (numbers_of n (entries_from s t order))
unfolding entries_from
numbers_along s t [] n = tt
numbers_along s t (c ∷ order) n = numbers_first s t c n (numbers_of n (entries_from s (step s t c) order)) (numbers_along s (step s t c) order n)

-- a word has one access more for each of its numbers
count_more : (s : Setup) (t : State) (c n : ℕ) (word : Option ℕ) → touched s (t.cores c) ≡ word
    → ((step s t c).words n).count ≡ (t.words n).count + length (number_at n (access_to t.words word))
count_more s t c n None e = omega (arith, ap (λ (u : State). (u.words n).count) (step_quiet s t c e))
count_more s t c n (Some m) e = by_word (cases_eq n m)
  where
    access : Access
    access = record { word = m; number = (t.words m).count; found = (t.words m).payload }

    words : (step s t c).words ≡ set_at t.words m (left s (t.cores c) (t.words m))
    words = ap (λ (u : State). u.words) (step_took s t c m e)

    by_word : (n ≡ m) ⊎ (n ≢ m) → ((step s t c).words n).count ≡ (t.words n).count + length (number_at n (Some access))
    by_word (inl same) =
        let now : (step s t c).words m ≡ left s (t.cores c) (t.words m) =
        ap (λ (w : ℕ → Word). w m) words ∙ set_at_here t.words m (left s (t.cores c) (t.words m)) in
        let one : length (number_at m (Some access)) ≡ 1 = ap length (number_at_some m access refl) in
        subst (λ (k : ℕ). ((step s t c).words k).count ≡ (t.words k).count + length (number_at k (Some access))) (sym same)
        (omega (arith, ap (λ (w : Word). w.count) now, left_count s (t.cores c) (t.words m), one))
    by_word (inr apart) =
        let now : (step s t c).words n ≡ t.words n = ap (λ (w : ℕ → Word). w n) words ∙ set_at_there t.words m (left s (t.cores c) (t.words m)) n apart in
        let none : length (number_at n (Some access)) ≡ 0 = ap length (number_at_apart n access (λ k. apart (sym k))) in
        omega (arith, ap (λ (w : Word). w.count) now, none)

count_first : (s : Setup) (t : State) (c n : ℕ) → ((step s t c).words n).count ≡ (t.words n).count + length (number_at n (entry_at s t c).touch)
unfolding entry_at
count_first s t c n = count_more s t c n (touched s (t.cores c)) refl

pub count_along : (s : Setup) (t : State) (order : List ℕ) (n : ℕ)
    → ((run s t order).words n).count ≡ (t.words n).count + length (numbers_of n (entries_from s t order))
unfolding run entries_from
count_along s t [] n = omega arith
count_along s t (c ∷ order) n =
    let all : length (number_at n (entry_at s t c).touch ++ numbers_of n (entries_from s (step s t c) order)) ≡ length (number_at n (entry_at s t c).touch) + length (numbers_of n (entries_from s (step s t c) order)) =
    length-append (number_at n (entry_at s t c).touch) (numbers_of n (entries_from s (step s t c) order)) in
    omega (arith, all, count_first s t c n, count_along s (step s t c) order n)
