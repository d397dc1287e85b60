-- Each legal merge of the logs of a run is the same run.
use Rattle.std.proofs.Common.{◌≡◌, ◌⊎◌, ℕ, ◌<◌, ◌≤◌, IsSome, List, [], ◌∷◌, map, refl, sym, ap, ap₂, ◌∙◌, subst, inl, inr, arith, le_antisymm}
use Rattle.std.specs.List.{range_with_len}
use Rattle.std.proofs.lemmas.Bool.{cases_lt}
use Rattle.std.proofs.lemmas.List.{get_or_past}
use Rattle.std.proofs.lemmas.List.FromFn.{get_or-map-range_with_len, length-map-range_with_len}
use mathlib.Core.Path.{fun_ext}
use Rattle.order_core.specs.declared.entry.Entry.{Entry}
use Rattle.order_core.specs.Logs.{log_of}
use Rattle.order_core.specs.Marked.{Marked, marks_of, part_of, numbers_of}
use Rattle.order_core.specs.LegalMerge.{CountUpFrom, IsLegalMerge, IsLegalOrder}
use Rattle.order_core.specs.CanonicalMerge.{canonical}
use Rattle.order_core.proofs.MarkedLemmas.{part_of_other}
use Rattle.order_core.proofs.CanonicalLaws.{canonical_legal}
use Rattle.machine.specs.Setups.{Setup, core_count}
use Rattle.machine.specs.States.{Core, Word, State, opening}
use Rattle.machine.specs.Steps.{step}
use Rattle.machine.specs.Runs.{run, along, IsPlayableFrom, IsPlayable, entry_at, entries_from, entries, log_along, logs_along}
use Rattle.machine.specs.TraceLaws.{IsSameRun}
use Rattle.machine.proofs.Histories.{History, core_after, IsAlike, StandsIn, IsComposed}
use Rattle.machine.proofs.Composing.{compose}
use Rattle.machine.proofs.Decomposing.{Exact, history_of_run, history_now, history_count, history_last, follows_history, decompose, numbers_along}

-- ---- from a state

pub marks_are : (s : Setup) (t : State) (order : List ℕ) → marks_of (entries_from s t order) ≡ order
unfolding entries_from
marks_are s t [] = refl
marks_are s t (c ∷ order) = ap (λ (cores : List ℕ). c ∷ cores) (marks_are s (step s t c) order)

alike : (word other : Word) → Exact word other → IsAlike word other
alike word other same = record { count = ap (λ (w : Word). w.count) same; payload = ap (λ (w : Word). w.payload) same; tag = ap (λ (w : Word). w.tag) same }

stands_at : (s : Setup) (t : State) (order : List ℕ) → StandsIn Exact (history_of_run s t order) t
stands_at s t order n = sym (history_now s t order n)

-- numbered entries with the parts of a run compose over its history
retold : (s : Setup) (t : State) (order : List ℕ) (marked : List Marked) → IsPlayableFrom s t order
    → ((c : ℕ) → part_of c marked ≡ part_of c (entries_from s t order))
    → ((n : ℕ) → CountUpFrom (t.words n).count (numbers_of n marked)) → IsComposed s Exact (history_of_run s t order) t marked
retold s t order marked playable parts numbers =
    compose s Exact alike (history_of_run s t order) marked t (stands_at s t order) numbers
    (λ c. rw (parts c) (decompose s (history_of_run s t order) t order (follows_history s t order) playable c))

-- they come to the same cores, and to no more accesses of a word
record IsRetold (s : Setup) (t : State) (order : List ℕ) (marked : List Marked) : Type 0 where
  playable : IsPlayableFrom s t (marks_of marked)
  entries : entries_from s t (marks_of marked) ≡ marked
  cores : (c : ℕ) → (run s t (marks_of marked)).cores c ≡ (run s t order).cores c
  words : (n : ℕ) → (run s t (marks_of marked)).words n ≡ history_of_run s t order n ((run s t (marks_of marked)).words n).count
  counts : (n : ℕ) → ((run s t (marks_of marked)).words n).count ≤ ((run s t order).words n).count

is_retold : (s : Setup) (t : State) (order : List ℕ) (marked : List Marked) → IsPlayableFrom s t order
    → ((c : ℕ) → part_of c marked ≡ part_of c (entries_from s t order))
    → ((n : ℕ) → CountUpFrom (t.words n).count (numbers_of n marked)) → IsRetold s t order marked
is_retold s t order marked playable parts numbers =
    let history : History = history_of_run s t order in
    let other : IsComposed s Exact history t marked = retold s t order marked playable parts numbers in
    let own : IsComposed s Exact history t (entries_from s t order) = retold s t order (entries_from s t order) playable (λ c. refl) (numbers_along s t order) in
    record {
      playable = other.playable;
      entries = other.entries;
      cores = λ c.
          other.cores c ∙ ap (core_after s history (t.cores c)) (parts c) ∙ sym (own.cores c) ∙ ap (λ (o : List ℕ). (run s t o).cores c) (marks_are s t order);
      words = other.stands;
      counts = λ n.
          let same : ((run s t (marks_of marked)).words n).count ≡ (history n ((run s t (marks_of marked)).words n).count).count =
          ap (λ (w : Word). w.count) (other.stands n) in
          omega (arith, same, history_count s t order n ((run s t (marks_of marked)).words n).count);
    }

-- told back, the counts are the same, and so are the words
words_same : (s : Setup) (t : State) (order : List ℕ) (marked : List Marked) → ((c : ℕ) → part_of c marked ≡ part_of c (entries_from s t order))
    → IsRetold s t order marked
    → (n : ℕ) → (run s t (marks_of marked)).words n ≡ (run s t order).words n
words_same s t order marked parts h n =
    let back : IsRetold s t (marks_of marked) (entries_from s t order) =
    is_retold s t (marks_of marked) (entries_from s t order) h.playable (λ c. sym (parts c) ∙ ap (part_of c) (sym h.entries)) (numbers_along s t order) in
    let most : ((run s t order).words n).count ≤ ((run s t (marks_of marked)).words n).count =
    subst (λ (o : List ℕ). ((run s t o).words n).count ≤ ((run s t (marks_of marked)).words n).count) (marks_are s t order) (back.counts n) in
    let same : ((run s t (marks_of marked)).words n).count ≡ ((run s t order).words n).count = le_antisymm (h.counts n) most in
    h.words n ∙ ap (history_of_run s t order n) same ∙ history_last s t order n

state_is : (t u : State) → ((c : ℕ) → t.cores c ≡ u.cores c) → ((n : ℕ) → t.words n ≡ u.words n) → t ≡ u
state_is t u cores words = ap₂ (λ (c : ℕ → Core) (w : ℕ → Word). record { cores = c; words = w }) (fun_ext cores) (fun_ext words)

-- ---- the logs

-- a core that is none of the setup has no entries
no_part : (s : Setup) (t : State) (order : List ℕ) (c : ℕ) → IsPlayableFrom s t order → core_count s ≤ c → part_of c (entries_from s t order) ≡ []
unfolding IsPlayableFrom entries_from
no_part s t [] c playable past = refl
no_part s t (d ∷ order) c playable past =
    part_of_other c (d, entry_at s t d) (entries_from s (step s t d) order) (λ same. omega (arith, playable.0, past, same)) ∙ no_part s (step s t d) order c playable.2 past

pub log_is : (s : Setup) (order : List ℕ) → IsPlayable s order → (c : ℕ) → log_of (logs_along s order) c ≡ log_along s order c
log_is s order playable c = by_core (cases_lt c (core_count s))
  where
    by_core : (c < core_count s) ⊎ (core_count s ≤ c) → log_of (logs_along s order) c ≡ log_along s order c
    by_core (inl below) = get_or-map-range_with_len (log_along s order) 0 (core_count s) c c [] below (omega arith)
    by_core (inr past) =
        get_or_past (logs_along s order) c [] (rw (length-map-range_with_len (log_along s order) 0 (core_count s)) past) ∙ sym (no_part s (opening s) order c playable past)

-- ---- the laws

-- an order is a legal merge of its own logs
pub own_merge : (s : Setup) (order : List ℕ) → IsPlayable s order → IsLegalMerge (logs_along s order) (entries s order)
own_merge s order playable = record {
  parts = λ c. sym (log_is s order playable c);
  numbers = λ n. numbers_along s (opening s) order n;
}

same_run : (s : Setup) (order : List ℕ) (marked : List Marked) → IsPlayable s order → IsLegalMerge (logs_along s order) marked → IsSameRun s order (marks_of marked)
same_run s order marked playable legal =
    let parts : (c : ℕ) → part_of c marked ≡ log_along s order c = λ c. legal.parts c ∙ log_is s order playable c in
    let h : IsRetold s (opening s) order marked = is_retold s (opening s) order marked playable parts legal.numbers in
    let state : along s (marks_of marked) ≡ along s order =
    state_is (along s (marks_of marked)) (along s order) h.cores (words_same s (opening s) order marked parts h) in
    record {
      playable = h.playable;
      complete = λ complete. record {
        playable = h.playable;
        ended = λ c below. subst (λ (t : State). IsSome (t.cores c).local.ending) (sym state) (complete.ended c below);
      };
      logs = ap (λ (log : ℕ → List Entry). map log (range_with_len 0 (core_count s))) (fun_ext (λ c. ap (part_of c) h.entries ∙ parts c));
      state = state;
    }

pub trace : (s : Setup) (order other : List ℕ) → IsPlayable s order → IsLegalOrder (logs_along s order) other → IsSameRun s order other
trace s order other playable legal = subst (λ (o : List ℕ). IsSameRun s order o) legal.cores (same_run s order legal.marked playable legal.legal)

pub canonical_trace : (s : Setup) (order : List ℕ) → IsPlayable s order → IsSameRun s order (canonical (logs_along s order))
canonical_trace s order playable =
    trace s order (canonical (logs_along s order)) playable (canonical_legal (logs_along s order) (entries s order, own_merge s order playable))
