-- A history that fits logs, with the units without access put in, is a legal merge of them.
use Rattle.std.proofs.Common.{◌≡◌, ◌≢◌, ◌⊎◌, ℕ, zero, suc, ◌≤◌, List, [], ◌∷◌, ◌++◌, length, Option, Some, None, refl, sym, ap, subst, ◌∙◌, inl, inr, arith, append-nil, option_to_list}
use Rattle.std.proofs.lemmas.Bool.{cases_eq}
use Rattle.std.proofs.lemmas.List.{get_or_past}
use Rattle.order_core.specs.declared.entry.Access.{Access}
use Rattle.order_core.specs.declared.entry.Entry.{Entry}
use Rattle.order_core.specs.SetAt.{set_at}
use Rattle.order_core.specs.Logs.{log_of}
use Rattle.order_core.specs.Marked.{Marked, part_of, number_at, numbers_by, numbers_of}
use Rattle.order_core.specs.LegalMerge.{CountUpFrom}
use Rattle.order_core.specs.History.{CoreAccess, touches_of, touched_by, history_of, FitsLogs, ExtendsToMerge}
use Rattle.order_core.proofs.SetAtLemmas.{set_at_same, set_at_other}
use Rattle.order_core.proofs.MarkedLemmas.{part_of_same, part_of_other}

-- entries of one core, each marked with it
abbrev pub marks : ℕ → List Entry → List Marked
marks core [] = []
marks core (entry ∷ entries) = (core, entry) ∷ marks core entries

part_of_marks_same : (core : ℕ) (entries : List Entry) (marked : List Marked) → part_of core (marks core entries ++ marked) ≡ entries ++ part_of core marked
part_of_marks_same core [] marked = refl
part_of_marks_same core (entry ∷ entries) marked =
    part_of_same core (core, entry) (marks core entries ++ marked) refl ∙ ap (λ (part : List Entry). entry ∷ part) (part_of_marks_same core entries marked)

part_of_marks_other : (core other : ℕ) (entries : List Entry) (marked : List Marked) → core ≢ other → part_of other (marks core entries ++ marked) ≡ part_of other marked
part_of_marks_other core other [] marked h = refl
part_of_marks_other core other (entry ∷ entries) marked h =
    part_of_other other (core, entry) (marks core entries ++ marked) h ∙ part_of_marks_other core other entries marked h

-- entries without access leave the history as it is
history_of_marks : (core : ℕ) (entries : List Entry) (marked : List Marked) → touches_of entries ≡ [] → history_of (marks core entries ++ marked) ≡ history_of marked
history_of_marks core [] marked h = refl
history_of_marks core (entry ∷ entries) marked h = step entry.touch refl (history_of_marks core entries marked)
  where
    step : (touch : Option Access) → entry.touch ≡ touch → (touches_of entries ≡ [] → history_of (marks core entries ++ marked) ≡ history_of marked)
        → touched_by core entry.touch ++ history_of (marks core entries ++ marked) ≡ history_of marked
    step None t rest =
        ap (λ (touch : Option Access). touched_by core touch ++ history_of (marks core entries ++ marked)) t ∙ rest (sym (ap (λ (touch : Option Access). option_to_list touch ++ touches_of entries) t) ∙ h)
    step (Some access) t rest = cc (sym (ap (λ (touch : Option Access). option_to_list touch ++ touches_of entries) t) ∙ h)

-- a log up to its next access
record Split (log : List Entry) (access : Access) (later : List Access) : Type 0 where
  quiet : List Entry
  entry : Entry
  rest : List Entry
  whole : log ≡ quiet ++ entry ∷ rest
  quiets : touches_of quiet ≡ []
  touch : entry.touch ≡ Some access
  touches : touches_of rest ≡ later

split : (log : List Entry) (access : Access) (later : List Access) → touches_of log ≡ access ∷ later → Split log access later
split [] access later h = cc
split (e ∷ log) access later h = step e.touch refl (split log access later)
  where
    step : (touch : Option Access) → e.touch ≡ touch → (touches_of log ≡ access ∷ later → Split log access later) → Split (e ∷ log) access later
    step None t more =
        let s = more (sym (ap (λ (touch : Option Access). option_to_list touch ++ touches_of log) t) ∙ h) in
        record {
          quiet = e ∷ s.quiet;
          entry = s.entry;
          rest = s.rest;
          whole = ap (λ (log : List Entry). e ∷ log) s.whole;
          quiets = ap (λ (touch : Option Access). option_to_list touch ++ touches_of s.quiet) t ∙ s.quiets;
          touch = s.touch;
          touches = s.touches;
        }
    step (Some found) t more =
        let same : found ∷ touches_of log ≡ access ∷ later = sym (ap (λ (touch : Option Access). option_to_list touch ++ touches_of log) t) ∙ h in
        record {
          quiet = [];
          entry = e;
          rest = log;
          whole = refl;
          quiets = refl;
          touch = t ∙ ap (λ (a : Access). Some a) (cc);
          touches = cc;
        }

record Extends (left : ℕ → List Entry) (history : List CoreAccess) : Type 0 where
  marked : List Marked
  parts : (core : ℕ) → part_of core marked ≡ left core
  accesses : history_of marked ≡ history

-- all that is left where nothing is touched any more
leftovers : (count : ℕ) (left : ℕ → List Entry) → ((core : ℕ) → count ≤ core → left core ≡ []) → ((core : ℕ) → touches_of (left core) ≡ []) → Extends left []
leftovers zero left past quiet = record {
  marked = [];
  parts = λ core. sym (past core (omega arith));
  accesses = refl;
}
leftovers (suc count) left past quiet = more (leftovers count (set_at left count []) fewer still)
  where
    fewer : (core : ℕ) → count ≤ core → set_at left count [] core ≡ []
    fewer core h =
        elim (cases_eq core count) [
          | inl same ↦ ap (set_at left count []) same ∙ set_at_same left count []
          | inr apart ↦ set_at_other left count core [] apart ∙ past core (omega arith)
        ]

    still : (core : ℕ) → touches_of (set_at left count [] core) ≡ []
    still core =
        elim (cases_eq core count) [
          | inl same ↦ ap touches_of (ap (set_at left count []) same ∙ set_at_same left count [])
          | inr apart ↦ ap touches_of (set_at_other left count core [] apart) ∙ quiet core
        ]

    more : Extends (set_at left count []) [] → Extends left []
    more e = record {
      marked = marks count (left count) ++ e.marked;
      parts = λ core. part core (cases_eq core count);
      accesses = history_of_marks count (left count) e.marked (quiet count) ∙ e.accesses;
    }
      where
        part : (core : ℕ) → (core ≡ count) ⊎ (core ≡ count → ⊥) → part_of core (marks count (left count) ++ e.marked) ≡ left core
        part core (inl same) =
            ap (λ (c : ℕ). part_of c (marks count (left count) ++ e.marked)) same ∙ part_of_marks_same count (left count) e.marked
            ∙ ap (λ (rest : List Entry). left count ++ rest) (e.parts count ∙ set_at_same left count []) ∙ append-nil (left count) ∙ ap left (sym same)
        part core (inr apart) = part_of_marks_other count core (left count) e.marked (λ h. apart (sym h)) ∙ e.parts core ∙ set_at_other left count core [] apart

extends : (count : ℕ) (left : ℕ → List Entry) (history : List CoreAccess) → ((core : ℕ) → count ≤ core → left core ≡ []) → ((core : ℕ) → part_of core history ≡ touches_of (left core)) → Extends left history
extends count left [] past fits = leftovers count left past (λ core. sym (fits core))
extends count left (a ∷ history) past fits = more (split (left a.0) a.1 (part_of a.0 history) (sym (fits a.0) ∙ part_of_same a.0 a history refl)) (λ after. extends count after history)
  where
    more : Split (left a.0) a.1 (part_of a.0 history)
        → ((after : ℕ → List Entry) → ((core : ℕ) → count ≤ core → after core ≡ []) → ((core : ℕ) → part_of core history ≡ touches_of (after core)) → Extends after history) → Extends left (a ∷ history)
    more s rest = record {
      marked = marks a.0 s.quiet ++ (a.0, s.entry) ∷ e.marked;
      parts = λ core. part core (cases_eq core a.0);
      accesses = history_of_marks a.0 s.quiet ((a.0, s.entry) ∷ e.marked) s.quiets ∙ ap (λ (touch : Option Access). touched_by a.0 touch ++ history_of e.marked) s.touch ∙ ap (λ (h : List CoreAccess). a ∷ h) e.accesses;
    }
      where
        after : ℕ → List Entry
        after = set_at left a.0 s.rest

        none : (core : ℕ) → count ≤ core → after core ≡ []
        none core h = at (cases_eq core a.0)
          where
            empty : (quiet rest : List Entry) (entry : Entry) → [] ≡ quiet ++ entry ∷ rest → ⊥
            empty [] rest entry e = cc
            empty (x ∷ xs) rest entry e = cc

            at : (core ≡ a.0) ⊎ (core ≡ a.0 → ⊥) → after core ≡ []
            at (inl same) = absurd (empty s.quiet s.rest s.entry (sym (past core h) ∙ ap left same ∙ s.whole))
            at (inr apart) = set_at_other left a.0 core s.rest apart ∙ past core h

        still : (core : ℕ) → part_of core history ≡ touches_of (after core)
        still core =
            elim (cases_eq core a.0) [
              | inl same ↦ ap (λ (c : ℕ). part_of c history) same ∙ sym s.touches ∙ sym (ap touches_of (ap after same ∙ set_at_same left a.0 s.rest))
              | inr apart ↦ sym (part_of_other core a history (λ h. apart (sym h))) ∙ fits core ∙ sym (ap touches_of (set_at_other left a.0 core s.rest apart))
            ]

        e : Extends after history
        e = rest after none still

        part : (core : ℕ) → (core ≡ a.0) ⊎ (core ≡ a.0 → ⊥) → part_of core (marks a.0 s.quiet ++ (a.0, s.entry) ∷ e.marked) ≡ left core
        part core (inl same) =
            ap (λ (c : ℕ). part_of c (marks a.0 s.quiet ++ (a.0, s.entry) ∷ e.marked)) same ∙ part_of_marks_same a.0 s.quiet ((a.0, s.entry) ∷ e.marked)
            ∙ ap (λ (rest : List Entry). s.quiet ++ rest) (part_of_same a.0 (a.0, s.entry) e.marked refl ∙ ap (λ (rest : List Entry). s.entry ∷ rest) (e.parts a.0 ∙ set_at_same left a.0 s.rest))
            ∙ sym s.whole ∙ ap left (sym same)
        part core (inr apart) =
            part_of_marks_other a.0 core s.quiet ((a.0, s.entry) ∷ e.marked) (λ h. apart (sym h)) ∙ part_of_other core (a.0, s.entry) e.marked (λ h. apart (sym h)) ∙ e.parts core ∙ set_at_other left a.0 core s.rest apart

-- the numbers of marked entries are those of their accesses
pub numbers_in_history_of : (word : ℕ) (marked : List Marked) → numbers_by Some word (history_of marked) ≡ numbers_of word marked
numbers_in_history_of word [] = refl
numbers_in_history_of word (m ∷ marked) = step (m.1).touch (numbers_in_history_of word marked)
  where
    step : (touch : Option Access) → numbers_by Some word (history_of marked) ≡ numbers_of word marked → numbers_by Some word (touched_by m.0 touch ++ history_of marked) ≡ number_at word touch ++ numbers_of word marked
    step None e = e
    step (Some access) e = ap (λ (numbers : List ℕ). number_at word (Some access) ++ numbers) e

pub history_merges : (logs : List (List Entry)) (history : List CoreAccess) → FitsLogs logs history → ExtendsToMerge logs history
history_merges logs history fits =
    let e = extends (length logs) (log_of logs) history (λ core h. get_or_past logs core [] h) fits.parts in
    let P : ℕ → List ℕ → Type 0 = λ word numbers. CountUpFrom 0 numbers in
    record {
      marked = e.marked;
      legal = record {
        parts = e.parts;
        numbers = λ word. subst (P word) (ap (numbers_by Some word) (sym e.accesses) ∙ numbers_in_history_of word e.marked) (fits.numbers word);
      };
      accesses = e.accesses;
    }
