-- Numbered entries whose cores go along a history are the entries of a run, whoever made the history.
use Rattle.std.proofs.Common.{◌≡◌, ◌≢◌, ◌⊎◌, ℕ, suc, ◌<◌, Option, Some, None, List, [], ◌∷◌, ◌++◌, refl, sym, ap, ap₂, ◌∙◌, subst, inl, inr, arith, nat_le}
use Rattle.std.proofs.lemmas.Bool.{cases_eq}
use Rattle.order_core.specs.declared.entry.Access.{Access}
use Rattle.order_core.specs.declared.entry.Entry.{Entry}
use Rattle.order_core.specs.SetAt.{set_at}
use Rattle.order_core.specs.Marked.{Marked, marks_of, part_of, number_at, numbers_of}
use Rattle.order_core.specs.LegalMerge.{CountUpFrom}
use Rattle.order_core.proofs.MarkedLemmas.{part_of_same, part_of_other, number_at_some, number_at_apart}
use Rattle.machine.specs.Setups.{Setup, core_count}
use Rattle.machine.specs.States.{Core, Word, State}
use Rattle.machine.specs.Steps.{Finding, core_given, found_in, touched, left, step}
use Rattle.machine.specs.Runs.{run, IsPlayableFrom, access_to, entry_at, entries_from}
use Rattle.machine.proofs.SetAt.{set_at_here, set_at_there}
use Rattle.machine.proofs.ByAsk.{left_count, step_quiet, step_took}
use Rattle.machine.proofs.CoreSteps.{finding_by, step_cores}
use Rattle.machine.proofs.Histories.{History, found_at, core_next, core_after, IsInHistory, MakesEntry, IsCoreRun, IsAlike, StandsIn, IsComposed}

-- ---- one unit

-- one step from a state that stands in the history makes the entry, and its state stands there too
record IsMade (s : Setup) (Same : Word → Word → Type 0) (history : History) (t : State) (c : ℕ) (entry : Entry) (rest : ℕ → List ℕ) : Type 0 where
  cores : (step s t c).cores ≡ set_at t.cores c (core_next s history (t.cores c) entry)
  made : entry_at s t c ≡ entry
  stands : StandsIn Same history (step s t c)
  numbers : (n : ℕ) → CountUpFrom ((step s t c).words n).count (rest n)

entry_is : (s : Setup) (t : State) (c : ℕ) (word : Option ℕ) (touch : Option Access) → touched s (t.cores c) ≡ word → access_to t.words word ≡ touch
    → entry_at s t c ≡ record { touch = touch }
unfolding entry_at
entry_is s t c word touch e same = ap (λ (w : Option ℕ). record { touch = access_to t.words w }) e ∙ ap (λ (a : Option Access). record { touch = a }) same

cores_are : (s : Setup) (t : State) (c : ℕ) (word : Option ℕ) (finding : Finding) → touched s (t.cores c) ≡ word → finding_by s t word ≡ finding
    → (step s t c).cores ≡ set_at t.cores c (core_given s (t.cores c) finding)
cores_are s t c word finding e same =
    step_cores s t c ∙ ap (λ (f : Finding). set_at t.cores c (core_given s (t.cores c) f)) (ap (finding_by s t) e ∙ same)

module _ (s : Setup) (Same : Word → Word → Type 0) (alike : (word other : Word) → Same word other → IsAlike word other) (history : History) where
  quiet_made : (t : State) (c : ℕ) (rest : ℕ → List ℕ) → StandsIn Same history t → MakesEntry s Same history c (t.cores c) (record { touch = None })
      → ((n : ℕ) → CountUpFrom (t.words n).count (rest n)) → IsMade s Same history t c (record { touch = None }) rest
  quiet_made t c rest stands makes numbers =
      let words : (step s t c).words ≡ t.words = ap (λ (u : State). u.words) (step_quiet s t c makes.touches) in
      record {
        cores = cores_are s t c None _ makes.touches refl;
        made = entry_is s t c None None makes.touches refl;
        stands = λ n. subst (λ (w : ℕ → Word). Same (w n) (history n (w n).count)) (sym words) (stands n);
        numbers = λ n. subst (λ (w : ℕ → Word). CountUpFrom (w n).count (rest n)) (sym words) (numbers n);
      }

  -- the access found the word that the state has
  record IsFirst (t : State) (a : Access) : Type 0 where
    number : (t.words a.word).count ≡ a.number
    finding : finding_by s t (Some a.word) ≡ found_at s history (Some a)
    access : access_to t.words (Some a.word) ≡ Some a
    same : Same (t.words a.word) (history a.word a.number)

  told_alike : (word other : Word) → IsAlike word other → found_in s word ≡ found_in s other
  told_alike word other h = cc (h.count, h.payload, ap (λ (n : ℕ). nat_le s.limit n) h.count)

  first_access : (t : State) (core : Core) (a : Access) → StandsIn Same history t → IsInHistory s Same history core a → a.number ≡ (t.words a.word).count
      → IsFirst t a
  first_access t core a stands found is =
      let here : Same (t.words a.word) (history a.word a.number) = subst (λ (n : ℕ). Same (t.words a.word) (history a.word n)) (sym is) (stands a.word) in
      let near : IsAlike (t.words a.word) (history a.word a.number) = alike (t.words a.word) (history a.word a.number) here in
      record {
        number = sym is;
        finding = cc (told_alike (t.words a.word) (history a.word a.number) near, near.tag);
        access = ap₂ (λ (number found : ℕ). Some (record { word = a.word; number = number; found = found })) (sym is) (near.payload ∙ found.payload);
        same = here;
      }

  -- the word that was accessed, and each other
  took_word : (t : State) (core : Core) (a : Access) → StandsIn Same history t → IsInHistory s Same history core a → IsFirst t a → (n : ℕ)
      → Same (set_at t.words a.word (left s core (t.words a.word)) n) (history n (set_at t.words a.word (left s core (t.words a.word)) n).count)
  took_word t core a stands found first n = by_word (cases_eq n a.word)
    where
      after : Word
      after = left s core (t.words a.word)

      by_word : (n ≡ a.word) ⊎ (n ≢ a.word) → Same (set_at t.words a.word after n) (history n (set_at t.words a.word after n).count)
      by_word (inl same) =
          let more : after.count ≡ suc a.number = omega (arith, left_count s core (t.words a.word), first.number) in
          let now : Same after (history a.word after.count) =
          subst (λ (k : ℕ). Same after (history a.word k)) (sym more) (found.after (t.words a.word) first.same) in
          subst (λ (k : ℕ). Same (set_at t.words a.word after k) (history k (set_at t.words a.word after k).count)) (sym same)
          (subst (λ (w : Word). Same w (history a.word w.count)) (sym (set_at_here t.words a.word after)) now)
      by_word (inr apart) = subst (λ (w : Word). Same w (history n w.count)) (sym (set_at_there t.words a.word after n apart)) (stands n)

  took_number : (t : State) (core : Core) (a : Access) (rest : ℕ → List ℕ) → ((n : ℕ) → CountUpFrom (t.words n).count (number_at n (Some a) ++ rest n)) → (n : ℕ)
      → CountUpFrom (set_at t.words a.word (left s core (t.words a.word)) n).count (rest n)
  took_number t core a rest numbers n = by_word (cases_eq n a.word)
    where
      after : Word
      after = left s core (t.words a.word)

      by_word : (n ≡ a.word) ⊎ (n ≢ a.word) → CountUpFrom (set_at t.words a.word after n).count (rest n)
      by_word (inl same) =
          let all : CountUpFrom (t.words a.word).count (a.number ∷ rest a.word) =
          subst (λ (xs : List ℕ). CountUpFrom (t.words a.word).count (xs ++ rest a.word)) (number_at_some a.word a refl) (numbers a.word) in
          let more : suc (t.words a.word).count ≡ after.count = omega (arith, left_count s core (t.words a.word)) in
          subst (λ (k : ℕ). CountUpFrom (set_at t.words a.word after k).count (rest k)) (sym same)
          (subst (λ (w : Word). CountUpFrom w.count (rest a.word)) (sym (set_at_here t.words a.word after)) (subst (λ (k : ℕ). CountUpFrom k (rest a.word)) more all.1))
      by_word (inr apart) =
          subst (λ (w : Word). CountUpFrom w.count (rest n)) (sym (set_at_there t.words a.word after n apart))
          (subst (λ (xs : List ℕ). CountUpFrom (t.words n).count (xs ++ rest n)) (number_at_apart n a (λ e. apart (sym e))) (numbers n))

  took_made : (t : State) (c : ℕ) (a : Access) (rest : ℕ → List ℕ) → StandsIn Same history t → MakesEntry s Same history c (t.cores c) (record { touch = Some a })
      → ((n : ℕ) → CountUpFrom (t.words n).count (number_at n (Some a) ++ rest n)) → IsMade s Same history t c (record { touch = Some a }) rest
  took_made t c a rest stands makes numbers =
      let all : CountUpFrom (t.words a.word).count (a.number ∷ rest a.word) =
      subst (λ (xs : List ℕ). CountUpFrom (t.words a.word).count (xs ++ rest a.word)) (number_at_some a.word a refl) (numbers a.word) in
      let first : IsFirst t a = first_access t (t.cores c) a stands makes.found all.0 in
      let words : (step s t c).words ≡ set_at t.words a.word (left s (t.cores c) (t.words a.word)) =
      ap (λ (u : State). u.words) (step_took s t c a.word makes.touches) in
      record {
        cores = cores_are s t c (Some a.word) _ makes.touches first.finding;
        made = entry_is s t c (Some a.word) (Some a) makes.touches first.access;
        stands = λ n. subst (λ (w : ℕ → Word). Same (w n) (history n (w n).count)) (sym words) (took_word t (t.cores c) a stands makes.found first n);
        numbers = λ n. subst (λ (w : ℕ → Word). CountUpFrom (w n).count (rest n)) (sym words) (took_number t (t.cores c) a rest numbers n);
      }

  made : (t : State) (c : ℕ) (touch : Option Access) (rest : ℕ → List ℕ) → StandsIn Same history t
      → MakesEntry s Same history c (t.cores c) (record { touch = touch })
      → ((n : ℕ) → CountUpFrom (t.words n).count (number_at n touch ++ rest n)) → IsMade s Same history t c (record { touch = touch }) rest
  made t c None rest stands makes numbers = quiet_made t c rest stands makes numbers
  made t c (Some a) rest stands makes numbers = took_made t c a rest stands makes numbers

  -- ---- all units

  -- the first entry of a core's run
  first_entry : (c : ℕ) (core : Core) (entry : Entry) (entries : List Entry) → IsCoreRun s Same history c core (entry ∷ entries)
      → MakesEntry s Same history c core entry × IsCoreRun s Same history c (core_next s history core entry) entries
  unfolding IsCoreRun
  first_entry c core entry entries h = h

  after_first : (core : Core) (entry : Entry) (entries : List Entry)
      → core_after s history core (entry ∷ entries) ≡ core_after s history (core_next s history core entry) entries
  unfolding core_after
  after_first core entry entries = refl

  -- after the first unit, each core goes along what is left of its part
  record IsLeft (t : State) (m : Marked) (marked : List Marked) (d : ℕ) : Type 0 where
    going : IsCoreRun s Same history d ((step s t m.0).cores d) (part_of d marked)
    after : core_after s history ((step s t m.0).cores d) (part_of d marked) ≡ core_after s history (t.cores d) (part_of d (m ∷ marked))

  part_left : (t : State) (m : Marked) (marked : List Marked) → (step s t m.0).cores ≡ set_at t.cores m.0 (core_next s history (t.cores m.0) m.1)
      → ((c : ℕ) → IsCoreRun s Same history c (t.cores c) (part_of c (m ∷ marked))) → (d : ℕ) → IsLeft t m marked d
  part_left t m marked cores runs d = by_core (cases_eq d m.0)
    where
      by_core : (d ≡ m.0) ⊎ (d ≢ m.0) → IsLeft t m marked d
      by_core (inl same) =
          let part : part_of m.0 (m ∷ marked) ≡ m.1 ∷ part_of m.0 marked = part_of_same m.0 m marked refl in
          let now : (step s t m.0).cores m.0 ≡ core_next s history (t.cores m.0) m.1 =
          ap (λ (f : ℕ → Core). f m.0) cores ∙ set_at_here t.cores m.0 (core_next s history (t.cores m.0) m.1) in
          subst (λ (k : ℕ). IsLeft t m marked k) (sym same) (record {
            going =
                subst (λ (core : Core). IsCoreRun s Same history m.0 core (part_of m.0 marked)) (sym now) (first_entry m.0 (t.cores m.0) m.1 (part_of m.0 marked) (subst (IsCoreRun s Same history m.0 (t.cores m.0)) part (runs m.0))).1;
            after =
                ap (λ (core : Core). core_after s history core (part_of m.0 marked)) now ∙ sym (after_first (t.cores m.0) m.1 (part_of m.0 marked)) ∙ ap (core_after s history (t.cores m.0)) (sym part);
          })
      by_core (inr apart) =
          let part : part_of d (m ∷ marked) ≡ part_of d marked = part_of_other d m marked (λ e. apart (sym e)) in
          let now : (step s t m.0).cores d ≡ t.cores d =
          ap (λ (f : ℕ → Core). f d) cores ∙ set_at_there t.cores m.0 (core_next s history (t.cores m.0) m.1) d apart in
          record {
            going =
                subst (λ (core : Core). IsCoreRun s Same history d core (part_of d marked)) (sym now) (subst (IsCoreRun s Same history d (t.cores d)) part (runs d));
            after = ap (λ (core : Core). core_after s history core (part_of d marked)) now ∙ ap (core_after s history (t.cores d)) (sym part);
          }

  composed_more : (t : State) (m : Marked) (marked : List Marked) → m.0 < core_count s → (t.cores m.0).local.ending ≡ None → entry_at s t m.0 ≡ m.1
      → ((d : ℕ) → IsLeft t m marked d) → IsComposed s Same history (step s t m.0) marked → IsComposed s Same history t (m ∷ marked)
  unfolding run IsPlayableFrom entries_from
  composed_more t m marked below running made lefts rest = record {
    playable = (below, running, rest.playable);
    entries = ap (λ (e : Entry). (m.0, e) ∷ entries_from s (step s t m.0) (marks_of marked)) made ∙ ap (λ (xs : List Marked). m ∷ xs) rest.entries;
    cores = λ d. rest.cores d ∙ (lefts d).after;
    stands = rest.stands;
  }

  composed_none : (t : State) → StandsIn Same history t → IsComposed s Same history t []
  unfolding run IsPlayableFrom entries_from core_after
  composed_none t stands = record { playable = tt; entries = refl; cores = λ c. refl; stands = stands }

  pub compose : (marked : List Marked) (t : State) → StandsIn Same history t → ((n : ℕ) → CountUpFrom (t.words n).count (numbers_of n marked))
      → ((c : ℕ) → IsCoreRun s Same history c (t.cores c) (part_of c marked)) → IsComposed s Same history t marked
  compose [] t stands numbers runs = composed_none t stands
  compose (m ∷ marked) t stands numbers runs =
      let part : part_of m.0 (m ∷ marked) ≡ m.1 ∷ part_of m.0 marked = part_of_same m.0 m marked refl in
      let makes : MakesEntry s Same history m.0 (t.cores m.0) m.1 =
      (first_entry m.0 (t.cores m.0) m.1 (part_of m.0 marked) (subst (IsCoreRun s Same history m.0 (t.cores m.0)) part (runs m.0))).0 in
      let one : IsMade s Same history t m.0 m.1 (λ n. numbers_of n marked) = made t m.0 (m.1).touch (λ n. numbers_of n marked) stands makes numbers in
      let lefts : (d : ℕ) → IsLeft t m marked d = part_left t m marked one.cores runs in
      composed_more t m marked makes.within makes.running one.made lefts
      (compose marked (step s t m.0) one.stands one.numbers (λ d. (lefts d).going))
