-- The queue of all unserved records of the protocol machine, in the order in which they were committed: it is a legal merge
-- of what the cores have on their way, from the numbers that the words' service has reached.
use Rattle.std.proofs.Common.{◌≡◌, ◌≢◌, ◌⊎◌, ℕ, suc, ◌+◌, ◌<◌, ◌≤◌, List, [], ◌∷◌, ◌++◌, length, map, drop, set, get_or, cond, Bool, true, false, Option, Some, None, option_to_list, refl, sym, ap, subst, ◌∙◌, inl, inr, arith, append-nil, append_assoc, length-append, length-set, eq-eqb, ne_eqb, add-zero, get_or-set_same, get_or-set_other}
use Rattle.std.proofs.lemmas.Bool.{cases_eq}
use Rattle.std.proofs.lemmas.List.{map-append, get_or_past}
use Rattle.order_core.specs.declared.entry.Access.{Access}
use Rattle.order_core.specs.declared.entry.Entry.{Entry}
use Rattle.order_core.specs.declared.shape.Shape.{Shape}
use Rattle.order_core.specs.declared.shape.Shape.TheVariants.{Quiet, Touch, Meet, End}
use Rattle.order_core.specs.declared.shape.Queued.{Queued}
use Rattle.order_core.specs.declared.shape.CoreQueue.{CoreQueue}
use Rattle.order_core.specs.SetAt.{set_at}
use Rattle.order_core.specs.Marked.{Marked, part_of, number_at, numbers_of}
use Rattle.order_core.specs.LegalMerge.{CountUpFrom}
use Rattle.order_core.specs.CanonicalMerge.{may_touch, left_after, raised}
use Rattle.order_core.specs.Places.{reached_at}
use Rattle.order_core.specs.WordBelow.{IsWordBelow}
use Rattle.order_core.specs.Protocol.{no_core, is_meet, number_of, counted}
use Rattle.order_core.proofs.SetAtLemmas.{set_at_same, set_at_other, read_or, read_or_set}
use Rattle.order_core.proofs.MarkedLemmas.{without, part_of_same, part_of_other, number_at_some, number_at_apart}
use Rattle.order_core.proofs.LegalLemmas.{IsLegalFrom, legal_without}

-- ---- what a core has on its way

abbrev pub touch_of : Shape → ℕ → Option Access
touch_of Quiet number = None
touch_of (Touch word) number = Some (record { word = word; number = number; found = 0 })
touch_of Meet number = None
touch_of End number = None

abbrev pub entry_of : Queued → Entry
entry_of queued = record { touch = touch_of queued.shape queued.number }

abbrev pub pending : CoreQueue → List Queued
pending core = (core.lane).items ++ option_to_list core.unsent

abbrev pub entries_of : CoreQueue → List Entry
entries_of core = map entry_of (pending core)

abbrev pub one_if : Bool → ℕ
one_if true = 1
one_if false = 0

abbrev pub meets : List Queued → ℕ
meets [] = 0
meets (queued ∷ rest) = one_if (is_meet queued.shape) + meets rest

pub meets_append : (xs ys : List Queued) → meets (xs ++ ys) ≡ meets xs + meets ys
meets_append [] ys = omega arith
meets_append (x ∷ xs) ys = let rest = meets_append xs ys in omega arith

-- ---- sound

abbrev pub left_of : List CoreQueue → ℕ → List Entry
left_of cores = λ core. entries_of (get_or cores core no_core)

-- a core is at a meeting where its record or its reply is on the way, and only one of the two is
abbrev pub IsMet : CoreQueue → Type 0
IsMet core = meets (pending core) + one_if core.reply ≡ one_if core.meeting

pub record IsSound (bound : ℕ) (cores : List CoreQueue) (drawn served : List ℕ) (queue : List Marked) : Type 0 where
  pub legal : IsLegalFrom (left_of cores) (reached_at served) queue
  pub numbers : (word : ℕ) → get_or served word 0 + length (numbers_of word queue) ≡ get_or drawn word 0
  pub met : (core : ℕ) → IsMet (get_or cores core no_core)
  pub rooms : (core : ℕ) → core < length cores → ((get_or cores core no_core).lane).room ≡ bound
  pub words : length served ≡ length drawn

-- ---- one core changed

le_or_gt : (a b : ℕ) → (a ≤ b) ⊎ (b < a)
le_or_gt a b = grind arith

-- a core that passes a test that no missing core passes is there
pub there : (test : CoreQueue → Bool) (cores : List CoreQueue) (core : ℕ) → test no_core ≡ false → test (get_or cores core no_core) ≡ true → core < length cores
there test cores core none some = go (le_or_gt (length cores) core)
  where
    go : (length cores ≤ core) ⊎ (core < length cores) → core < length cores
    go (inl past) = cc (sym none ∙ sym (ap test (get_or_past cores core no_core past)) ∙ some)
    go (inr h) = h

pub at_change : (cores : List CoreQueue) (core : ℕ) (after : CoreQueue) (P : ℕ → CoreQueue → Type 0) → core < length cores → P core after
    → ((other : ℕ) → other ≢ core → P other (get_or cores other no_core)) → (other : ℕ) → P other (get_or (set cores core after) other no_core)
at_change cores core after P h here others other = go (cases_eq other core)
  where
    go : (other ≡ core) ⊎ (other ≡ core → ⊥) → P other (get_or (set cores core after) other no_core)
    go (inl same) =
        let Q : CoreQueue → Type 0 = P core in
        let R : ℕ → Type 0 = λ c. P c (get_or (set cores core after) c no_core) in
        subst R (sym same) (subst Q (sym (get_or-set_same cores core after no_core h)) here)
    go (inr apart) = let Q : CoreQueue → Type 0 = P other in subst Q (sym (get_or-set_other cores core other after no_core apart)) (others other apart)

module _ (bound : ℕ) (cores : List CoreQueue) (drawn served : List ℕ) (queue : List Marked) (core : ℕ) (after : CoreQueue) (h : core < length cores) (sound : IsSound bound cores drawn served queue) where
  rooms_after : (after.lane).room ≡ ((get_or cores core no_core).lane).room → (other : ℕ) → other < length (set cores core after) → ((get_or (set cores core after) other no_core).lane).room ≡ bound
  rooms_after room = at_change cores core after (λ c k. c < length (set cores core after) → (k.lane).room ≡ bound) h (λ _. room ∙ sound.rooms core h) (λ c apart lt. sound.rooms c (omega (arith, length-set cores core after)))

  -- the records on the way stay the same
  pub sound_same : pending after ≡ pending (get_or cores core no_core) → IsMet after → (after.lane).room ≡ ((get_or cores core no_core).lane).room → IsSound bound (set cores core after) drawn served queue
  sound_same same met room = record {
    legal = record {
      parts = λ c. (sound.legal).parts c ∙ sym (lefts c);
      numbers = (sound.legal).numbers;
    };
    numbers = sound.numbers;
    met = at_change cores core after (λ c k. IsMet k) h met (λ c apart. sound.met c);
    rooms = rooms_after room;
    words = sound.words;
  }
    where
      lefts : (c : ℕ) → left_of (set cores core after) c ≡ left_of cores c
      lefts = at_change cores core after (λ c k. entries_of k ≡ left_of cores c) h (ap (map entry_of) same) (λ c apart. refl)

-- the number of one more access
raised_length : (reached : ℕ → ℕ) (touch : Option Access) (word : ℕ) → raised reached touch word ≡ reached word + length (number_at word touch)
raised_length reached None word = sym (add-zero (reached word))
raised_length reached (Some access) word = go (cases_eq word access.word)
  where
    go : (word ≡ access.word) ⊎ (word ≡ access.word → ⊥) → raised reached (Some access) word ≡ reached word + length (number_at word (Some access))
    go (inl same) =
        ap (raised reached (Some access)) same ∙ set_at_same reached access.word (reached access.word + 1) ∙ ap (λ (w : ℕ). reached w + 1) (sym same)
        ∙ ap (λ (numbers : List ℕ). reached word + length numbers) (sym (number_at_some word access (sym same)))
    go (inr apart) =
        set_at_other reached access.word word (reached access.word + 1) apart ∙ sym (add-zero (reached word))
        ∙ ap (λ (numbers : List ℕ). reached word + length numbers) (sym (number_at_apart word access (λ e. apart (sym e))))

length_without : (word core : ℕ) (entry : Entry) (entries : List Entry) (marked : List Marked) → part_of core marked ≡ entry ∷ entries
    → length (numbers_of word marked) ≡ length (number_at word entry.touch) + length (numbers_of word (without core marked))
length_without word core entry entries [] e = cc
length_without word core entry entries (m ∷ marked) e = go (cases_eq m.0 core) (length_without word core entry entries marked)
  where
    go : (m.0 ≡ core) ⊎ (m.0 ≡ core → ⊥) → (part_of core marked ≡ entry ∷ entries → length (numbers_of word marked) ≡ length (number_at word entry.touch) + length (numbers_of word (without core marked)))
        → length (numbers_of word (m ∷ marked)) ≡ length (number_at word entry.touch) + length (numbers_of word (without core (m ∷ marked)))
    go (inl same) rest =
        let first : m.1 ≡ entry = cc (sym (part_of_same core m marked same) ∙ e) in
        let touch = ap (λ (y : Entry). length (number_at word y.touch)) first in
        let out = ap (λ (b : Bool). length (numbers_of word (cond b marked (m ∷ without core marked)))) (eq-eqb m.0 core same) in
        omega (arith, length-append (number_at word (m.1).touch) (numbers_of word marked))
    go (inr apart) rest =
        let later = rest (sym (part_of_other core m marked apart) ∙ e) in
        let out = ap (λ (b : Bool). length (numbers_of word (cond b marked (m ∷ without core marked)))) (ne_eqb m.0 core apart) in
        omega (arith, length-append (number_at word (m.1).touch) (numbers_of word marked), length-append (number_at word (m.1).touch) (numbers_of word (without core marked)))

-- the first record on the way is taken out and served
module _ (bound : ℕ) (cores : List CoreQueue) (drawn served served_after : List ℕ) (queue : List Marked) (core : ℕ) (after : CoreQueue) (queued : Queued) (rest : List Queued)
    (h : core < length cores) (sound : IsSound bound cores drawn served queue) (first : pending (get_or cores core no_core) ≡ queued ∷ rest) where
  next : left_of cores core ≡ entry_of queued ∷ map entry_of rest
  next = ap (map entry_of) first

  pub sound_served : may_touch (reached_at served) (touch_of queued.shape queued.number) ≡ true → pending after ≡ rest → IsMet after → (after.lane).room ≡ ((get_or cores core no_core).lane).room
      → reached_at served_after ≡ raised (reached_at served) (touch_of queued.shape queued.number) → length served_after ≡ length served → IsSound bound (set cores core after) drawn served_after (without core queue)
  sound_served ready others met room reached words = record {
    legal = record {
      parts = λ c. taken.parts c ∙ sym (lefts c);
      numbers = λ word. let P : (ℕ → ℕ) → Type 0 = λ f. CountUpFrom (f word) (numbers_of word (without core queue)) in subst P (sym reached) (taken.numbers word);
    };
    numbers = λ word.
        let served_is = ap (λ (f : ℕ → ℕ). f word) reached ∙ raised_length (reached_at served) (touch_of queued.shape queued.number) word in
        omega (arith, served_is, sound.numbers word, length_without word core (entry_of queued) (map entry_of rest) queue ((sound.legal).parts core ∙ next));
    met = at_change cores core after (λ c k. IsMet k) h met (λ c apart. sound.met c);
    rooms = rooms_after bound cores drawn served queue core after h sound room;
    words = words ∙ sound.words;
  }
    where
      taken : IsLegalFrom (left_after (left_of cores) core) (raised (reached_at served) (touch_of queued.shape queued.number)) (without core queue)
      taken = legal_without (left_of cores) (reached_at served) core (entry_of queued) (map entry_of rest) next queue ready sound.legal

      lefts : (c : ℕ) → left_of (set cores core after) c ≡ left_after (left_of cores) core c
      lefts =
          at_change cores core after (λ c k. entries_of k ≡ left_after (left_of cores) core c) h (ap (map entry_of) others ∙ sym (set_at_same (left_of cores) core (drop 1 (left_of cores core)) ∙ ap (λ (log : List Entry). drop 1 log) next))
          (λ c apart. sym (set_at_other (left_of cores) core c (drop 1 (left_of cores core)) apart))

  -- an access that is on the way has a number below the count that its word has drawn
  pub served_below : (word : ℕ) → (touch_of queued.shape queued.number) ≡ Some (record { word = word; number = queued.number; found = 0 }) → get_or served word 0 < get_or drawn word 0
  served_below word t =
      let one = ap length (ap (number_at word) t ∙ number_at_some word (record { word = word; number = queued.number; found = 0 }) refl) in
      omega (arith, sound.numbers word, length_without word core (entry_of queued) (map entry_of rest) queue ((sound.legal).parts core ∙ next))

-- ---- one record more

part_of_push_same : (core : ℕ) (entry : Entry) (marked : List Marked) → part_of core (marked ++ (core, entry) ∷ []) ≡ part_of core marked ++ entry ∷ []
part_of_push_same core entry [] = part_of_same core (core, entry) [] refl
part_of_push_same core entry (m ∷ marked) = go (cases_eq m.0 core) (part_of_push_same core entry marked)
  where
    go : (m.0 ≡ core) ⊎ (m.0 ≡ core → ⊥) → part_of core (marked ++ (core, entry) ∷ []) ≡ part_of core marked ++ entry ∷ [] → part_of core (m ∷ (marked ++ (core, entry) ∷ [])) ≡ part_of core (m ∷ marked) ++ entry ∷ []
    go (inl same) e = part_of_same core m (marked ++ (core, entry) ∷ []) same ∙ ap (λ (part : List Entry). m.1 ∷ part) e ∙ ap (λ (part : List Entry). part ++ entry ∷ []) (sym (part_of_same core m marked same))
    go (inr apart) e = part_of_other core m (marked ++ (core, entry) ∷ []) apart ∙ e ∙ ap (λ (part : List Entry). part ++ entry ∷ []) (sym (part_of_other core m marked apart))

part_of_push_other : (core other : ℕ) (entry : Entry) (marked : List Marked) → core ≢ other → part_of other (marked ++ (core, entry) ∷ []) ≡ part_of other marked
part_of_push_other core other entry [] h = part_of_other other (core, entry) [] h
part_of_push_other core other entry (m ∷ marked) h = go (cases_eq m.0 other) (part_of_push_other core other entry marked h)
  where
    go : (m.0 ≡ other) ⊎ (m.0 ≡ other → ⊥) → part_of other (marked ++ (core, entry) ∷ []) ≡ part_of other marked → part_of other (m ∷ (marked ++ (core, entry) ∷ [])) ≡ part_of other (m ∷ marked)
    go (inl same) e = part_of_same other m (marked ++ (core, entry) ∷ []) same ∙ ap (λ (part : List Entry). m.1 ∷ part) e ∙ sym (part_of_same other m marked same)
    go (inr apart) e = part_of_other other m (marked ++ (core, entry) ∷ []) apart ∙ e ∙ sym (part_of_other other m marked apart)

numbers_of_push : (word core : ℕ) (entry : Entry) (marked : List Marked) → numbers_of word (marked ++ (core, entry) ∷ []) ≡ numbers_of word marked ++ number_at word entry.touch
numbers_of_push word core entry [] = append-nil (number_at word entry.touch)
numbers_of_push word core entry (m ∷ marked) =
    ap (λ (numbers : List ℕ). number_at word (m.1).touch ++ numbers) (numbers_of_push word core entry marked) ∙ sym (append_assoc (number_at word (m.1).touch) (numbers_of word marked) (number_at word entry.touch))

count_up_push : (first : ℕ) (numbers : List ℕ) (number : ℕ) → CountUpFrom first numbers → number ≡ first + length numbers → CountUpFrom first (numbers ++ number ∷ [])
count_up_push first [] number h e = (e ∙ add-zero first, tt)
count_up_push first (n ∷ numbers) number h e = (h.0, count_up_push (suc first) numbers number h.1 (omega (arith, e)))

module _ (bound : ℕ) (cores : List CoreQueue) (drawn served : List ℕ) (queue : List Marked) (core : ℕ) (after : CoreQueue) (shape : Shape) (number : ℕ) (h : core < length cores) (sound : IsSound bound cores drawn served queue) where
  pub sound_more : pending after ≡ pending (get_or cores core no_core) ++ record { shape = shape; number = number } ∷ [] → IsMet after → (after.lane).room ≡ ((get_or cores core no_core).lane).room
      → number ≡ number_of drawn shape → IsWordBelow (length drawn) shape
      → IsSound bound (set cores core after) (counted drawn shape) served (queue ++ (core, entry_of (record { shape = shape; number = number })) ∷ [])
  sound_more more met room drew below = record {
    legal = record {
      parts = λ c. parts c (cases_eq c core) ∙ sym (lefts c);
      numbers = λ word. let P : List ℕ → Type 0 = λ numbers. CountUpFrom (get_or served word 0) numbers in subst P (sym (numbers_of_push word core entry queue)) (counts shape number drew word ((sound.legal).numbers word) (sound.numbers word));
    };
    numbers = λ word.
        let pushed = ap (length {A = ℕ}) (numbers_of_push word core entry queue) in
        omega (arith, sound.numbers word, length-append (numbers_of word queue) (number_at word entry.touch), draws shape number below word);
    met = at_change cores core after (λ c k. IsMet k) h met (λ c apart. sound.met c);
    rooms = rooms_after bound cores drawn served queue core after h sound room;
    words = sound.words ∙ sym (length_counted shape);
  }
    where
      entry : Entry
      entry = entry_of (record { shape = shape; number = number })

      goal_left : ℕ → List Entry
      goal_left = set_at (left_of cores) core (left_of cores core ++ entry ∷ [])

      lefts : (c : ℕ) → left_of (set cores core after) c ≡ goal_left c
      lefts =
          at_change cores core after (λ c k. entries_of k ≡ goal_left c) h (ap (map entry_of) more ∙ map-append entry_of (pending (get_or cores core no_core)) (record { shape = shape; number = number } ∷ []) ∙ sym (set_at_same (left_of cores) core (left_of cores core ++ entry ∷ [])))
          (λ c apart. sym (set_at_other (left_of cores) core c (left_of cores core ++ entry ∷ []) apart))

      parts : (c : ℕ) → (c ≡ core) ⊎ (c ≡ core → ⊥) → part_of c (queue ++ (core, entry) ∷ []) ≡ goal_left c
      parts c (inl same) =
          ap (λ (d : ℕ). part_of d (queue ++ (core, entry) ∷ [])) same ∙ part_of_push_same core entry queue ∙ ap (λ (part : List Entry). part ++ entry ∷ []) ((sound.legal).parts core)
          ∙ sym (set_at_same (left_of cores) core (left_of cores core ++ entry ∷ [])) ∙ ap goal_left (sym same)
      parts c (inr apart) = part_of_push_other core c entry queue (λ e. apart (sym e)) ∙ (sound.legal).parts c ∙ sym (set_at_other (left_of cores) core c (left_of cores core ++ entry ∷ []) apart)

      kept : (word : ℕ) (numbers : List ℕ) → CountUpFrom (get_or served word 0) (numbers_of word queue) → numbers ≡ [] → CountUpFrom (get_or served word 0) (numbers_of word queue ++ numbers)
      kept word numbers c e = let P : List ℕ → Type 0 = λ all. CountUpFrom (get_or served word 0) all in subst P (sym (ap (λ (rest : List ℕ). numbers_of word queue ++ rest) e ∙ append-nil (numbers_of word queue))) c

      counts : (shape : Shape) (number : ℕ) → number ≡ number_of drawn shape → (word : ℕ) → CountUpFrom (get_or served word 0) (numbers_of word queue) → get_or served word 0 + length (numbers_of word queue) ≡ get_or drawn word 0
          → CountUpFrom (get_or served word 0) (numbers_of word queue ++ number_at word (touch_of shape number))
      counts Quiet number drew word c e = kept word [] c refl
      counts Meet number drew word c e = kept word [] c refl
      counts End number drew word c e = kept word [] c refl
      counts (Touch v) number drew word c e =
          elim (cases_eq v word) [
            | inl same ↦ let P : List ℕ → Type 0 = λ rest. CountUpFrom (get_or served word 0) (numbers_of word queue ++ rest) in
                subst P (sym (number_at_some word (record { word = v; number = number; found = 0 }) same)) (count_up_push (get_or served word 0) (numbers_of word queue) number c (drew ∙ ap (λ (w : ℕ). get_or drawn w 0) same ∙ sym e))
            | inr apart ↦ kept word (number_at word (Some (record { word = v; number = number; found = 0 }))) c (number_at_apart word (record { word = v; number = number; found = 0 }) apart)
          ]

      draws : (shape : Shape) (number : ℕ) → IsWordBelow (length drawn) shape → (word : ℕ) → get_or (counted drawn shape) word 0 ≡ get_or drawn word 0 + length (number_at word (touch_of shape number))
      draws Quiet number below word = sym (add-zero (get_or drawn word 0))
      draws Meet number below word = sym (add-zero (get_or drawn word 0))
      draws End number below word = sym (add-zero (get_or drawn word 0))
      draws (Touch v) number below word =
          ap (λ (f : ℕ → ℕ). f word) (read_or_set 0 drawn v (get_or drawn v 0 + 1) below) ∙ raised_length (read_or 0 drawn) (Some (record { word = v; number = number; found = 0 })) word

      length_counted : (shape : Shape) → length (counted drawn shape) ≡ length drawn
      length_counted Quiet = refl
      length_counted Meet = refl
      length_counted End = refl
      length_counted (Touch v) = length-set drawn v (get_or drawn v 0 + 1)
