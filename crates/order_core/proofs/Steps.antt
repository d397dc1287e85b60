-- Each step of the protocol machine keeps the queue of unserved records.
use Rattle.std.proofs.Common.{◌≡◌, ◌⊎◌, ℕ, zero, suc, ◌+◌, ◌<◌, ◌≤◌, ◌&&◌, not, List, [], ◌∷◌, ◌++◌, length, drop, set, get_or, replicate, Bool, true, false, Option, Some, None, option_to_list, is_none, slice_get, refl, sym, ap, subst, ◌∙◌, inl, inr, arith, append-nil, length-set, add-zero}
use Rattle.std.specs.Option.{option_map_or}
use Rattle.std.proofs.lemmas.List.{get_or_past, get_or-replicate, length-replicate}
use Rattle.order_core.specs.declared.shape.Shape.{Shape}
use Rattle.order_core.specs.declared.shape.Shape.TheVariants.{Quiet, Touch, Meet, End}
use Rattle.order_core.specs.declared.shape.Move.TheVariants.{Send, Serve, Reply, Resume}
use Rattle.order_core.specs.declared.shape.Queued.{Queued}
use Rattle.order_core.specs.declared.shape.CoreQueue.{CoreQueue}
use Rattle.order_core.specs.Marked.{Marked}
use Rattle.order_core.specs.CanonicalMerge.{may_touch, raised}
use Rattle.order_core.specs.Places.{reached_at}
use Rattle.order_core.specs.WordBelow.{IsWordBelow}
use Rattle.order_core.specs.Protocol.{idle, no_core, is_free, can_send, first_of, shape_is_next, can_serve, is_meet, can_reply, marked_by, committed, sent, without_first, replied, set_going, Protocol, begin, core_at, number_of, counted, served_after, InRange, can_commit, commit, act}
use Rattle.order_core.specs.Reachable.{IsReachable, Begins, Commits, Acts}
use Rattle.order_core.proofs.SetAtLemmas.{read_or_set}
use Rattle.order_core.proofs.MarkedLemmas.{without}
use Rattle.order_core.proofs.Queue.{touch_of, entry_of, pending, entries_of, one_if, meets, meets_append, IsMet, IsSound, there, sound_same, sound_served, served_below, sound_more}

abbrev pub Sound : ℕ → Protocol → Type 0
Sound bound s = (queue : List Marked) × IsSound bound s.cores s.drawn s.served queue

-- ---- tests taken apart

free_parts : (unsent : Option Queued) (meeting ended : Bool) → (is_none unsent && not meeting && not ended) ≡ true → (unsent ≡ None) × (meeting ≡ false)
free_parts None false false e = (refl, refl)
free_parts None false true e = cc
free_parts None true ended e = cc
free_parts (Some x) meeting ended e = cc

one_if_le : (b : Bool) → one_if b ≤ 1
one_if_le true = omega arith
one_if_le false = omega arith

one_if_zero : (b : Bool) → one_if b ≡ 0 → b ≡ false
one_if_zero true e = absurd (omega arith)
one_if_zero false e = refl

-- the first record of a lane passes a test
record First (test : Queued → Bool) (lane : List Queued) : Type 0 where
  pub queued : Queued
  pub lane_is : lane ≡ queued ∷ drop 1 lane
  pub first : slice_get lane 0 ≡ Some queued
  pub passes : test queued ≡ true

first_of_test : (test : Queued → Bool) (lane : List Queued) → option_map_or test (slice_get lane 0) false ≡ true → First test lane
first_of_test test [] e = cc
first_of_test test (x ∷ xs) e = record {
  queued = x;
  lane_is = refl;
  first = refl;
  passes = e;
}

and_left : (a b : Bool) → (a && b) ≡ true → a ≡ true
and_left true b e = refl
and_left false b e = e

and_right : (a b : Bool) → (a && b) ≡ true → b ≡ true
and_right true b e = e
and_right false b e = cc

not_false : (b : Bool) → not b ≡ true → b ≡ false
not_false true e = cc
not_false false e = refl

-- a shape that is next may touch, and is no meeting
may_touch_next : (served : List ℕ) (number : ℕ) (shape : Shape) → shape_is_next served number shape ≡ true → may_touch (reached_at served) (touch_of shape number) ≡ true
may_touch_next served number Quiet e = refl
may_touch_next served number (Touch word) e = e
may_touch_next served number Meet e = refl
may_touch_next served number End e = refl

is_meet_next : (served : List ℕ) (number : ℕ) (shape : Shape) → shape_is_next served number shape ≡ true → is_meet shape ≡ false
is_meet_next served number Quiet e = refl
is_meet_next served number (Touch word) e = refl
is_meet_next served number Meet e = cc
is_meet_next served number End e = refl

touch_of_meet : (number : ℕ) (shape : Shape) → is_meet shape ≡ true → touch_of shape number ≡ None
touch_of_meet number Quiet e = refl
touch_of_meet number (Touch word) e = cc
touch_of_meet number Meet e = refl
touch_of_meet number End e = refl

reached_at_counted : (served : List ℕ) (number : ℕ) (shape : Shape) → IsWordBelow (length served) shape → reached_at (counted served shape) ≡ raised (reached_at served) (touch_of shape number)
reached_at_counted served number Quiet h = refl
reached_at_counted served number (Touch word) h = read_or_set 0 served word (get_or served word 0 + 1) h
reached_at_counted served number Meet h = refl
reached_at_counted served number End h = refl

pub length_counted : (counts : List ℕ) (shape : Shape) → length (counted counts shape) ≡ length counts
length_counted counts Quiet = refl
length_counted counts (Touch word) = length-set counts word (get_or counts word 0 + 1)
length_counted counts Meet = refl
length_counted counts End = refl

-- ---- the moves

module _ (bound : ℕ) (s : Protocol) (core : ℕ) (sound : Sound bound s) where
  k : CoreQueue
  k = get_or s.cores core no_core

  pub sound_send : can_send (core_at s core) ≡ true → Sound bound (act s (Send core))
  sound_send e =
      let h = there can_send s.cores core refl e in (
        sound.0,
        sound_same bound s.cores s.drawn s.served sound.0 core (sent (core_at s core)) h sound.1 (append-nil (pending (core_at s core)))
            (ap (λ (n : ℕ). n + one_if (core_at s core).reply) (ap meets (append-nil (pending (core_at s core)))) ∙ (sound.1).met core) refl,
      )

  pub sound_resume : (core_at s core).reply ≡ true → Sound bound (act s (Resume core))
  sound_resume e =
      let h = there (λ (k : CoreQueue). k.reply) s.cores core refl e in
      let met = (sound.1).met core in
      let one : one_if (core_at s core).reply ≡ 1 = ap one_if e in
      (sound.0, sound_same bound s.cores s.drawn s.served sound.0 core (set_going (core_at s core)) h sound.1 refl (omega (arith, met, one, one_if_le (core_at s core).meeting)) refl)

  -- the record that is served, and what a served access shows of its word
  pub record IsFirst (test : Queued → Bool) : Type 0 where
    pub queued : Queued
    pub rest : List Queued
    pub there : core < length s.cores
    pub pending_is : pending (core_at s core) ≡ queued ∷ rest
    pub rest_is : drop 1 ((core_at s core).lane).items ++ option_to_list (core_at s core).unsent ≡ rest
    pub first : first_of (core_at s core) ≡ Some queued
    pub passes : test queued ≡ true

  pub is_first : (test : Queued → Bool) → option_map_or test (first_of (core_at s core)) false ≡ true → IsFirst test
  is_first test e =
      let f = first_of_test test ((core_at s core).lane).items e in
      record {
        queued = f.queued;
        rest = drop 1 ((core_at s core).lane).items ++ option_to_list (core_at s core).unsent;
        there = there (λ (k : CoreQueue). option_map_or test (first_of k) false) s.cores core refl e;
        pending_is = ap (λ (lane : List Queued). lane ++ option_to_list (core_at s core).unsent) f.lane_is;
        rest_is = refl;
        first = f.first;
        passes = f.passes;
      }

  -- its word is there, and has drawn more than it has served
  pub word_below : (queued : Queued) (rest : List Queued) → core < length s.cores → pending (core_at s core) ≡ queued ∷ rest → (shape : Shape) → queued.shape ≡ shape
      → IsWordBelow (length s.served) shape × (number_of s.served shape < number_of s.drawn shape ⊎ (number_of s.served shape ≡ 0))
  word_below queued rest h e Quiet is = (tt, inr refl)
  word_below queued rest h e Meet is = (tt, inr refl)
  word_below queued rest h e End is = (tt, inr refl)
  word_below queued rest h e (Touch word) is =
      let touch : touch_of queued.shape queued.number ≡ Some (record { word = word; number = queued.number; found = 0 }) = ap (λ (shape : Shape). touch_of shape queued.number) is in
      let below = served_below bound s.cores s.drawn s.served s.served sound.0 core k queued rest h sound.1 e word touch in
      (in_range (le_or_gt (length s.drawn) word) below, inl below)
    where
      le_or_gt : (a b : ℕ) → (a ≤ b) ⊎ (b < a)
      le_or_gt a b = grind arith

      in_range : (length s.drawn ≤ word) ⊎ (word < length s.drawn) → get_or s.served word 0 < get_or s.drawn word 0 → word < length s.served
      in_range (inl past) b = absurd (omega (arith, b, get_or_past s.drawn word 0 past))
      in_range (inr h) b = omega (arith, (sound.1).words)

  pub sound_serve : can_serve s.served (core_at s core) ≡ true → Sound bound (act s (Serve core))
  sound_serve e =
      let f = is_first (λ (queued : Queued). shape_is_next s.served queued.number queued.shape) e in
      let shape = (f.queued).shape in
      let met = (sound.1).met core in
      let meets_is : meets (pending (core_at s core)) ≡ one_if (is_meet shape) + meets f.rest = ap meets f.pending_is in
      let no_meet : one_if (is_meet shape) ≡ 0 = ap one_if (is_meet_next s.served (f.queued).number shape f.passes) in
      let rest_meets : meets (pending (without_first (core_at s core))) ≡ meets f.rest = ap meets f.rest_is in
      let below = word_below f.queued f.rest f.there f.pending_is shape refl in
      let P : Option Queued → Type 0 = λ first. Sound bound (record { cores = set s.cores core (without_first (core_at s core)); drawn = s.drawn; served = served_after s.served first }) in
      subst P (sym f.first) (
        without core sound.0,
        sound_served bound s.cores s.drawn s.served (counted s.served shape) sound.0 core (without_first (core_at s core)) f.queued f.rest f.there sound.1 f.pending_is
            (may_touch_next s.served (f.queued).number shape f.passes) f.rest_is (omega (arith, met, meets_is, no_meet, rest_meets)) refl (reached_at_counted s.served (f.queued).number shape below.0) (length_counted s.served shape),
      )

  pub sound_reply : can_reply (core_at s core) ≡ true → Sound bound (act s (Reply core))
  sound_reply e =
      let meet = and_left (option_map_or (λ (queued : Queued). is_meet queued.shape) (first_of (core_at s core)) false) (not (core_at s core).reply) e in
      let no_reply = not_false (core_at s core).reply (and_right (option_map_or (λ (queued : Queued). is_meet queued.shape) (first_of (core_at s core)) false) (not (core_at s core).reply) e) in
      let f = is_first (λ (queued : Queued). is_meet queued.shape) meet in
      let shape = (f.queued).shape in
      let none = touch_of_meet (f.queued).number shape f.passes in
      let met = (sound.1).met core in
      let meets_is : meets (pending (core_at s core)) ≡ one_if (is_meet shape) + meets f.rest = ap meets f.pending_is in
      let one : one_if (is_meet shape) ≡ 1 = ap one_if f.passes in
      let zero : one_if (core_at s core).reply ≡ 0 = ap one_if no_reply in
      let rest_meets : meets (pending (replied (core_at s core))) ≡ meets f.rest = ap meets f.rest_is in (
        without core sound.0,
        sound_served bound s.cores s.drawn s.served s.served sound.0 core (replied (core_at s core)) f.queued f.rest f.there sound.1 f.pending_is
            (ap (may_touch (reached_at s.served)) none) f.rest_is (omega (arith, met, meets_is, one, zero, rest_meets)) refl (sym (ap (raised (reached_at s.served)) none)) refl,
      )

  pending_committed : (shape : Shape) (number : ℕ) → (core_at s core).unsent ≡ None → pending (committed (core_at s core) shape number) ≡ pending (core_at s core) ++ record { shape = shape; number = number } ∷ []
  pending_committed shape number e = flags shape ∙ ap (λ (lane : List Queued). lane ++ record { shape = shape; number = number } ∷ []) (sym (ap (λ (unsent : Option Queued). ((core_at s core).lane).items ++ option_to_list unsent) e ∙ append-nil ((core_at s core).lane).items))
    where
      flags : (flag : Shape) → pending (marked_by (record (core_at s core) { unsent = Some (record { shape = shape; number = number }) }) flag) ≡ ((core_at s core).lane).items ++ record { shape = shape; number = number } ∷ []
      flags Quiet = refl
      flags (Touch word) = refl
      flags Meet = refl
      flags End = refl

  met_committed : (shape : Shape) (number : ℕ) → (core_at s core).meeting ≡ false → pending (committed (core_at s core) shape number) ≡ pending (core_at s core) ++ record { shape = shape; number = number } ∷ [] → IsMet (committed (core_at s core) shape number)
  met_committed Quiet number m e =
      omega (arith, (sound.1).met core, ap meets e, meets_append (pending (core_at s core)) (record { shape = Quiet; number = number } ∷ []))
  met_committed (Touch word) number m e =
      omega (arith, (sound.1).met core, ap meets e, meets_append (pending (core_at s core)) (record { shape = Touch word; number = number } ∷ []))
  met_committed Meet number m e =
      omega (arith, (sound.1).met core, ap meets e, ap one_if m, meets_append (pending (core_at s core)) (record { shape = Meet; number = number } ∷ []))
  met_committed End number m e =
      omega (arith, (sound.1).met core, ap meets e, meets_append (pending (core_at s core)) (record { shape = End; number = number } ∷ []))

  room_committed : (shape : Shape) (number : ℕ) → ((committed (core_at s core) shape number).lane).room ≡ ((core_at s core).lane).room
  room_committed Quiet number = refl
  room_committed (Touch word) number = refl
  room_committed Meet number = refl
  room_committed End number = refl

  pub sound_commit : (shape : Shape) → can_commit s core ≡ true → InRange s shape → Sound bound (commit s core shape)
  sound_commit shape e below =
      let free = free_parts (core_at s core).unsent (core_at s core).meeting (core_at s core).ended e in
      let number = number_of s.drawn shape in
      let more = pending_committed shape number free.0 in (
        sound.0 ++ (core, entry_of (record { shape = shape; number = number })) ∷ [],
        sound_more bound s.cores s.drawn s.served sound.0 core (committed (core_at s core) shape number) shape number (there is_free s.cores core refl e) sound.1 more (met_committed shape number free.1 more) (room_committed shape number) refl below,
      )

-- ---- reachable states are sound

idle_or : (P : CoreQueue → Type 0) (bound : ℕ) → P (idle bound) → P no_core → (count core : ℕ) → P (get_or (replicate count (idle bound)) core no_core)
idle_or P bound p q zero core = q
idle_or P bound p q (suc count) zero = p
idle_or P bound p q (suc count) (suc core) = idle_or P bound p q count core

sound_begin : (cores words bound : ℕ) → Sound bound (begin cores words bound)
sound_begin cores words bound = (
  [],
  record {
    legal = record {
      parts = idle_or (λ k. [] ≡ entries_of k) bound refl refl cores;
      numbers = λ word. tt;
    };
    numbers = λ word. add-zero (get_or (replicate words 0) word 0);
    met = idle_or IsMet bound refl refl cores;
    rooms = λ core h. ap (λ (k : CoreQueue). (k.lane).room) (get_or-replicate cores core (idle bound) no_core (omega (arith, length-replicate cores (idle bound))));
    words = refl;
  },
)

pub sound_reachable : (cores words bound : ℕ) (s : Protocol) → IsReachable cores words bound s → Sound bound s
sound_reachable cores words bound _ Begins = sound_begin cores words bound
sound_reachable cores words bound _ (Commits s core shape r e below) = sound_commit bound s core (sound_reachable cores words bound s r) shape e below
sound_reachable cores words bound _ (Acts s (Send core) r e) = sound_send bound s core (sound_reachable cores words bound s r) e
sound_reachable cores words bound _ (Acts s (Serve core) r e) = sound_serve bound s core (sound_reachable cores words bound s r) e
sound_reachable cores words bound _ (Acts s (Reply core) r e) = sound_reply bound s core (sound_reachable cores words bound s r) e
sound_reachable cores words bound _ (Acts s (Resume core) r e) = sound_resume bound s core (sound_reachable cores words bound s r) e
