-- Where no move is enabled, every core is at rest: the record that was committed first can always move.
use Rattle.std.proofs.Common.{◌≡◌, ◌⊎◌, ◌↔◌, ℕ, zero, suc, ◌<◌, ◌≤◌, ◌&&◌, not, nat_lt, List, [], ◌∷◌, ◌++◌, length, map, cond, Bool, true, false, Option, Some, None, option_to_list, is_none, is_some, slice_get, find, IsTrue, refl, sym, ap, subst, ◌∙◌, inl, inr, arith, length-set, lt-ltb}
use Rattle.std.specs.Option.{option_map_or}
use Rattle.std.proofs.lemmas.Bool.{cases_eq}
use Rattle.std.proofs.lemmas.List.{get_or_past, length-replicate}
use Rattle.order_core.specs.declared.entry.Entry.{Entry}
use Rattle.order_core.specs.declared.shape.Shape.{Shape}
use Rattle.order_core.specs.declared.shape.Shape.TheVariants.{Quiet, Touch, Meet, End}
use Rattle.order_core.specs.declared.shape.Move.{Move}
use Rattle.order_core.specs.declared.shape.Move.TheVariants.{Send, Serve, Reply, Resume}
use Rattle.order_core.specs.declared.shape.Queued.{Queued}
use Rattle.order_core.specs.declared.shape.CoreQueue.{CoreQueue}
use Rattle.order_core.specs.Marked.{Marked}
use Rattle.order_core.specs.CanonicalMerge.{is_ready}
use Rattle.order_core.specs.Places.{reached_at}
use Rattle.order_core.specs.WordBelow.{IsWordBelow}
use Rattle.order_core.specs.Protocol.{idle, no_core, first_of, shape_is_next, is_meet, Protocol, begin, core_at, can_commit, commit, can_act, act, moves_of, moves_below, some_move, IsAtRest, IsAllAtRest, IsSettled}
use Rattle.order_core.specs.Reachable.{IsReachable, Begins, Commits, Acts, IsProtocol}
use Rattle.order_core.proofs.LegalLemmas.{legal_first}
use Rattle.order_core.proofs.Queue.{touch_of, entry_of, pending, entries_of, one_if, meets, left_of, IsSound}
use Rattle.order_core.proofs.Steps.{Sound, sound_reachable}

-- ---- the search for a move

-- no move of the core is enabled
pub record IsStill (s : Protocol) (core : ℕ) : Type 0 where
  pub no_resume : can_act s (Resume core) ≡ false
  pub no_reply : can_act s (Reply core) ≡ false
  pub no_serve : can_act s (Serve core) ≡ false
  pub no_send : can_act s (Send core) ≡ false

module _ {A : Type 0} (test : A → Bool) where
  find_append_none : (xs ys : List A) → find test (xs ++ ys) ≡ None → (find test xs ≡ None) × (find test ys ≡ None)
  find_append_none [] ys e = (refl, e)
  find_append_none (x ∷ xs) ys e = go (test x) refl e (find_append_none xs ys)
    where
      go : (b : Bool) → test x ≡ b → cond b (Some x) (find test (xs ++ ys)) ≡ None → (find test (xs ++ ys) ≡ None → (find test xs ≡ None) × (find test ys ≡ None)) → (cond (test x) (Some x) (find test xs) ≡ None) × (find test ys ≡ None)
      go true b e rest = cc
      go false b e rest = let r = rest e in (ap (λ (t : Bool). cond t (Some x) (find test xs)) b ∙ r.0, r.1)

  pub find_none_append : (xs ys : List A) → find test xs ≡ None → find test (xs ++ ys) ≡ find test ys
  find_none_append [] ys e = refl
  find_none_append (x ∷ xs) ys e = go (test x) refl e (find_none_append xs ys)
    where
      go : (b : Bool) → test x ≡ b → cond b (Some x) (find test xs) ≡ None → (find test xs ≡ None → find test (xs ++ ys) ≡ find test ys) → cond (test x) (Some x) (find test (xs ++ ys)) ≡ find test ys
      go true b e rest = cc
      go false b e rest = ap (λ (t : Bool). cond t (Some x) (find test (xs ++ ys))) b ∙ rest e

  pub find_some_append : (xs ys : List A) (x : A) → find test xs ≡ Some x → find test (xs ++ ys) ≡ Some x
  find_some_append [] ys x e = cc
  find_some_append (y ∷ xs) ys x e = go (test y) refl e (find_some_append xs ys x)
    where
      go : (b : Bool) → test y ≡ b → cond b (Some y) (find test xs) ≡ Some x → (find test xs ≡ Some x → find test (xs ++ ys) ≡ Some x) → cond (test y) (Some y) (find test (xs ++ ys)) ≡ Some x
      go true b e rest = ap (λ (t : Bool). cond t (Some y) (find test (xs ++ ys))) b ∙ e
      go false b e rest = ap (λ (t : Bool). cond t (Some y) (find test (xs ++ ys))) b ∙ rest e

  find_tail : (x : A) (xs : List A) → find test (x ∷ xs) ≡ None → (test x ≡ false) × (find test xs ≡ None)
  find_tail x xs e = go (test x) refl e
    where
      go : (b : Bool) → test x ≡ b → cond b (Some x) (find test xs) ≡ None → (test x ≡ false) × (find test xs ≡ None)
      go true b e = cc
      go false b e = (b, e)

skip : {A : Type 0} (b : Bool) (x : A) (rest : Option A) → b ≡ false → cond b (Some x) rest ≡ rest
skip true x rest e = cc
skip false x rest e = refl

module _ (s : Protocol) where
  still_none : (core : ℕ) → find (can_act s) (moves_of core) ≡ None → IsStill s core
  still_none core e =
      let resume = find_tail (can_act s) (Resume core) (Reply core ∷ Serve core ∷ Send core ∷ []) e in
      let reply = find_tail (can_act s) (Reply core) (Serve core ∷ Send core ∷ []) resume.1 in
      let serve = find_tail (can_act s) (Serve core) (Send core ∷ []) reply.1 in
      let send = find_tail (can_act s) (Send core) [] serve.1 in
      record {
        no_resume = resume.0;
        no_reply = reply.0;
        no_serve = serve.0;
        no_send = send.0;
      }

  none_still : (core : ℕ) → IsStill s core → find (can_act s) (moves_of core) ≡ None
  none_still core h =
      skip (can_act s (Resume core)) (Resume core) (find (can_act s) (Reply core ∷ Serve core ∷ Send core ∷ [])) h.no_resume ∙ skip (can_act s (Reply core)) (Reply core) (find (can_act s) (Serve core ∷ Send core ∷ [])) h.no_reply
      ∙ skip (can_act s (Serve core)) (Serve core) (find (can_act s) (Send core ∷ [])) h.no_serve ∙ skip (can_act s (Send core)) (Send core) None h.no_send

  still_below : (count : ℕ) → find (can_act s) (moves_below count) ≡ None → (core : ℕ) → core < count → IsStill s core
  still_below zero e core h = absurd (omega arith)
  still_below (suc count) e core h = go (cases_eq core count) (still_below count)
    where
      both : (find (can_act s) (moves_below count) ≡ None) × (find (can_act s) (moves_of count) ≡ None)
      both = find_append_none (can_act s) (moves_below count) (moves_of count) e

      go : (core ≡ count) ⊎ (core ≡ count → ⊥) → (find (can_act s) (moves_below count) ≡ None → (core : ℕ) → core < count → IsStill s core) → IsStill s core
      go (inl same) rest = let P : ℕ → Type 0 = IsStill s in subst P (sym same) (still_none count both.1)
      go (inr apart) rest = rest both.0 core (omega arith)

  all_still_none : ((core : ℕ) → IsStill s core) → (count : ℕ) → find (can_act s) (moves_below count) ≡ None
  all_still_none h zero = refl
  all_still_none h (suc count) = find_none_append (can_act s) (moves_below count) (moves_of count) (all_still_none h count) ∙ none_still count (h count)

-- ---- at rest

no_core_rests : IsAtRest no_core
no_core_rests = record {
  nothing_unsent = refl;
  lane_empty = refl;
  no_meeting = refl;
}

-- the queue's first record is of a core that can move
module _ (s : Protocol) (bound : ℕ) (positive : 0 < bound) (sound : Sound bound s) (still : (core : ℕ) → core < length s.cores → IsStill s core) where
  shape_moves : (core : ℕ) → IsStill s core → (queued : Queued) (lane : List Queued) → ((core_at s core).lane).items ≡ queued ∷ lane → (shape : Shape) → queued.shape ≡ shape
      → is_ready (reached_at s.served) (entries_of (core_at s core)) ≡ true → ⊥
  shape_moves core h queued lane e shape t ready = go shape t (ap (λ (entries : List Entry). is_ready (reached_at s.served) entries) (sym entries_is) ∙ ready)
    where
      entries_is : entries_of (core_at s core) ≡ entry_of queued ∷ map entry_of (lane ++ option_to_list (core_at s core).unsent)
      entries_is = ap (λ (items : List Queued). map entry_of (items ++ option_to_list (core_at s core).unsent)) e

      first : first_of (core_at s core) ≡ Some queued
      first = ap (λ (items : List Queued). slice_get items 0) e

      serves : shape_is_next s.served queued.number queued.shape ≡ true → ⊥
      serves n = cc (sym h.no_serve ∙ ap (λ (o : Option Queued). option_map_or (λ (q : Queued). shape_is_next s.served q.number q.shape) o false) first ∙ n)

      go : (shape : Shape) → queued.shape ≡ shape → is_ready (reached_at s.served) (entry_of queued ∷ map entry_of (lane ++ option_to_list (core_at s core).unsent)) ≡ true → ⊥
      go Quiet t r = serves (ap (shape_is_next s.served queued.number) t)
      go End t r = serves (ap (shape_is_next s.served queued.number) t)
      go (Touch word) t r =
          serves (ap (shape_is_next s.served queued.number) t ∙ sym (ap (λ (shape : Shape). is_ready (reached_at s.served) (record { touch = touch_of shape queued.number } ∷ map entry_of (lane ++ option_to_list (core_at s core).unsent))) t) ∙ r)
      go Meet t r =
          let meet : option_map_or (λ (q : Queued). is_meet q.shape) (first_of (core_at s core)) false ≡ true = ap (λ (o : Option Queued). option_map_or (λ (q : Queued). is_meet q.shape) o false) first ∙ ap is_meet t in
          cc (sym h.no_reply ∙ ap (λ (b : Bool). b && not (core_at s core).reply) meet ∙ ap not h.no_resume)

  sends : (core : ℕ) → core < length s.cores → IsStill s core → (lane : List Queued) → ((core_at s core).lane).items ≡ lane → is_ready (reached_at s.served) (entries_of (core_at s core)) ≡ true → ⊥
  sends core lt h (queued ∷ lane) e ready = shape_moves core h queued lane e queued.shape refl ready
  sends core lt h [] e ready = go (core_at s core).unsent refl
    where
      go : (unsent : Option Queued) → (core_at s core).unsent ≡ unsent → ⊥
      go None u =
          let none : entries_of (core_at s core) ≡ [] = ap (λ (items : List Queued). map entry_of (items ++ option_to_list (core_at s core).unsent)) e ∙ ap (λ (o : Option Queued). map entry_of (option_to_list o)) u in
          cc (sym ready ∙ ap (is_ready (reached_at s.served)) none)
      go (Some queued) u =
          let room = (sound.1).rooms core lt in
          let shorter : length ((core_at s core).lane).items < ((core_at s core).lane).room = omega (arith, ap length e, room) in
          cc (sym h.no_send ∙ ap (λ (b : Bool). b && nat_lt (length ((core_at s core).lane).items) ((core_at s core).lane).room) (ap is_some u) ∙ lt-ltb (length ((core_at s core).lane).items) ((core_at s core).lane).room shorter)

  le_or_gt : (a b : ℕ) → (a ≤ b) ⊎ (b < a)
  le_or_gt a b = grind arith

  queue_empty : (queue : List Marked) → IsSound bound s.cores s.drawn s.served queue → (core : ℕ) → left_of s.cores core ≡ []
  queue_empty [] sound core = sym ((sound.legal).parts core)
  queue_empty (m ∷ queue) sound core = absurd (go (le_or_gt (length s.cores) m.0))
    where
      ready : is_ready (reached_at s.served) (entries_of (core_at s m.0)) ≡ true
      ready = legal_first (left_of s.cores) (reached_at s.served) m queue sound.legal

      go : (length s.cores ≤ m.0) ⊎ (m.0 < length s.cores) → ⊥
      go (inl past) = cc (sym ready ∙ ap (λ (k : CoreQueue). is_ready (reached_at s.served) (entries_of k)) (get_or_past s.cores m.0 no_core past))
      go (inr lt) = sends m.0 lt (still m.0 lt) ((core_at s m.0).lane).items refl ready

  -- nothing is on its way
  empty_lane : (lane : List Queued) (unsent : Option Queued) → map entry_of (lane ++ option_to_list unsent) ≡ [] → (unsent ≡ None) × (lane ≡ [])
  empty_lane [] None e = (refl, refl)
  empty_lane [] (Some x) e = cc
  empty_lane (x ∷ lane) unsent e = cc

  none_met : (meeting : Bool) → one_if meeting ≡ 0 → meeting ≡ false
  none_met true e = absurd (omega arith)
  none_met false e = refl

  rests : (core : ℕ) → IsAtRest (core_at s core)
  rests core = go (le_or_gt (length s.cores) core)
    where
      go : (length s.cores ≤ core) ⊎ (core < length s.cores) → IsAtRest (core_at s core)
      go (inl past) = let P : CoreQueue → Type 0 = IsAtRest in subst P (sym (get_or_past s.cores core no_core past)) no_core_rests
      go (inr lt) =
          let empty = empty_lane ((core_at s core).lane).items (core_at s core).unsent (queue_empty sound.0 sound.1 core) in
          let none : meets (pending (core_at s core)) ≡ 0 = ap (λ (items : List Queued). meets (items ++ option_to_list (core_at s core).unsent)) empty.1 ∙ ap (λ (o : Option Queued). meets (option_to_list o)) empty.0 in
          record {
            nothing_unsent = empty.0;
            lane_empty = empty.1;
            no_meeting = none_met (core_at s core).meeting (omega (arith, (sound.1).met core, none, ap one_if (still core lt).no_resume));
          }

-- a core at rest can not move, since a reply is there only at a meeting
still_rests : (s : Protocol) (bound : ℕ) → Sound bound s → (core : ℕ) → IsAtRest (core_at s core) → IsStill s core
still_rests s bound sound core h =
    let first : first_of (core_at s core) ≡ None = ap (λ (items : List Queued). slice_get items 0) h.lane_empty in
    record {
      no_resume = no_reply (core_at s core).reply (omega (arith, (sound.1).met core, ap one_if h.no_meeting));
      no_reply = ap (λ (o : Option Queued). option_map_or (λ (q : Queued). is_meet q.shape) o false && not (core_at s core).reply) first;
      no_serve = ap (λ (o : Option Queued). option_map_or (λ (q : Queued). shape_is_next s.served q.number q.shape) o false) first;
      no_send = ap (λ (o : Option Queued). is_some o && nat_lt (length ((core_at s core).lane).items) ((core_at s core).lane).room) h.nothing_unsent;
    }
  where
    no_reply : (reply : Bool) → one_if reply ≡ 0 → reply ≡ false
    no_reply true e = absurd (omega arith)
    no_reply false e = refl

pub sound_protocol : (s : Protocol) → (p : IsProtocol s) → Sound p.bound s
sound_protocol s p = sound_reachable p.cores p.words p.bound s p.reached

pub none_rest : (s : Protocol) → IsProtocol s → (some_move s ≡ None) ↔ IsAllAtRest s
none_rest s p = (
  λ e. rests s p.bound p.positive (sound_protocol s p) (still_below s (length s.cores) e),
  λ h. all_still_none s (λ core. still_rests s p.bound (sound_protocol s p) core (h core)) (length s.cores),
)

pub none_settled : (s : Protocol) → IsProtocol s → some_move s ≡ None → IsSettled s
none_settled s p e core = go (core_at s core).ended refl ((none_rest s p).0 e core)
  where
    go : (ended : Bool) → (core_at s core).ended ≡ ended → IsAtRest (core_at s core) → IsTrue (can_commit s core) ⊎ (((core_at s core).ended ≡ true) × IsAtRest (core_at s core))
    go true t h = inr (t, h)
    go false t h =
        inl (ap (λ (o : Option Queued). is_none o && not (core_at s core).meeting && not (core_at s core).ended) h.nothing_unsent ∙ ap (λ (b : Bool). not b && not (core_at s core).ended) h.no_meeting ∙ ap not t)

-- ---- reachable states have the cores that they began with

pub length_reachable : (cores words bound : ℕ) (s : Protocol) → IsReachable cores words bound s → length s.cores ≡ cores
length_reachable cores words bound _ Begins = length-replicate cores (idle bound)
length_reachable cores words bound _ (Commits s core shape r e below) = length-set s.cores core _ ∙ length_reachable cores words bound s r
length_reachable cores words bound _ (Acts s (Send core) r e) = length-set s.cores core _ ∙ length_reachable cores words bound s r
length_reachable cores words bound _ (Acts s (Serve core) r e) = length-set s.cores core _ ∙ length_reachable cores words bound s r
length_reachable cores words bound _ (Acts s (Reply core) r e) = length-set s.cores core _ ∙ length_reachable cores words bound s r
length_reachable cores words bound _ (Acts s (Resume core) r e) = length-set s.cores core _ ∙ length_reachable cores words bound s r

-- ---- the steps lead from reachable states to reachable states

pub protocol_begin : (cores words bound : ℕ) → cores < 256 → 0 < bound → IsProtocol (begin cores words bound)
protocol_begin cores words bound few positive = record {
  cores = cores;
  words = words;
  bound = bound;
  few = few;
  positive = positive;
  reached = Begins;
}

pub protocol_commit : (s : Protocol) (core : ℕ) (shape : Shape) → IsProtocol s → can_commit s core ≡ true → IsWordBelow (length s.drawn) shape → IsProtocol (commit s core shape)
protocol_commit s core shape p e below = record {
  cores = p.cores;
  words = p.words;
  bound = p.bound;
  few = p.few;
  positive = p.positive;
  reached = Commits s core shape p.reached e below;
}

pub protocol_act : (s : Protocol) (step : Move) → IsProtocol s → can_act s step ≡ true → IsProtocol (act s step)
protocol_act s step p e = record {
  cores = p.cores;
  words = p.words;
  bound = p.bound;
  few = p.few;
  positive = p.positive;
  reached = Acts s step p.reached e;
}

pub protocol_few : (s : Protocol) → IsProtocol s → length s.cores < 256
protocol_few s p = omega (arith, length_reachable p.cores p.words p.bound s p.reached, p.few)
