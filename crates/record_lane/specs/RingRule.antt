-- Proof form: the rule of a ring's table, over its words, its slots and what each token knows (this project's own).
use Rattle.std.specs.Prelude.{◌≡◌, ℕ, ◌+◌, ◌%◌, ◌^◌, ◌<◌, ◌≤◌, Bool, true, false, List, [], ◌∷◌, ◌++◌, length, Option, Some, None}
use Rattle.std.specs.List.{All}
use mathlib.Core.Option.{Option as Maybe, some}
use lib.ListN.{get_elem?}
use Rattle.atomic_table.specs.Table.{State, Me, Step}
use Rattle.atomic_table.specs.Seated.{TableId}
use Rattle.record_lane.specs.declared.ring_rule.End.{End}
use Rattle.record_lane.specs.declared.ring_rule.Limits.{Limits}
use Rattle.record_lane.specs.Histories.{IsPrefix}

-- the words of a table: the tail, and the head in another cache line
abbrev pub ring_words : ℕ → ℕ → List ℕ
ring_words tail head = tail ∷ 0 ∷ 0 ∷ 0 ∷ 0 ∷ 0 ∷ 0 ∷ 0 ∷ 0 ∷ 0 ∷ 0 ∷ 0 ∷ 0 ∷ 0 ∷ 0 ∷ 0 ∷ head ∷ []

-- a table of these numbers, with as many slots as the bound
pub record IsRingTable (table : TableId) (limits : Limits) (bound : ℕ) : Type 0 where
  pub words : table.words ≡ 17
  pub slots : table.slots ≡ limits.bound
  pub some_slot : 0 < limits.bound
  pub bounded : limits.bound ≡ bound

module _ {T : Type 0} where
  abbrev pub ring_end : Bool → Bool → List T → List T → List T → ℕ → ℕ → ℕ → ℕ → End T
  ring_end sends takes sent taken seen gone looks words top =
      record { sends = sends; takes = takes; sent = sent; taken = taken; puts = false; gets = None; seen = seen; gone = gone; looks = looks; words = words; top = top }

  -- the first end, which sends and takes
  abbrev pub whole_end : ℕ → ℕ → End T
  whole_end words top = ring_end true true [] [] [] 0 0 words top

  -- the sender's and the taker's part of an end
  abbrev pub sender_end : End T → End T
  sender_end v = record v { takes = false; taken = []; gets = None; seen = [] }

  abbrev pub taker_end : End T → End T
  taker_end v = record v { sends = false; sent = []; puts = false; gone = 0 }

  -- both in one, and what the second leaves
  abbrev pub joined_end : End T → End T → End T
  joined_end v w = record v { takes = true; taken = w.taken; gets = w.gets; seen = w.seen }

  abbrev pub spent_end : End T
  spent_end = ring_end false false [] [] [] 0 0 0 0

  -- an end after a look at the head, after its raise of the tail, after a look at the tail and after its raise of the head
  abbrev pub at_head : End T → Bool → ℕ → End T
  at_head v puts found = record v { puts = puts; gone = found; looks = v.looks + 1 }

  abbrev pub put : End T → T → End T
  put v x = record v { sent = v.sent ++ x ∷ []; puts = false }

  abbrev pub at_tail : End T → Option T → List T → End T
  at_tail v gets seen = record v { gets = gets; seen = seen; looks = v.looks + 1 }

  abbrev pub got : End T → T → End T
  got v x = record v { taken = v.taken ++ x ∷ []; gets = None }

  -- an end that sends has the list of what was sent, and one that takes the list of what was taken; there is one of each
  pub record IsSendingEnd (writer : ℕ) (sent taken : List T) (puts : Bool) (words top port : ℕ) (v : End T) : Type 0 where
    pub seat : port ≡ writer
    pub list : v.sent ≡ sent
    pub slot : v.puts ≡ puts
    pub gone : v.gone ≤ length taken
    pub numbers : (v.words ≡ words) × (v.top ≡ top)

  pub record IsTakingEnd (reader : ℕ) (sent taken : List T) (gets : Option T) (words top port : ℕ) (v : End T) : Type 0 where
    pub seat : port ≡ reader
    pub list : v.taken ≡ taken
    pub slot : v.gets ≡ gets
    pub seen : IsPrefix v.seen sent
    pub numbers : (v.words ≡ words) × (v.top ≡ top)

  abbrev pub IsEndOf : ℕ → ℕ → List T → List T → Bool → Option T → ℕ → ℕ → ℕ → End T → Type 0
  IsEndOf writer reader sent taken puts gets words top port v =
      (v.sends ≡ true → IsSendingEnd writer sent taken puts words top port v) × (v.takes ≡ true → IsTakingEnd reader sent taken gets words top port v)

  -- the slots: from the head on each place has its item, unless the taker has its slot; from the tail on each is free, unless the sender has its slot
  pub record HasSlots (n : ℕ) (homes : List (Maybe (Option T))) (sent taken : List T) (puts : Bool) (gets : Option T) : Type 0 where
    pub full : (place : ℕ) (x : T) → length taken ≤ place → get_elem? sent place ≡ some x → (place ≡ length taken → gets ≡ None) → get_elem? homes (place % n) ≡ some (some (Some x))
    pub free : (place : ℕ) → length sent ≤ place → place < length taken + n → (place ≡ length sent → puts ≡ false) → get_elem? homes (place % n) ≡ some (some None)

  -- the rule
  pub record IsRingState (sound : ℕ → ℕ → T → Type 0) (words top n : ℕ) (s : State (Option T) (End T)) : Type 0 where
    pub writer : ℕ
    pub reader : ℕ
    pub sent : List T
    pub taken : List T
    pub held : List T
    pub puts : Bool
    pub gets : Option T
    pub counts : s.words ≡ ring_words (length sent) (length taken)
    pub whole : sent ≡ taken ++ held
    pub each : All (sound words top) held
    pub room : length held ≤ n
    pub short : length sent ≤ 2 ^ 61
    pub slots : HasSlots n s.homes sent taken puts gets
    pub putting : puts ≡ true → length held < n
    pub getting : (x : T) → gets ≡ Some x → (more : List T) × (held ≡ x ∷ more)
    pub ends : (port : ℕ) (v : End T) → get_elem? s.views port ≡ some v → IsEndOf writer reader sent taken puts gets words top port v

  -- the sender has the next slot, and fewer items than slots were in between
  abbrev pub IsClaim : ℕ → Me (Option T) (End T) → Me (Option T) (End T) → Type 0
  IsClaim n me after =
      (after ≡ (at_head me.0 true after.0.gone, (length me.0.sent % n, None) ∷ []))
      × (length me.0.sent < after.0.gone + n)

  -- the sender found the head here, and has the next slot exactly where there was room
  abbrev pub SawHead : Step (Option T) → Me (Option T) (End T) → ℕ → Me (Option T) (End T) → Type 0
  SawHead st me found after =
      (length me.0.sent < found + st.slots → IsClaim st.slots me after)
      × (found + st.slots ≤ length me.0.sent → (after ≡ (at_head me.0 false found, [])) × (length me.0.sent ≡ found + st.slots))
      × (found ≡ after.0.gone)
      × (me.0.gone ≤ found)
      × (found ≤ length me.0.sent)

  -- the sender, which knows of room, has the next slot
  abbrev pub SawRoom : Step (Option T) → Me (Option T) (End T) → ℕ → Me (Option T) (End T) → Type 0
  SawRoom st me found after = IsClaim st.slots me after × (me.0.gone ≤ after.0.gone)

  -- the item of the slot that it gave back is sent
  abbrev pub RaisedTail : Step (Option T) → Me (Option T) (End T) → ℕ → Me (Option T) (End T) → Type 0
  RaisedTail st me found after = (slot : ℕ) (x : T) → me.1 ≡ (slot, Some x) ∷ [] → after ≡ (put me.0 x, [])

  -- the taker has the slot of the next item
  pub record FoundItem (sound : ℕ → ℕ → T → Type 0) (n : ℕ) (me : Me (Option T) (End T)) (x : T) (after : Me (Option T) (End T)) : Type 0 where
    pub seat : after ≡ (at_tail me.0 (Some x) after.0.seen, (length me.0.taken % n, Some x) ∷ [])
    pub good : sound me.0.words me.0.top x
    pub short : length (me.0.taken ++ x ∷ []) ≤ 2 ^ 61
    pub seen : IsPrefix (me.0.taken ++ x ∷ []) after.0.seen
    pub all : me.0.sends ≡ true → after.0.seen ≡ me.0.sent

  abbrev pub HasItem : (ℕ → ℕ → T → Type 0) → ℕ → Me (Option T) (End T) → Me (Option T) (End T) → Type 0
  HasItem sound n me after = (x : T) × FoundItem sound n me x after

  -- the taker found the tail here: what was sent is what it has taken, or it has the slot of the next item
  abbrev pub SawTail : (ℕ → ℕ → T → Type 0) → Step (Option T) → Me (Option T) (End T) → ℕ → Me (Option T) (End T) → Type 0
  SawTail sound st me found after =
      (found ≤ length me.0.taken → (after ≡ (at_tail me.0 None me.0.taken, [])) × (me.0.sends ≡ true → me.0.sent ≡ me.0.taken))
      × (length me.0.taken < found → HasItem sound st.slots me after)
      × (found ≡ length after.0.seen)

  -- the taker, which knows of an item, has its slot
  abbrev pub SawItem : (ℕ → ℕ → T → Type 0) → Step (Option T) → Me (Option T) (End T) → ℕ → Me (Option T) (End T) → Type 0
  SawItem sound st me found after = HasItem sound st.slots me after × (length me.0.seen ≤ length after.0.seen)

  -- the item whose slot it gave back is taken
  abbrev pub RaisedHead : Step (Option T) → Me (Option T) (End T) → ℕ → Me (Option T) (End T) → Type 0
  RaisedHead st me found after = (x : T) → me.0.gets ≡ Some x → after ≡ (got me.0 x, [])

  -- a take in all: one look, and the item is taken
  pub record IsRingTake (sound : ℕ → ℕ → T → Type 0) (v : End T) (x : T) (w : End T) : Type 0 where
    pub after : w ≡ got (at_tail v None w.seen) x
    pub good : sound v.words v.top x
    pub short : length (v.taken ++ x ∷ []) ≤ 2 ^ 61
    pub seen : IsPrefix (v.taken ++ x ∷ []) w.seen
    pub all : v.sends ≡ true → w.seen ≡ v.sent

  -- a take that found none: one look, and what was sent is what was taken
  pub record IsRingEmpty (v w : End T) : Type 0 where
    pub after : w ≡ at_tail v None v.taken
    pub all : v.sends ≡ true → v.sent ≡ v.taken

  -- a send in all, and one that found no room
  pub record IsRingSend (n : ℕ) (v : End T) (x : T) (w : End T) : Type 0 where
    pub after : w ≡ put (at_head v false w.gone) x
    pub room : length (v.sent ++ x ∷ []) ≤ w.gone + n

  pub record IsRingFull (n : ℕ) (v w : End T) : Type 0 where
    pub after : w ≡ at_head v false w.gone
    pub full : length v.sent ≡ w.gone + n
    pub later : v.gone ≤ w.gone

  -- an end that sends and takes
  abbrev pub IsWhole : End T → Type 0
  IsWhole v = (v.sends ≡ true) × (v.takes ≡ true) × (v.gets ≡ None)

  -- what was sent and not taken is no more than there are slots
  abbrev pub SawAll : Step (Option T) → Me (Option T) (End T) → ℕ → Me (Option T) (End T) → Type 0
  SawAll st me found after = (after ≡ me) × ((held : List T) × (me.0.sent ≡ me.0.taken ++ held) × (length held ≤ st.slots))
