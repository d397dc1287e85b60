-- Proof form: the rule of a lane's queue, over what the queue holds and what each token knows (this project's own).
use Rattle.std.specs.Prelude.{◌≡◌, ℕ, ◌+◌, ◌^◌, ◌≤◌, Bool, true, false, List, [], ◌∷◌, ◌++◌, length}
use Rattle.std.specs.List.{All}
use mathlib.Core.Option.{some}
use lib.ListN.{get_elem?}
use Rattle.record_lane.specs.declared.lane_rule.Side.{Side}
use Rattle.record_lane.specs.Histories.{IsPrefix}

module _ {T : Type 0} where
  abbrev pub side : Bool → Bool → List T → List T → List T → ℕ → ℕ → ℕ → ℕ → Side T
  side sends takes sent taken seen gone words top bound =
      record { sends = sends; takes = takes; sent = sent; taken = taken; seen = seen; gone = gone; words = words; top = top; bound = bound }

  -- the sender's and the taker's part of a side, which get the lane's numbers
  abbrev pub sender_side : Side T → ℕ → ℕ → ℕ → Side T
  sender_side v words top bound = side true false v.sent [] [] v.gone words top bound

  abbrev pub taker_side : Side T → ℕ → ℕ → ℕ → Side T
  taker_side v words top bound = side false true [] v.taken v.seen 0 words top bound

  -- both in one, and what the second leaves
  abbrev pub whole_side : Side T → Side T → Side T
  whole_side v w = side true true v.sent w.taken w.seen v.gone v.words v.top v.bound

  abbrev pub spent_side : Side T
  spent_side = side false false [] [] [] 0 0 0 0

  abbrev pub HasNumbers : Side T → ℕ → ℕ → ℕ → Type 0
  HasNumbers v words top bound = (v.words ≡ words) × (v.top ≡ top) × (v.bound ≡ bound)

  -- a side that sends has the list of what was sent, and one that takes the list of what was taken; there is one of each
  pub record IsSending (writer : ℕ) (sent taken : List T) (words top bound port : ℕ) (v : Side T) : Type 0 where
    pub seat : port ≡ writer
    pub list : v.sent ≡ sent
    pub gone : v.gone ≤ length taken
    pub numbers : HasNumbers v words top bound

  pub record IsTaking (reader : ℕ) (sent taken : List T) (words top bound port : ℕ) (v : Side T) : Type 0 where
    pub seat : port ≡ reader
    pub list : v.taken ≡ taken
    pub seen : IsPrefix v.seen sent
    pub numbers : HasNumbers v words top bound

  abbrev pub IsSideOf : ℕ → ℕ → List T → List T → ℕ → ℕ → ℕ → ℕ → Side T → Type 0
  IsSideOf writer reader sent taken words top bound port v =
      (v.sends ≡ true → IsSending writer sent taken words top bound port v) × (v.takes ≡ true → IsTaking reader sent taken words top bound port v)

  -- the rule
  pub record IsLaneState (sound : ℕ → ℕ → T → Type 0) (items : List T) (views : List (Side T)) : Type 0 where
    pub writer : ℕ
    pub reader : ℕ
    pub sent : List T
    pub taken : List T
    pub words : ℕ
    pub top : ℕ
    pub bound : ℕ
    pub whole : sent ≡ taken ++ items
    pub each : All (sound words top) items
    pub room : length items ≤ bound
    pub short : length sent ≤ 2 ^ 61
    pub sides : (port : ℕ) (v : Side T) → get_elem? views port ≡ some v → IsSideOf writer reader sent taken words top bound port v

  -- a push adds the item to what was sent, and fewer than the bound were in between
  abbrev pub IsSend : Side T → T → Side T → Type 0
  IsSend v x w =
      (w ≡ side v.sends v.takes (v.sent ++ x ∷ []) v.taken v.seen w.gone v.words v.top v.bound)
      × (length (v.sent ++ x ∷ []) ≤ w.gone + v.bound)

  -- a pop adds the item to what was taken, which what was sent begins with
  abbrev pub IsTake : (ℕ → ℕ → T → Type 0) → Side T → T → Side T → Type 0
  IsTake sound v x w =
      (w ≡ side v.sends v.takes v.sent (v.taken ++ x ∷ []) w.seen v.gone v.words v.top v.bound)
      × sound v.words v.top x
      × (length (v.taken ++ x ∷ []) ≤ 2 ^ 61)
      × IsPrefix (v.taken ++ x ∷ []) w.seen
      × (v.sends ≡ true → w.seen ≡ v.sent)

  -- what the queue holds follows some list of taken items, no shorter than when this side last sent
  abbrev pub FollowsSent : Side T → List T → Type 0
  FollowsSent v items = (taken : List T) × (v.sent ≡ taken ++ items) × (v.gone ≤ length taken)

  -- what the queue holds follows this side's taken items in some list of sent items, which begins with that of its last take
  abbrev pub FollowsTaken : Side T → List T → Type 0
  FollowsTaken v items = (sent : List T) × (sent ≡ v.taken ++ items) × IsPrefix v.seen sent × (v.sends ≡ true → v.sent ≡ sent)

  -- what the queue holds is the rest
  abbrev pub HoldsRest : Side T → List T → Type 0
  HoldsRest v items = (v.sent ≡ v.taken ++ items) × (length items ≤ v.bound)
