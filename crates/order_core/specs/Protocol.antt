-- The protocol machine of cores, lanes and service. A core commits records; each goes to the end of the core's lane, and
-- is taken from its front and served: an access when its word's turn has come to the number that it drew. At a meeting
-- a core waits until its record has come to the front and the reply is taken up.
use Rattle.std.specs.Prelude.{◌≡◌, ℕ, ◌+◌, ◌&&◌, ◌==◌, not, nat_lt, Bool, true, false, List, [], ◌∷◌, ◌++◌, length, drop, replicate, slice_get, slice_index, slice_index_or, slice_set, Option, Some, None, is_some, is_none, option_to_list, IsTrue, ◌⊎◌, zero, suc, find}
use Rattle.std.specs.Option.{option_map_or}
use Rattle.order_core.specs.declared.shape.Shape.{Shape}
use Rattle.order_core.specs.declared.shape.Shape.TheVariants.{Quiet, Touch, Meet, End}
use Rattle.order_core.specs.declared.shape.Move.{Move}
use Rattle.order_core.specs.declared.shape.Move.TheVariants.{Send, Serve, Reply, Resume}
use Rattle.order_core.specs.declared.shape.Queued.{Queued}
use Rattle.order_core.specs.WordBelow.{IsWordBelow}
use Rattle.order_core.specs.declared.shape.CoreQueue.{CoreQueue}

-- ---- one core

-- a core with nothing committed, and a lane for `bound` records
abbrev pub idle : ℕ → CoreQueue
idle bound = record { unsent = None; meeting = false; ended = false; lane = record { items = []; room = bound }; reply = false }

-- what stands for a core that is not there
abbrev pub no_core : CoreQueue
no_core = record { unsent = None; meeting = false; ended = true; lane = record { items = []; room = 0 }; reply = false }

abbrev pub is_free : CoreQueue → Bool
is_free core = is_none core.unsent && not core.meeting && not core.ended

abbrev pub can_send : CoreQueue → Bool
can_send core = is_some core.unsent && nat_lt (length (core.lane).items) (core.lane).room

abbrev pub first_of : CoreQueue → Option Queued
first_of core = slice_get (core.lane).items 0

-- an access is next where it has the number that its word's service has reached
abbrev pub shape_is_next : List ℕ → ℕ → Shape → Bool
shape_is_next served number Quiet = true
shape_is_next served number (Touch word) = number == slice_index served word
shape_is_next served number Meet = false
shape_is_next served number End = true

abbrev pub can_serve : List ℕ → CoreQueue → Bool
can_serve served core = option_map_or (λ queued. shape_is_next served queued.number queued.shape) (first_of core) false

abbrev pub is_meet : Shape → Bool
is_meet Quiet = false
is_meet (Touch word) = false
is_meet Meet = true
is_meet End = false

abbrev pub can_reply : CoreQueue → Bool
can_reply core = option_map_or (λ queued. is_meet queued.shape) (first_of core) false && not core.reply

abbrev pub marked_by : CoreQueue → Shape → CoreQueue
marked_by core Quiet = core
marked_by core (Touch word) = core
marked_by core Meet = record core { meeting = true }
marked_by core End = record core { ended = true }

abbrev pub committed : CoreQueue → Shape → ℕ → CoreQueue
committed core shape number = marked_by (record core { unsent = Some (record { shape = shape; number = number }) }) shape

abbrev pub sent : CoreQueue → CoreQueue
sent core = record core { unsent = None; lane = record core.lane { items = (core.lane).items ++ option_to_list core.unsent } }

abbrev pub without_first : CoreQueue → CoreQueue
without_first core = record core { lane = record core.lane { items = drop 1 (core.lane).items } }

abbrev pub replied : CoreQueue → CoreQueue
replied core = record core { lane = record core.lane { items = drop 1 (core.lane).items }; reply = true }

abbrev pub set_going : CoreQueue → CoreQueue
set_going core = record core { reply = false; meeting = false }

-- ---- all cores

-- the cores, how many numbers each word has given out, and how many of them were served
pub record Protocol : Type 0 where
  pub cores : List CoreQueue
  pub drawn : List ℕ
  pub served : List ℕ

abbrev pub begin : ℕ → ℕ → ℕ → Protocol
begin cores words bound = record { cores = replicate cores (idle bound); drawn = replicate words 0; served = replicate words 0 }

abbrev pub core_at : Protocol → ℕ → CoreQueue
core_at s core = slice_index_or s.cores core no_core

abbrev pub change : Protocol → ℕ → CoreQueue → Protocol
change s core after = record s { cores = slice_set s.cores core after }

abbrev pub can_commit : Protocol → ℕ → Bool
can_commit s core = is_free (core_at s core)

-- the word of an access is one of the words
abbrev pub InRange : Protocol → Shape → Type 0
InRange s shape = IsWordBelow (length s.drawn) shape

-- the number that a shape draws
abbrev pub number_of : List ℕ → Shape → ℕ
number_of drawn Quiet = 0
number_of drawn (Touch word) = slice_index drawn word
number_of drawn Meet = 0
number_of drawn End = 0

-- counts in which the shape's word has one more
abbrev pub counted : List ℕ → Shape → List ℕ
counted counts Quiet = counts
counted counts (Touch word) = slice_set counts word (slice_index counts word + 1)
counted counts Meet = counts
counted counts End = counts

abbrev pub commit : Protocol → ℕ → Shape → Protocol
commit s core shape =
    record s { cores = slice_set s.cores core (committed (core_at s core) shape (number_of s.drawn shape)); drawn = counted s.drawn shape }

abbrev pub can_act : Protocol → Move → Bool
can_act s (Send core) = can_send (core_at s core)
can_act s (Serve core) = can_serve s.served (core_at s core)
can_act s (Reply core) = can_reply (core_at s core)
can_act s (Resume core) = (core_at s core).reply

abbrev pub served_after : List ℕ → Option Queued → List ℕ
served_after served None = served
served_after served (Some queued) = counted served queued.shape

abbrev pub act : Protocol → Move → Protocol
act s (Send core) = change s core (sent (core_at s core))
act s (Serve core) =
    record s { cores = slice_set s.cores core (without_first (core_at s core)); served = served_after s.served (first_of (core_at s core)) }
act s (Reply core) = change s core (replied (core_at s core))
act s (Resume core) = change s core (set_going (core_at s core))

-- ---- the first move

-- the moves of a core, in the order in which they are looked at
abbrev pub moves_of : ℕ → List Move
moves_of core = Resume core ∷ Reply core ∷ Serve core ∷ Send core ∷ []

-- the moves of the cores below a count, by core ascending
abbrev pub moves_below : ℕ → List Move
moves_below zero = []
moves_below (suc count) = moves_below count ++ moves_of count

-- the first that is enabled
abbrev pub some_move : Protocol → Option Move
some_move s = find (can_act s) (moves_below (length s.cores))

-- no record is unserved, and the core is at no meeting
pub record IsAtRest (core : CoreQueue) : Type 0 where
  pub nothing_unsent : core.unsent ≡ None
  pub lane_empty : (core.lane).items ≡ []
  pub no_meeting : core.meeting ≡ false

-- every core is at rest
abbrev pub IsAllAtRest : Protocol → Type 0
IsAllAtRest s = (core : ℕ) → IsAtRest (core_at s core)

-- every core can commit, or has ended with all its records served
abbrev pub IsSettled : Protocol → Type 0
IsSettled s = (core : ℕ) → IsTrue (can_commit s core) ⊎ ((core_at s core).ended ≡ true) × IsAtRest (core_at s core)
