-- The moves of a tag actor as moves of the protocol machine, whose lane of a core is the record in the actor's hand followed by the queue (this project's own).
use Rattle.std.specs.Prelude.{◌≡◌, ℕ, ◌<◌, true, false, slice_index, Option, Some, None, option_to_list, List, [], ◌∷◌, ◌++◌, map, length}
use Rattle.record_lane.specs.declared.record.Record.{Record}
use Rattle.record_lane.specs.declared.record.Record.TheVariants.{Touch, Meet}
use Rattle.order_core.specs.declared.shape.Move.{Move}
use Rattle.order_core.specs.declared.shape.Move.TheVariants.{Serve, Reply}
use Rattle.order_core.specs.declared.shape.Queued.{Queued}
use Rattle.order_core.specs.Protocol.{Protocol, core_at, can_act, act}
use Rattle.actor_lists.specs.Queued.{queued_of}
use Rattle.tag_actor.specs.Seen.{TagActorSeen}
use Rattle.tag_actor.specs.Moves.{TagMove, Takes, Consumes, IsMove}

-- a record that comes into the hand stays in the lane; a meeting that is answered is a reply, and any other record that is consumed is served
abbrev pub machine_move : ℕ → TagMove → Option Move
machine_move core (Takes item) = None
machine_move core (Consumes (Meet step pc call kind) found) = Some (Reply core)
machine_move core (Consumes item found) = Some (Serve core)

abbrev pub HasLane : Protocol → ℕ → Option Record → List Queued → Type 0
HasLane s core hand queue = ((core_at s core).lane).items ≡ map queued_of (option_to_list hand) ++ queue

-- an access comes in its word's turn, and a reply when there is room for it
abbrev pub IsItsTurn : Protocol → ℕ → Record → Type 0
IsItsTurn s core (Touch step pc word number why) = number ≡ slice_index s.served word
IsItsTurn s core (Meet step pc call kind) = (core_at s core).reply ≡ false
IsItsTurn s core item = Unit {0}

-- what the step of a move itself shows of the machine, where this queue is left
abbrev pub IsShown : Protocol → ℕ → TagMove → List Queued → List Queued → Type 0
IsShown s core (Takes item) queue left = queue ≡ queued_of item ∷ left
IsShown s core (Consumes item found) queue left = (queue ≡ left) × IsItsTurn s core item

-- the machine makes an enabled move, or none
abbrev pub IsMachineStep : Protocol → Option Move → Protocol → Type 0
IsMachineStep s None t = t ≡ s
IsMachineStep s (Some step) t = (can_act s step ≡ true) × (t ≡ act s step)

-- the machine after a move of the actor
pub record HasFollowed (s : Protocol) (core : ℕ) (step : Option Move) (hand : Option Record) (queue : List Queued) : Type 0 where
  pub after : Protocol
  pub steps : IsMachineStep s step after
  pub lane : HasLane after core hand queue

-- a move of an actor is its move of the machine, which is enabled
abbrev pub IsMachineMove : ℕ → TagActorSeen → TagMove → TagActorSeen → Type 0
IsMachineMove core a move b =
    (s : Protocol) (queue left : List Queued) → core < length s.cores
    → HasLane s core a.hand queue → IsShown s core move queue left → HasFollowed s core (machine_move core move) b.hand left

abbrev pub MovesOfTheMachine : Type 0
MovesOfTheMachine = (core : ℕ) (a b : TagActorSeen) (move : TagMove) → IsMove a move b → IsMachineMove core a move b

-- moves one after another, each in the machine too
unfoldable pub LeadsInMachine : ℕ → TagActorSeen → List TagMove → TagActorSeen → Type 0
LeadsInMachine core a [] b = b ≡ a
LeadsInMachine core a (move ∷ moves) b = (m : TagActorSeen) × IsMove a move m × IsMachineMove core a move m × LeadsInMachine core m moves b

-- so a turn is a list of moves of the machine, after which the lane is the record in the hand followed by the queue
pub record IsTurnOfTheMachine (core : ℕ) (a b : TagActorSeen) : Type 0 where
  pub moves : List TagMove
  pub last : TagActorSeen
  pub leads : LeadsInMachine core a moves last
  pub hand : b.hand ≡ last.hand
