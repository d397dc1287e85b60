-- What a turn of a hart actor answers, and the causes of its answers (this project's own).
use Rattle.std.specs.Prelude.{◌≡◌, ◌⊎◌, ℕ, ◌+◌, ◌<◌, ◌≤◌, Bool, true, false, None, IsSome, length}
use Rattle.record_lane.specs.declared.record.Record.{Record}
use Rattle.record_lane.specs.declared.reply.Reply.{Reply}
use Rattle.record_lane.specs.declared.ring.Ring.{Ring}
use Rattle.record_lane.specs.declared.ring_token.RingSender.{RingSender}
use Rattle.record_lane.specs.declared.lane.Lane.{Lane}
use Rattle.record_lane.specs.declared.lane_token.Taker.{Taker}
use Rattle.record_lane.specs.Histories.{IsPrefix}
use Rattle.record_lane.specs.Rings.{sent_by, sender_looks, WasFull}
use Rattle.record_lane.specs.Lanes.{taken_by, seen_by, WasEmpty}
use Rattle.hart_actor.specs.declared.stage.Stage.TheVariants.{Going}
use Rattle.hart_actor.specs.declared.turn.Step.{Step}
use Rattle.hart_actor.specs.declared.turn.Step.TheVariants.{Moved, Full as IsBlocked, Waits as IsWaiting, Ended as IsOver}
use Rattle.hart_actor.specs.declared.turn.HartTurn.{HartTurn}
use Rattle.hart_actor.specs.declared.turn.HartTurn.TheVariants.{Went, Full, Waits, Ended}
use Rattle.hart_actor.specs.Harts.{Hart, HasEnded}
use Rattle.hart_actor.specs.Moves.{HartMove, IsMove, side_of, is_meeting}

-- how much its log, its sender's list and its taker's list hold together
abbrev pub size : Hart → ℕ
size h = length h.log.items + (length (sent_by h.sender) + length (taken_by h.taker))

-- a token that sent items, and looked at the ring once for each
abbrev pub HasSent : RingSender Record → RingSender Record → Type 0
HasSent old new = (length (sent_by old) < length (sent_by new)) × (sender_looks new + length (sent_by old) ≡ sender_looks old + length (sent_by new))

-- a token that was not used, or sent or took items
abbrev pub HasSentSince : RingSender Record → RingSender Record → Type 0
HasSentSince old new = (new ≡ old) ⊎ HasSent old new

abbrev pub HasTakenSince : Taker Reply → Taker Reply → Type 0
HasTakenSince old new = (new ≡ old) ⊎ ((length (taken_by old) < length (taken_by new)) × IsPrefix (taken_by new) (seen_by new))

-- since its last send in the turn, or since the turn's begin, the sender found the ring full, by one look more than it sent items
abbrev pub WasFullSince : Ring Record → RingSender Record → RingSender Record → Type 0
WasFullSince items old new = (sender : RingSender Record) × HasSentSince old sender × (sent_by new ≡ sent_by sender) × WasFull items sender new

-- since its last take in the turn, or since the turn's begin, the taker found the lane empty
abbrev pub WasEmptySince : Lane Reply → Taker Reply → Taker Reply → Type 0
WasEmptySince replies old new = (taker : Taker Reply) × HasTakenSince old taker × (taken_by new ≡ taken_by taker) × WasEmpty replies taker new

-- it has an unsent record, and the ring was full
abbrev pub IsFull : Ring Record → Hart → Hart → Type 0
IsFull items old new = IsSome new.unsent × WasFullSince items old.sender new.sender

-- its meeting is sent and not answered, and the lane was empty
abbrev pub IsHeld : Lane Reply → Hart → Hart → Type 0
IsHeld replies old new = (new.unsent ≡ None) × (is_meeting new.stage ≡ true) × WasEmptySince replies old.taker new.taker

-- one move of the protocol, and so many units
pub record IsStep (units : ℕ) (old new : Hart) : Type 0 where
  pub move : HartMove
  pub is : IsMove move (side_of old) (side_of new)
  pub sender : HasSentSince old.sender new.sender
  pub taker : HasTakenSince old.taker new.taker
  pub units_are : new.local.units ≡ old.local.units + units

-- the three lists hold more together, or as much as before
abbrev pub Grows : Bool → Hart → Hart → Type 0
Grows true old new = size old < size new
Grows false old new = size new ≡ size old

-- a move with so many units; after a unit the core is at no meeting, and its log has grown
abbrev pub HasMoved : ℕ → Bool → Hart → Hart → Type 0
HasMoved units grown old new = IsStep units old new × Grows grown old new × (units ≤ 1) × (units ≡ 1 → (grown ≡ true) × (new.stage ≡ Going))

-- what one step of a turn did
abbrev pub HasStepped : Ring Record → Lane Reply → Hart → Hart → Step → Type 0
HasStepped items replies old new (Moved units grown) = HasMoved units grown old new
HasStepped items replies old new IsBlocked = (side_of new ≡ side_of old) × (new.local ≡ old.local) × (size new ≡ size old) × IsFull items old new
HasStepped items replies old new IsWaiting = (side_of new ≡ side_of old) × (new.local ≡ old.local) × (size new ≡ size old) × IsHeld replies old new
HasStepped items replies old new IsOver = (new ≡ old) × HasEnded new

-- a turn that went and has not done all its units came to the cause of Full or of Waits
abbrev pub IsDone : Ring Record → Lane Reply → ℕ → Hart → Hart → Type 0
IsDone items replies quantum old new =
    (new.local.units ≡ old.local.units + quantum) ⊎ (IsFull items old new ⊎ IsHeld replies old new)

-- each answer where it comes: Ended exactly where the last record has been sent, else Went exactly where a list grew
abbrev pub HasTurned : Ring Record → Lane Reply → ℕ → Hart → Hart → HartTurn → Type 0
HasTurned items replies quantum old new Ended = HasEnded new
HasTurned items replies quantum old new Went = (¬ HasEnded new) × (size old < size new) × IsDone items replies quantum old new
HasTurned items replies quantum old new Full = (¬ HasEnded new) × (size new ≡ size old) × IsFull items old new
HasTurned items replies quantum old new Waits = (¬ HasEnded new) × (size new ≡ size old) × IsHeld replies old new
