-- What the turns of an actor use of a run's objects, and lists of the same actors at a later moment (this project's own).
use Rattle.std.specs.Prelude.{◌≡◌, ℕ, ◌≤◌, List, length, slice_get, Some}
use Rattle.record_lane.specs.declared.record.Record.{Record}
use Rattle.record_lane.specs.declared.reply.Reply.{Reply}
use Rattle.record_lane.specs.declared.ring.Ring.{Ring}
use Rattle.record_lane.specs.declared.lane.Lane.{Lane}
use Rattle.ticket_table.specs.Passes.{TableSeen}
use Rattle.syscall_drain.specs.Programs.{Program}
use Rattle.hart_actor.specs.Harts.{Hart}
use Rattle.hart_actor.specs.Objects.{AreOf as AreOfHart}
use Rattle.tag_actor.specs.Seen.{TagActorSeen}
use Rattle.tag_actor.specs.Turns.{AreOf as AreOfTagger}

-- the guest, the memory, and the ring and the lane of this core are the hart's
pub record FitsHart (program : Program) (memory : TableSeen) (items : List (Ring Record)) (replies : List (Lane Reply)) (quantum core : ℕ) (hart : Hart) : Type 0 where
  pub some : 1 ≤ quantum
  pub ring : Ring Record
  pub lane : Lane Reply
  pub ring_at : slice_get items core ≡ Some ring
  pub lane_at : slice_get replies core ≡ Some lane
  pub of : AreOfHart hart program memory ring lane

-- the tags, and the ring and the lane of this core are the tag actor's
pub record FitsFollower (tags : TableSeen) (items : List (Ring Record)) (replies : List (Lane Reply)) (quantum core : ℕ) (follower : TagActorSeen) : Type 0 where
  pub some : 1 ≤ quantum
  pub ring : Ring Record
  pub lane : Lane Reply
  pub ring_at : slice_get items core ≡ Some ring
  pub lane_at : slice_get replies core ≡ Some lane
  pub of : AreOfTagger tags ring lane follower

-- each item, with its place, is so
abbrev pub EachIs : {A : Type 0} → (ℕ → A → Type 0) → List A → Type 0
EachIs {A} P xs = (place : ℕ) (x : A) → slice_get xs place ≡ Some x → P place x

-- the actors of the second list are those of the first at a later moment
pub record AreSame {A : Type 0} (same : A → A → Type 0) (old new : List A) : Type 0 where
  pub count : length new ≡ length old
  pub each : (place : ℕ) (a b : A) → slice_get old place ≡ Some a → slice_get new place ≡ Some b → same a b
