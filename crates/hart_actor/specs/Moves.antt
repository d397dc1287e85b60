-- The moves of a hart actor, each a step of the protocol machine for its core, whatever its lane and its reply slot hold (this project's own).
use Rattle.std.specs.Prelude.{◌≡◌, ℕ, Bool, true, false, Option, Some, None, IsSome, List, [], ◌∷◌, ◌++◌, map, option_to_list}
use Rattle.record_lane.specs.declared.record.Record.{Record}
use Rattle.record_lane.specs.declared.reply.Reply.{Reply}
use Rattle.record_lane.specs.Rings.{sent_by}
use Rattle.record_lane.specs.Lanes.{taken_by}
use Rattle.ticket_table.specs.declared.change.Change.{Change}
use Rattle.order_core.specs.declared.shape.Shape.{Shape}
use Rattle.order_core.specs.declared.shape.Shape.TheVariants.{Quiet, Touch, Meet, End}
use Rattle.order_core.specs.declared.shape.Queued.{Queued}
use Rattle.order_core.specs.declared.shape.CoreQueue.{CoreQueue}
use Rattle.order_core.specs.Protocol.{is_free, committed, sent, set_going}
use Rattle.bounded_list.specs.Bounded.{Bounded}
use Rattle.hart_actor.specs.declared.stage.Stage.{Stage}
use Rattle.hart_actor.specs.declared.stage.Stage.TheVariants.{Going, Meeting, Closed}
use Rattle.actor_lists.specs.Queued.{queued_of}
use Rattle.hart_actor.specs.Harts.{Hart}

abbrev pub is_meeting : Stage → Bool
is_meeting Going = false
is_meeting (Meeting item) = true
is_meeting Closed = false

abbrev pub is_closed : Stage → Bool
is_closed Going = false
is_closed (Meeting item) = false
is_closed Closed = true

abbrev pub queued_unsent : Option Record → Option Queued
queued_unsent None = None
queued_unsent (Some item) = Some (queued_of item)

-- what the protocol and the tables see of an actor: the record that is ready and not sent, its meeting or end, and its three lists
pub record Side : Type 0 where
  pub unsent : Option Record
  pub stage : Stage
  pub drawn : List Change
  pub sent : List Record
  pub taken : List Reply

abbrev pub side_of : Hart → Side
side_of h = record { unsent = h.unsent; stage = h.stage; drawn = h.pass.changes; sent = sent_by h.sender; taken = taken_by h.taker }

-- its core in the protocol machine, beside what its lane holds and whether its reply slot is full
abbrev pub core_with : Bounded Queued → Bool → Side → CoreQueue
core_with lane reply s = record { unsent = queued_unsent s.unsent; meeting = is_meeting s.stage; ended = is_closed s.stage; lane = lane; reply = reply }

-- the lane after the unsent record has gone to its end
abbrev pub lane_after : Bounded Queued → Side → Bounded Queued
lane_after lane s = record lane { items = lane.items ++ option_to_list (queued_unsent s.unsent) }

-- the word and the number that a record's access drew
abbrev pub drawn_as : Shape → ℕ → List (ℕ × ℕ)
drawn_as Quiet number = []
drawn_as (Touch word) number = (word, number) ∷ []
drawn_as Meet number = []
drawn_as End number = []

abbrev pub numbers_in : List Change → List (ℕ × ℕ)
numbers_in changes = map (λ e. (e.word, e.number)) changes

-- a record is made ready: an access has drawn its number on the table, and nothing else was drawn
pub record Commits (queued : Queued) (old new : Side) : Type 0 where
  pub free : (lane : Bounded Queued) (reply : Bool) → is_free (core_with lane reply old) ≡ true
  pub core : (lane : Bounded Queued) (reply : Bool) → core_with lane reply new ≡ committed (core_with lane reply old) queued.shape queued.number
  pub changes : List Change
  pub drawn : new.drawn ≡ old.drawn ++ changes
  pub numbers : numbers_in changes ≡ drawn_as queued.shape queued.number
  pub sent : new.sent ≡ old.sent
  pub taken : new.taken ≡ old.taken

-- the unsent record has gone to the ring's end
pub record Sends (old new : Side) : Type 0 where
  pub unsent : IsSome old.unsent
  pub core : (lane : Bounded Queued) (reply : Bool) → core_with (lane_after lane old) reply new ≡ sent (core_with lane reply old)
  pub sent : new.sent ≡ old.sent ++ option_to_list old.unsent
  pub drawn : new.drawn ≡ old.drawn
  pub taken : new.taken ≡ old.taken

-- the reply was taken up
pub record Resumes (old new : Side) : Type 0 where
  pub waiting : (old.unsent ≡ None) × (is_meeting old.stage ≡ true)
  pub core : (lane : Bounded Queued) → core_with lane false new ≡ set_going (core_with lane true old)
  pub reply : Reply
  pub taken : new.taken ≡ old.taken ++ reply ∷ []
  pub sent : new.sent ≡ old.sent
  pub drawn : new.drawn ≡ old.drawn

pub data HartMove : Type 0 where
  Commit : Queued → HartMove
  Send : HartMove
  Resume : HartMove

abbrev pub IsMove : HartMove → Side → Side → Type 0
IsMove (Commit queued) old new = Commits queued old new
IsMove Send old new = Sends old new
IsMove Resume old new = Resumes old new

-- the moves lead from one moment of the actor to another
unfoldable pub Leads : List HartMove → Side → Side → Type 0
Leads [] old new = old ≡ new
Leads (move ∷ rest) old new = (between : Side) × IsMove move old between × Leads rest between new
