-- The tables and the actors of a run before any actor has had a turn (this project's own).
use Rattle.std.specs.Prelude.{◌≡◌, ℕ, ◌-◌, List, [], None, length, slice_get, Some}
use Rattle.record_lane.specs.declared.record.Record.{Record}
use Rattle.record_lane.specs.declared.reply.Reply.{Reply}
use Rattle.record_lane.specs.declared.ring.Ring.{Ring}
use Rattle.record_lane.specs.declared.lane.Lane.{Lane}
use Rattle.record_lane.specs.Rings.{bound_of, sent_by as sent_to_ring, taken_by as taken_from_ring}
use Rattle.record_lane.specs.Lanes.{sent_by as sent_to_lane, taken_by as taken_from_lane}
use Rattle.ticket_table.specs.Passes.{TableSeen, fresh_from}
use Rattle.syscall_drain.specs.Locals.{opening_local}
use Rattle.machine.specs.Setups.{Setup, core_count}
use Rattle.hart_actor.specs.declared.stage.Stage.TheVariants.{Going}
use Rattle.hart_actor.specs.Harts.{Hart}
use Rattle.tag_actor.specs.Seen.{TagActorSeen, begins}
use Rattle.live_run.specs.declared.tables.Tables.{Tables}
use Rattle.live_run.specs.declared.opening.Seats.{Seats}
use Rattle.live_run.specs.Seats.{AreTables, IsSeat}

-- the core is before its first unit, and nothing was drawn, sent or taken
pub record IsNewHart (s : Setup) (core : ℕ) (hart : Hart) : Type 0 where
  pub local : hart.local ≡ opening_local s.program core
  pub stage : hart.stage ≡ Going
  pub unsent : hart.unsent ≡ None
  pub drawn : hart.pass.changes ≡ []
  pub sent : sent_to_ring hart.sender ≡ []
  pub taken : taken_from_lane hart.taker ≡ []

-- it has no tags, and nothing was served, taken or sent
pub record IsNewFollower (s : Setup) (follower : TagActorSeen) : Type 0 where
  pub begins_is : follower ≡ begins s.policy follower.pass follower.taker follower.sender
  pub served : follower.pass.changes ≡ []
  pub taken : taken_from_ring follower.taker ≡ []
  pub sent : sent_to_lane follower.sender ≡ []

-- no actor has had a turn
pub record AreNew (s : Setup) (all_harts : List Hart) (all_followers : List TagActorSeen) : Type 0 where
  pub harts : (core : ℕ) (hart : Hart) → slice_get all_harts core ≡ Some hart → IsNewHart s core hart
  pub followers : (core : ℕ) (follower : TagActorSeen) → slice_get all_followers core ≡ Some follower → IsNewFollower s follower

-- each ring holds at most so many records
abbrev pub HaveBound : ℕ → List (Ring Record) → Type 0
HaveBound bound items = (core : ℕ) (ring : Ring Record) → slice_get items core ≡ Some ring → bound_of ring ≡ bound

-- the tables are the setup's, and have the fresh passes of the cores from this one on
pub record HavePasses (s : Setup) (core : ℕ) (tables : Tables) : Type 0 where
  pub tables_are : AreTables s tables.memory tables.tags
  pub drawn : tables.drawn.items ≡ fresh_from tables.memory.table tables.memory.basis.terms core (core_count s - core)
  pub served : tables.served.items ≡ fresh_from tables.tags.table tables.tags.basis.terms core (core_count s - core)

-- so many cores have their seats
pub record AreFirstSeats (s : Setup) (memory tags : TableSeen) (count : ℕ) (seats : Seats) : Type 0 where
  pub hart_count : length seats.harts.items ≡ count
  pub follower_count : length seats.followers.items ≡ count
  pub item_count : length seats.items.items ≡ count
  pub reply_count : length seats.replies.items ≡ count
  pub are : (core : ℕ) (hart : Hart) (follower : TagActorSeen) (ring : Ring Record) (lane : Lane Reply)
      → slice_get seats.harts.items core ≡ Some hart → slice_get seats.followers.items core ≡ Some follower
      → slice_get seats.items.items core ≡ Some ring → slice_get seats.replies.items core ≡ Some lane
      → IsSeat s memory tags core hart follower ring lane
  pub are_new : AreNew s seats.harts.items seats.followers.items
