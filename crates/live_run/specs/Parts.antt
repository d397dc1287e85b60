-- What a contract sees of the parts of a run, and what the run's memory has room for (this project's own).
use Rattle.std.specs.Prelude.{◌≡◌, ℕ, ◌*◌, ◌≤◌, List, []}
use Rattle.elf_image.specs.Layout.{words_of}
use Rattle.record_lane.specs.declared.record.Record.{Record}
use Rattle.record_lane.specs.declared.reply.Reply.{Reply}
use Rattle.record_lane.specs.declared.ring.Ring.{Ring}
use Rattle.record_lane.specs.declared.lane.Lane.{Lane}
use Rattle.order_core.specs.WalkCalls.{IsAtStart}
use Rattle.ticket_table.specs.Passes.{TableSeen}
use Rattle.machine.specs.Setups.{Setup, core_count}
use Rattle.hart_actor.specs.Harts.{Hart}
use Rattle.tag_actor.specs.Seen.{TagActorSeen}
use Rattle.live_run.specs.declared.actors.Actors.{Actors}
use Rattle.live_run.specs.declared.objects.Objects.{Objects}
use Rattle.live_run.specs.declared.room.RunRoom.{RunRoom}
use Rattle.live_run.specs.Seats.{AreTables, AreSeats, HaveEnded}
use Rattle.live_run.specs.Ends.{ends_of}

-- the setup, its two tables, the actors of its cores with their rings and lanes, the units or records of a turn, and the memory for the end
pub record LiveSeen : Type 0 where
  pub setup : Setup
  pub memory : TableSeen
  pub tags : TableSeen
  pub harts : List Hart
  pub followers : List TagActorSeen
  pub items : List (Ring Record)
  pub replies : List (Lane Reply)
  pub quantum : ℕ
  pub room : RunRoom

abbrev pub live_seen : Objects → Actors → RunRoom → LiveSeen
live_seen objects actors room = record {
  setup = objects.setup.now;
  memory = objects.memory;
  tags = objects.tags;
  harts = actors.harts.items;
  followers = actors.followers.items;
  items = objects.items.items;
  replies = objects.replies.items;
  quantum = objects.quantum;
  room = room;
}

-- the actors stand at their cores' rings and lanes, and at the tables of the setup
abbrev pub AreSeatedAt : Objects → Actors → Type 0
AreSeatedAt objects actors =
    AreSeats objects.setup.now objects.memory objects.tags actors.harts.items actors.followers.items objects.items.items objects.replies.items

-- a walk at its start for the cores and words of the setup, and empty lists with room for what each core leaves and for four bytes of each unit
pub record IsRoomFor (s : Setup) (room : RunRoom) : Type 0 where
  pub walk : (room.walk.cores ≡ core_count s) × (room.walk.words ≡ words_of s.program.layout)
  pub start : IsAtStart room.walk
  pub ends : room.ends ≡ ends_of (core_count s) []
  pub output : room.output ≡ record { items = []; room = 4 * (core_count s * s.budget) }

-- the parts are of one run of the setup
pub record AreLive (live : LiveSeen) : Type 0 where
  pub tables : AreTables live.setup live.memory live.tags
  pub seats : AreSeats live.setup live.memory live.tags live.harts live.followers live.items live.replies
  pub some : 1 ≤ live.quantum
  pub room : IsRoomFor live.setup live.room

-- the parts of the same run at a later moment: all but the actors are the same
pub record AreSameParts (old new : LiveSeen) : Type 0 where
  pub setup : new.setup ≡ old.setup
  pub memory : new.memory ≡ old.memory
  pub tags : new.tags ≡ old.tags
  pub items : new.items ≡ old.items
  pub replies : new.replies ≡ old.replies
  pub quantum : new.quantum ≡ old.quantum
  pub room : new.room ≡ old.room

-- so, and each actor has ended
pub record HasRunTo (old new : LiveSeen) : Type 0 where
  pub same : AreSameParts old new
  pub ended : HaveEnded new.harts new.followers
