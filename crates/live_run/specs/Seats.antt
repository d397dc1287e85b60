-- The actors of a run, each pair with its ring and its lane, at the two tables of the setup (this project's own).
use Rattle.std.specs.Prelude.{◌≡◌, ℕ, true, List, length, replicate, slice_get, Some}
use Rattle.elf_image.specs.Layout.{first_words, words_of}
use Rattle.record_lane.specs.declared.record.Record.{Record}
use Rattle.record_lane.specs.declared.reply.Reply.{Reply}
use Rattle.record_lane.specs.declared.ring.Ring.{Ring}
use Rattle.record_lane.specs.declared.lane.Lane.{Lane}
use Rattle.ticket_table.specs.declared.change.Role.TheVariants.{Draw, Serve}
use Rattle.ticket_table.specs.Passes.{TableSeen}
use Rattle.machine.specs.Setups.{Setup, core_count}
use Rattle.hart_actor.specs.Harts.{Hart, HasEnded}
use Rattle.hart_actor.specs.Objects.{AreOf as AreOfHart}
use Rattle.tag_actor.specs.Seen.{TagActorSeen}
use Rattle.tag_actor.specs.Turns.{AreOf as AreOfTagger}

-- the data words are those of the setup's image, the tags of as many words are 0, and each table has a caller for each core and the setup's limit
pub record AreTables (s : Setup) (data_table tag_table : TableSeen) : Type 0 where
  pub memory : data_table.basis ≡ record { terms = record { role = Draw; limit = s.limit; callers = core_count s }; first = first_words s.program.layout }
  pub tags : tag_table.basis ≡ record { terms = record { role = Serve; limit = s.limit; callers = core_count s }; first = replicate (words_of s.program.layout) 0 }

-- one core of the setup, and the tag actor that follows it
pub record IsSeat (s : Setup) (memory tags : TableSeen) (place : ℕ) (hart : Hart) (follower : TagActorSeen) (items : Ring Record) (replies : Lane Reply) : Type 0 where
  pub budget : hart.budget ≡ s.budget
  pub core : hart.core ≡ place
  pub policy : follower.policy ≡ s.policy
  pub caller : follower.pass.caller ≡ place
  pub hart_of : AreOfHart hart s.program memory items replies
  pub follower_of : AreOfTagger tags items replies follower

-- place c of each list belongs to core c
pub record AreSeats (s : Setup) (memory tags : TableSeen) (harts : List Hart) (followers : List TagActorSeen) (items : List (Ring Record)) (replies : List (Lane Reply)) : Type 0 where
  pub hart_count : length harts ≡ core_count s
  pub follower_count : length followers ≡ core_count s
  pub item_count : length items ≡ core_count s
  pub reply_count : length replies ≡ core_count s
  pub seats : (core : ℕ) (hart : Hart) (follower : TagActorSeen) (ring : Ring Record) (lane : Lane Reply)
      → slice_get harts core ≡ Some hart → slice_get followers core ≡ Some follower → slice_get items core ≡ Some ring → slice_get replies core ≡ Some lane
      → IsSeat s memory tags core hart follower ring lane

-- each core has ended, and each tag actor
abbrev pub HaveAllEnded : List Hart → Type 0
HaveAllEnded harts = (core : ℕ) (hart : Hart) → slice_get harts core ≡ Some hart → HasEnded hart

abbrev pub HaveAllFollowed : List TagActorSeen → Type 0
HaveAllFollowed followers = (core : ℕ) (follower : TagActorSeen) → slice_get followers core ≡ Some follower → follower.ended ≡ true

pub record HaveEnded (all_harts : List Hart) (all_followers : List TagActorSeen) : Type 0 where
  pub harts : HaveAllEnded all_harts
  pub followers : HaveAllFollowed all_followers
