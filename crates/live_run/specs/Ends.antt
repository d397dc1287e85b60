-- What the actors of all cores leave, in the order of the cores (this project's own).
use Rattle.std.specs.Prelude.{◌≡◌, ℕ, ◌<◌, List, [], ◌∷◌, ◌++◌, map, length, slice_get, Some}
use Rattle.bounded_list.specs.Bounded.{Bounded}
use Rattle.record_lane.specs.declared.record.Record.{Record}
use Rattle.record_lane.specs.declared.reply.Reply.{Reply}
use Rattle.record_lane.specs.declared.ring.Ring.{Ring}
use Rattle.record_lane.specs.declared.lane.Lane.{Lane}
use Rattle.ticket_table.specs.Passes.{TableSeen}
use Rattle.machine.specs.Setups.{Setup}
use Rattle.hart_actor.specs.Harts.{Hart}
use Rattle.tag_actor.specs.Seen.{TagActorSeen}
use Rattle.live_run.specs.declared.pair.Pair.{Pair}
use Rattle.live_run.specs.declared.ends.Ends.{Ends}
use Rattle.live_run.specs.Seats.{AreSeats}
use Rattle.live_run.specs.Assembled.{CoreLeft}
use Rattle.live_run.specs.Pairs.{AreLinked, IsPairLeft, left_in_pair, left_by}

-- as many of each as cores, and each ring and lane is that of the actors of its place
pub record AreAllLinked (harts : List Hart) (followers : List TagActorSeen) (items : List (Ring Record)) (replies : List (Lane Reply)) : Type 0 where
  pub follower_count : length followers ≡ length harts
  pub item_count : length items ≡ length harts
  pub reply_count : length replies ≡ length harts
  pub links : (core : ℕ) (hart : Hart) (follower : TagActorSeen) (ring : Ring Record) (lane : Lane Reply)
      → slice_get harts core ≡ Some hart → slice_get followers core ≡ Some follower → slice_get items core ≡ Some ring → slice_get replies core ≡ Some lane
      → AreLinked hart follower ring lane

-- each list has room for one item more
pub record HasRoom (ends : Ends) : Type 0 where
  pub logs : length ends.logs.items < ends.logs.room
  pub outcomes : length ends.outcomes.items < ends.outcomes.room
  pub claims : length ends.claims.items < ends.claims.room
  pub drawn : length ends.drawn.items < ends.drawn.room
  pub served : length ends.served.items < ends.served.room

abbrev pub with_item : {T : Type 0} → Bounded T → T → Bounded T
with_item list item = record list { items = list.items ++ item ∷ [] }

-- what one core more leaves is put at the end of each
abbrev pub kept : Ends → Pair → Ends
kept ends pair = record {
  logs = with_item ends.logs pair.entries;
  outcomes = with_item ends.outcomes pair.outcome;
  claims = with_item ends.claims pair.claims;
  drawn = with_item ends.drawn pair.drawn;
  served = with_item ends.served pair.served;
}

-- the lists of these pairs, with room for so many
abbrev pub ends_of : ℕ → List Pair → Ends
ends_of room pairs = record {
  logs = record { items = map (λ pair. pair.entries) pairs; room = room };
  outcomes = record { items = map (λ pair. pair.outcome) pairs; room = room };
  claims = record { items = map (λ pair. pair.claims) pairs; room = room };
  drawn = record { items = map (λ pair. pair.drawn) pairs; room = room };
  served = record { items = map (λ pair. pair.served) pairs; room = room };
}

-- what each core's two actors have kept
unfoldable pub lefts_by : List Hart → List TagActorSeen → List CoreLeft
lefts_by (hart ∷ harts) (follower ∷ followers) = left_by hart follower ∷ lefts_by harts followers
lefts_by _ _ = []

-- each pair has what the actors of its place have kept
abbrev pub AreKept : List Hart → List TagActorSeen → List Pair → Type 0
AreKept harts followers pairs =
    (core : ℕ) (hart : Hart) (follower : TagActorSeen) (pair : Pair)
    → slice_get harts core ≡ Some hart → slice_get followers core ≡ Some follower → slice_get pairs core ≡ Some pair → left_in_pair pair ≡ left_by hart follower

-- of actors that are seated for a setup, each pair is the part of its core
abbrev pub ArePairsLeft : List Hart → List TagActorSeen → List (Ring Record) → List (Lane Reply) → List Pair → Type 0
ArePairsLeft harts followers items replies pairs =
    (s : Setup) (memory tags : TableSeen) → AreSeats s memory tags harts followers items replies
    → (core : ℕ) (pair : Pair) → slice_get pairs core ≡ Some pair → IsPairLeft s memory tags core pair

-- a pair for each core
pub record HaveFinished (harts : List Hart) (followers : List TagActorSeen) (items : List (Ring Record)) (replies : List (Lane Reply)) (ends : Ends) : Type 0 where
  pub pairs : List Pair
  pub ends_are : ends ≡ ends_of (length harts) pairs
  pub count : length pairs ≡ length harts
  pub kept : AreKept harts followers pairs
  pub left : ArePairsLeft harts followers items replies pairs
