-- The actors at their seats have what their turns use, and keep their seats.
use Rattle.std.proofs.Common.{◌≡◌, ℕ, zero, suc, ◌<◌, ◌≤◌, List, [], ◌∷◌, length, slice_get, Some, refl, ◌∙◌, arith}
use Rattle.std.proofs.lemmas.Option.{slice_get_within}
use Rattle.record_lane.specs.declared.record.Record.{Record}
use Rattle.record_lane.specs.declared.reply.Reply.{Reply}
use Rattle.record_lane.specs.declared.ring.Ring.{Ring}
use Rattle.record_lane.specs.declared.lane.Lane.{Lane}
use Rattle.ticket_table.specs.Passes.{TableSeen}
use Rattle.machine.specs.Setups.{Setup}
use Rattle.hart_actor.specs.Harts.{Hart}
use Rattle.hart_actor.specs.Objects.{IsSameHart}
use Rattle.hart_actor.proofs.Turning.{same_are_of}
use Rattle.tag_actor.specs.Seen.{TagActorSeen}
use Rattle.tag_actor.specs.Turns.{IsSameActor}
use Rattle.live_run.specs.Seats.{IsSeat, AreSeats}
use Rattle.live_run.specs.Places.{FitsHart, FitsFollower, EachIs, AreSame}
use Rattle.live_run.specs.Staying.{same_follower_of}
use Rattle.live_run.proofs.Keeping.{same_at}

-- what stands at a place within a list
found_at : {A : Type 0} (xs : List A) (place : ℕ) → place < length xs → (x : A) × (slice_get xs place ≡ Some x)
found_at [] place below = absurd (omega arith)
found_at (x ∷ xs) zero below = (x, refl)
found_at (x ∷ xs) (suc place) below = found_at xs place (omega arith)

pub seats_fit_harts : (s : Setup) (memory tags : TableSeen) (harts : List Hart) (followers : List TagActorSeen) (items : List (Ring Record)) (replies : List (Lane Reply)) (quantum : ℕ)
    → AreSeats s memory tags harts followers items replies → 1 ≤ quantum → EachIs (FitsHart s.program memory items replies quantum) harts
seats_fit_harts s memory tags harts followers items replies quantum are some core hart at =
    let within = slice_get_within harts core hart at in
    let follower = found_at followers core (omega (arith, are.hart_count, are.follower_count)) in
    let ring = found_at items core (omega (arith, are.hart_count, are.item_count)) in
    let lane = found_at replies core (omega (arith, are.hart_count, are.reply_count)) in
    record { some = some; ring = ring.0; lane = lane.0; ring_at = ring.1; lane_at = lane.1; of = (are.seats core hart follower.0 ring.0 lane.0 at follower.1 ring.1 lane.1).hart_of }

pub seats_fit_followers : (s : Setup) (memory tags : TableSeen) (harts : List Hart) (followers : List TagActorSeen) (items : List (Ring Record)) (replies : List (Lane Reply)) (quantum : ℕ)
    → AreSeats s memory tags harts followers items replies → 1 ≤ quantum → EachIs (FitsFollower tags items replies quantum) followers
seats_fit_followers s memory tags harts followers items replies quantum are some core follower at =
    let within = slice_get_within followers core follower at in
    let hart = found_at harts core (omega (arith, are.hart_count, are.follower_count)) in
    let ring = found_at items core (omega (arith, are.follower_count, are.item_count)) in
    let lane = found_at replies core (omega (arith, are.follower_count, are.reply_count)) in
    record { some = some; ring = ring.0; lane = lane.0; ring_at = ring.1; lane_at = lane.1; of = (are.seats core hart.0 follower ring.0 lane.0 hart.1 at ring.1 lane.1).follower_of }

seat_still : (s : Setup) (memory tags : TableSeen) (core : ℕ) (hart later_hart : Hart) (follower later_follower : TagActorSeen) (ring : Ring Record) (lane : Lane Reply)
    → IsSeat s memory tags core hart follower ring lane → IsSameHart hart later_hart → IsSameActor follower later_follower → IsSeat s memory tags core later_hart later_follower ring lane
seat_still s memory tags core hart later_hart follower later_follower ring lane seat same_hart same_follower = record {
  budget = same_hart.budget ∙ seat.budget;
  core = same_hart.core ∙ seat.core;
  policy = same_follower.policy ∙ seat.policy;
  caller = (same_follower.pass).caller ∙ seat.caller;
  hart_of = same_are_of hart later_hart s.program memory ring lane seat.hart_of same_hart;
  follower_of = same_follower_of follower later_follower tags ring lane seat.follower_of same_follower;
}

-- the same actors have the same seats
pub seats_still : (s : Setup) (memory tags : TableSeen) (harts later_harts : List Hart) (followers later_followers : List TagActorSeen) (items : List (Ring Record)) (replies : List (Lane Reply))
    → AreSeats s memory tags harts followers items replies → AreSame IsSameHart harts later_harts → AreSame IsSameActor followers later_followers
    → AreSeats s memory tags later_harts later_followers items replies
seats_still s memory tags harts later_harts followers later_followers items replies are same_harts same_followers = record {
  hart_count = same_harts.count ∙ are.hart_count;
  follower_count = same_followers.count ∙ are.follower_count;
  item_count = are.item_count;
  reply_count = are.reply_count;
  seats = λ core hart follower ring lane hart_at follower_at ring_at lane_at.
      let was = same_at IsSameHart harts later_harts core hart same_harts hart_at in
      let followed = same_at IsSameActor followers later_followers core follower same_followers follower_at in
      seat_still s memory tags core was.0 hart followed.0 follower ring lane (are.seats core was.0 followed.0 ring lane was.1 followed.1 ring_at lane_at) was.2 followed.2;
}
