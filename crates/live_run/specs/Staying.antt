-- Proof form: an actor's objects are its objects at each later moment.
use Rattle.std.specs.Prelude.{ℕ, List}
use Rattle.std.proofs.Common.{◌∙◌}
use Rattle.record_lane.specs.declared.record.Record.{Record}
use Rattle.record_lane.specs.declared.reply.Reply.{Reply}
use Rattle.record_lane.specs.declared.ring.Ring.{Ring}
use Rattle.record_lane.specs.declared.lane.Lane.{Lane}
use Rattle.ticket_table.specs.Passes.{TableSeen}
use Rattle.syscall_drain.specs.Programs.{Program}
use Rattle.hart_actor.specs.Harts.{Hart}
use Rattle.hart_actor.specs.Objects.{IsSameHart}
use Rattle.hart_actor.proofs.Turning.{same_are_of}
use Rattle.tag_actor.specs.Seen.{TagActorSeen}
use Rattle.tag_actor.specs.Turns.{AreOf as AreOfTagger, IsSameActor}
use Rattle.live_run.specs.Places.{FitsHart, FitsFollower}

pub hart_fits_still : (program : Program) (memory : TableSeen) (items : List (Ring Record)) (replies : List (Lane Reply)) (quantum core : ℕ) (a b : Hart)
    → FitsHart program memory items replies quantum core a → IsSameHart a b → FitsHart program memory items replies quantum core b
hart_fits_still program memory items replies quantum core a b fits same = record {
  some = fits.some;
  ring = fits.ring;
  lane = fits.lane;
  ring_at = fits.ring_at;
  lane_at = fits.lane_at;
  of = same_are_of a b program memory fits.ring fits.lane fits.of same;
}

pub same_follower_of : (a b : TagActorSeen) (tags : TableSeen) (items : Ring Record) (replies : Lane Reply) → AreOfTagger tags items replies a → IsSameActor a b → AreOfTagger tags items replies b
same_follower_of a b tags items replies are same = record {
  pass = ((same.pass).table ∙ are.pass.0, (same.pass).terms ∙ are.pass.1);
  taker = same.taker items are.taker;
  sender = same.sender replies are.sender;
  one_reply = are.one_reply;
  words = are.words;
  top = are.top;
  few_words = are.few_words;
  few_numbers = are.few_numbers;
}

pub follower_fits_still : (tags : TableSeen) (items : List (Ring Record)) (replies : List (Lane Reply)) (quantum core : ℕ) (a b : TagActorSeen)
    → FitsFollower tags items replies quantum core a → IsSameActor a b → FitsFollower tags items replies quantum core b
follower_fits_still tags items replies quantum core a b fits same = record {
  some = fits.some;
  ring = fits.ring;
  lane = fits.lane;
  ring_at = fits.ring_at;
  lane_at = fits.lane_at;
  of = same_follower_of a b tags fits.ring fits.lane fits.of same;
}
