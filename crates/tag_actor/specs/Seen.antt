-- What a contract sees of a tag actor (this project's own).
use Rattle.std.specs.Prelude.{ℕ, ◌-◌, min, Bool, true, false, Option, None, option_to_list, length}
use Rattle.record_lane.specs.declared.record.Record.{Record}
use Rattle.record_lane.specs.declared.record.Record.TheVariants.{Touch, Meet, End}
use Rattle.record_lane.specs.declared.reply.Reply.{Reply}
use Rattle.record_lane.specs.declared.ring_token.RingTaker.{RingTaker}
use Rattle.record_lane.specs.declared.lane_token.Sender.{Sender}
use Rattle.record_lane.specs.Rings.{taken_by}
use Rattle.tag_policy.specs.Rules.{PolicySeen}
use Rattle.tag_registers.specs.Tags.{Tags, no_tags}
use Rattle.ticket_table.specs.Passes.{PassSeen}

-- its tags and its tokens, the record that waits in its hand, whether it has ended, and how many records it says that it has consumed
pub record TagActorSeen : Type 0 where
  pub policy : PolicySeen
  pub tags : Tags
  pub pass : PassSeen
  pub taker : RingTaker Record
  pub sender : Sender Reply
  pub hand : Option Record
  pub ended : Bool
  pub done : ℕ

-- before the first record
abbrev pub begins : PolicySeen → PassSeen → RingTaker Record → Sender Reply → TagActorSeen
begins policy pass taker sender =
    record { policy = policy; tags = no_tags; pass = pass; taker = taker; sender = sender; hand = None; ended = false; done = 0 }

abbrev pub is_meet : Record → Bool
is_meet (Meet step pc call kind) = true
is_meet _ = false

abbrev pub is_end : Record → Bool
is_end End = true
is_end _ = false

-- an access waits for its number, and a meeting for room for its reply
abbrev pub must_wait : Record → Bool
must_wait (Touch step pc word number why) = true
must_wait (Meet step pc call kind) = true
must_wait _ = false

-- how many records it has consumed: all that it took but the one in its hand
abbrev pub consumed_by : TagActorSeen → ℕ
consumed_by t = length (taken_by t.taker) - length (option_to_list t.hand)

-- a count as an actor shows it, which stands still at the greatest number of 32 bits
abbrev pub shown : ℕ → ℕ
shown count = min count 4294967295

abbrev pub done_by : TagActorSeen → ℕ
done_by t = shown (consumed_by t)
