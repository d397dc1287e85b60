-- What the two actors of one core leave, once both have ended (this project's own).
use Rattle.std.specs.Prelude.{◌≡◌, ℕ, length, true}
use Rattle.record_lane.specs.declared.record.Record.{Record}
use Rattle.record_lane.specs.declared.reply.Reply.{Reply}
use Rattle.record_lane.specs.declared.ring.Ring.{Ring}
use Rattle.record_lane.specs.declared.lane.Lane.{Lane}
use Rattle.record_lane.specs.Rings.{IsSenderOf as IsItemSender, IsTakerOf as IsItemTaker}
use Rattle.record_lane.specs.Lanes.{IsSenderOf as IsReplySender, IsTakerOf as IsReplyTaker}
use Rattle.ticket_table.specs.Passes.{TableSeen, PassSeen, IsPassOf}
use Rattle.machine.specs.Setups.{Setup}
use Rattle.inline_tracker.specs.Outcomes.{outcome_summary}
use Rattle.hart_actor.specs.Harts.{Hart, HasEnded, cut, cut_length}
use Rattle.tag_actor.specs.Seen.{TagActorSeen}
use Rattle.live_run.specs.declared.pair.Pair.{Pair}
use Rattle.live_run.specs.Assembled.{CoreLeft, IsCoreLeft}
use Rattle.live_run.specs.Laying.{pieces_in}

-- the ring and the lane are those of both actors
pub record AreLinked (hart : Hart) (follower : TagActorSeen) (items : Ring Record) (replies : Lane Reply) : Type 0 where
  pub item_sender : IsItemSender items hart.sender
  pub item_taker : IsItemTaker items follower.taker
  pub reply_sender : IsReplySender replies follower.sender
  pub reply_taker : IsReplyTaker replies hart.taker

-- both have ended, and the ring and the lane are theirs
pub record AreDone (hart : Hart) (follower : TagActorSeen) (items : Ring Record) (replies : Lane Reply) : Type 0 where
  pub hart_ended : HasEnded hart
  pub follower_ended : follower.ended ≡ true
  pub linked : AreLinked hart follower items replies

-- the core's part of the run
abbrev pub left_in_pair : Pair → CoreLeft
left_in_pair pair = record {
  log = pair.entries.items;
  summary = outcome_summary pair.outcome;
  claims = pieces_in pair.claims;
}

-- and as its two actors have kept it
abbrev pub left_by : Hart → TagActorSeen → CoreLeft
left_by hart follower = record {
  log = hart.log.items;
  summary = record { ending = hart.local.ending; units = hart.local.units; trap = follower.tags.trap; notes = hart.notes.items };
  claims = cut hart.pieces.items hart.output.items;
}

-- the pass of this core at this table
pub record IsPassAt (table : TableSeen) (core : ℕ) (pass : PassSeen) : Type 0 where
  pub of_table : IsPassOf table pass
  pub caller : pass.caller ≡ core

-- it is the part of this core of the setup, with its passes of both tables, and the output is cut whole
pub record IsPairLeft (s : Setup) (memory tags : TableSeen) (core : ℕ) (pair : Pair) : Type 0 where
  pub left : IsCoreLeft s memory tags core pair.drawn.changes pair.served.changes (left_in_pair pair)
  pub drawn : IsPassAt memory core pair.drawn
  pub served : IsPassAt tags core pair.served
  pub whole : cut_length pair.claims.pieces.items ≡ length pair.claims.output.items
