-- What a tag actor leaves that has ended: the fold of all records of its core, which it took up to the end (this project's own).
use Rattle.std.specs.Prelude.{◌≡◌, List, [], ◌∷◌, ◌++◌}
use Rattle.record_lane.specs.declared.record.Record.{Record}
use Rattle.record_lane.specs.declared.record.Record.TheVariants.{End}
use Rattle.record_lane.specs.Lanes.{sent_by}
use Rattle.record_lane.specs.Rings.{taken_by}
use Rattle.tag_registers.specs.Folds.{Given}
use Rattle.actor_lists.specs.Folded.{IsFolded}
use Rattle.tag_actor.specs.declared.actor.TagParts.{TagParts}
use Rattle.tag_actor.specs.Seen.{TagActorSeen}

pub record HasLeft (t : TagActorSeen) (parts : TagParts) : Type 0 where
  pub givens : List Given
  pub items : List Record
  pub folded : IsFolded t.policy (t.pass).terms (t.pass).caller t.tags items ((parts.pass).changes) (sent_by parts.sender) givens
  pub taken : taken_by parts.taker ≡ items ++ End ∷ []
  pub trap : parts.trap ≡ (t.tags).trap
  pub pass : parts.pass ≡ t.pass
  pub taker : parts.taker ≡ t.taker
  pub sender : parts.sender ≡ t.sender
