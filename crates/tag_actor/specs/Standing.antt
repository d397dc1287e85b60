-- Where a tag actor stands: its tags, changes and replies are those of the records that it has consumed, which are all that it took but the one in its hand (this project's own).
use Rattle.std.specs.Prelude.{◌≡◌, ◌^◌, ◌≤◌, Bool, true, false, Some, None, option_to_list, List, [], ◌∷◌, ◌++◌, length}
use Rattle.record_lane.specs.declared.record.Record.{Record}
use Rattle.record_lane.specs.declared.record.Record.TheVariants.{End}
use Rattle.record_lane.specs.declared.ring.Ring.{Ring}
use Rattle.record_lane.specs.declared.ring_token.RingTaker.{RingTaker}
use Rattle.record_lane.specs.Sound.{IsSoundRecord}
use Rattle.record_lane.specs.Rings.{taken_by, word_count_of, top_of, IsTakerOf}
use Rattle.record_lane.specs.Lanes.{sent_by}
use Rattle.tag_registers.specs.Folds.{Given}
use Rattle.actor_lists.specs.Folded.{IsFolded}
use Rattle.tag_actor.specs.Seen.{TagActorSeen, must_wait, done_by}

-- the end of a core is its last record
abbrev pub last_record : Bool → List Record
last_record true = End ∷ []
last_record false = []

-- the record is sound for the ring that this taker takes from
abbrev pub IsSoundFor : RingTaker Record → Record → Type 0
IsSoundFor taker item = (ring : Ring Record) → IsTakerOf ring taker → IsSoundRecord (word_count_of ring) (top_of ring) item

-- the fold of the records consumed, and what was taken
pub record HasRecords (t : TagActorSeen) : Type 0 where
  pub givens : List Given
  pub items : List Record
  pub folded : IsFolded t.policy (t.pass).terms (t.pass).caller t.tags items (t.pass).changes (sent_by t.sender) givens
  pub taken : taken_by t.taker ≡ items ++ (option_to_list t.hand ++ last_record t.ended)
  pub few : length (taken_by t.taker) ≤ 2 ^ 61

-- only a record that has to wait is in the hand, and none after the end
pub record IsTagActor (t : TagActorSeen) : Type 0 where
  pub consumed : HasRecords t
  pub rest : t.ended ≡ true → t.hand ≡ None
  pub waits : (item : Record) → t.hand ≡ Some item → must_wait item ≡ true
  pub sound : (item : Record) → t.hand ≡ Some item → IsSoundFor t.taker item
  pub done_is : t.done ≡ done_by t
