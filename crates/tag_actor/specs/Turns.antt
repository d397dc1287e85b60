-- What a turn of a tag actor is: moves one after another, and then the end, the quantum, or a cause to wait (this project's own).
use Rattle.std.specs.Prelude.{◌≡◌, ℕ, ◌+◌, ◌<◌, ◌≤◌, ◌⊎◌, Bool, true, false, Option, Some, None, List, [], ◌∷◌, length}
use Rattle.record_lane.specs.declared.record.Record.{Record}
use Rattle.record_lane.specs.declared.reply.Reply.{Reply}
use Rattle.record_lane.specs.declared.ring.Ring.{Ring}
use Rattle.record_lane.specs.declared.lane.Lane.{Lane}
use Rattle.record_lane.specs.Rings.{taken_by, word_count_of, top_of, IsTakerOf}
use Rattle.record_lane.specs.Lanes.{sent_by, bound_of, IsSenderOf}
use Rattle.ticket_table.specs.Passes.{TableSeen, IsPassOf}
use Rattle.tag_actor.specs.declared.answer.TagTurn.{TagTurn}
use Rattle.tag_actor.specs.declared.answer.TagTurn.TheVariants.{Went, Ended}
use Rattle.tag_actor.specs.declared.answer.Stop.{Stop}
use Rattle.tag_actor.specs.Seen.{TagActorSeen}
use Rattle.tag_actor.specs.Moves.{IsSameCaller, TagMove, Leads, consumed_in, IsWaiting}

-- the memory of tags, the ring of records and the lane of replies are those of the actor's tokens, and the ring's records are sound for the memory
pub record AreOf (memory : TableSeen) (items : Ring Record) (replies : Lane Reply) (t : TagActorSeen) : Type 0 where
  pub pass : IsPassOf memory t.pass
  pub taker : IsTakerOf items t.taker
  pub sender : IsSenderOf replies t.sender
  pub one_reply : bound_of replies ≡ 1
  pub words : word_count_of items ≡ length ((memory.basis).first)
  pub top : top_of items ≡ ((memory.basis).terms).limit + ((memory.basis).terms).callers
  pub few_words : word_count_of items ≤ 4294967295
  pub few_numbers : top_of items ≤ 4294967295

-- the actor is of the same core: its policy, its table, its caller, its ring and its lane are the same
pub record IsSameActor (a b : TagActorSeen) : Type 0 where
  pub policy : b.policy ≡ a.policy
  pub pass : IsSameCaller a b
  pub taker : (ring : Ring Record) → IsTakerOf ring a.taker → IsTakerOf ring b.taker
  pub sender : (lane : Lane Reply) → IsSenderOf lane a.sender → IsSenderOf lane b.sender

-- whether there was a move
abbrev pub has_moved : List TagMove → Bool
has_moved [] = false
has_moved (move ∷ moves) = true

-- one record more is consumed
pub record HasAdvanced (a b : TagActorSeen) : Type 0 where
  pub moves : List TagMove
  pub leads : Leads a moves b
  pub one : consumed_in moves ≡ 1

-- none is, for this cause
pub record HasStopped (items : Ring Record) (replies : Lane Reply) (a b : TagActorSeen) (stop : Stop) : Type 0 where
  pub moves : List TagMove
  pub last : TagActorSeen
  pub leads : Leads a moves last
  pub none : consumed_in moves ≡ 0
  pub took : stop.took ≡ has_moved moves
  pub waits : IsWaiting items replies stop.cause last b
  pub going : b.ended ≡ false

abbrev pub AdvancedAs : Ring Record → Lane Reply → TagActorSeen → TagActorSeen → Option Stop → Type 0
AdvancedAs items replies a b None = HasAdvanced a b
AdvancedAs items replies a b (Some stop) = HasStopped items replies a b stop

-- after its moves an actor has to wait for this cause, or has not looked further
abbrev pub StopsFor : Ring Record → Lane Reply → Option TagTurn → TagActorSeen → TagActorSeen → Type 0
StopsFor items replies None last b = b ≡ last
StopsFor items replies (Some cause) last b = IsWaiting items replies cause last b

-- what a turn answers: that the actor has ended, that it moved, or why it could not
abbrev pub turn_answer : Bool → List TagMove → Option TagTurn → TagTurn
turn_answer true moves stop = Ended
turn_answer false (move ∷ moves) stop = Went
turn_answer false [] (Some cause) = cause
turn_answer false [] None = Went

-- a turn consumes as many records as the quantum, or ends, or comes to a cause to wait
pub record IsTurn (items : Ring Record) (replies : Lane Reply) (quantum : ℕ) (a b : TagActorSeen) (answer : TagTurn) : Type 0 where
  pub moves : List TagMove
  pub last : TagActorSeen
  pub stop : Option TagTurn
  pub leads : Leads a moves last
  pub stops : StopsFor items replies stop last b
  pub most : consumed_in moves ≤ quantum
  pub whole : stop ≡ None → b.ended ≡ false → consumed_in moves ≡ quantum
  pub answer_is : answer ≡ turn_answer b.ended moves stop

-- some list of the actor has become longer: what it took, what it answered, or what it changed
abbrev pub HasGrown : TagActorSeen → TagActorSeen → Type 0
HasGrown a b =
    (length (taken_by a.taker) < length (taken_by b.taker))
    ⊎ ((length (sent_by a.sender) < length (sent_by b.sender)) ⊎ (length (a.pass).changes < length (b.pass).changes))

-- within a turn
pub record IsGoing (a b : TagActorSeen) (consumed : ℕ) : Type 0 where
  pub moves : List TagMove
  pub leads : Leads a moves b
  pub count : consumed_in moves ≡ consumed
  pub fresh : consumed ≡ 0 → moves ≡ []
  pub going : b.ended ≡ false
