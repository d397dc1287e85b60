-- The moves of a tag actor: it takes a record into its hand, it is done with the record in its hand, or it finds that it has to wait (this project's own).
use Rattle.std.specs.Prelude.{◌≡◌, ◌≢◌, ℕ, ◌+◌, true, false, Option, Some, None, List, [], ◌∷◌, ◌++◌, map}
use Rattle.record_lane.specs.declared.record.Record.{Record}
use Rattle.record_lane.specs.declared.record.Record.TheVariants.{Touch}
use Rattle.record_lane.specs.declared.reply.Reply.{Reply}
use Rattle.record_lane.specs.declared.ring.Ring.{Ring}
use Rattle.record_lane.specs.declared.lane.Lane.{Lane}
use Rattle.record_lane.specs.Rings.{taken_by, taker_looks, WasEmpty}
use Rattle.record_lane.specs.Lanes.{sent_by, WasFull}
use Rattle.tag_registers.specs.Tags.{tags_after}
use Rattle.tag_registers.specs.Files.{is_touch}
use Rattle.tag_registers.specs.Folds.{access_of, reply_to}
use Rattle.ticket_table.specs.Passes.{LookedAt}
use Rattle.actor_lists.specs.Folded.{change_by}
use Rattle.tag_actor.specs.declared.answer.TagTurn.{TagTurn}
use Rattle.tag_actor.specs.declared.answer.TagTurn.TheVariants.{Went, Empty, NotYet, ReplyFull, Ended}
use Rattle.tag_actor.specs.declared.answer.Took.{Took}
use Rattle.tag_actor.specs.declared.answer.Took.TheVariants.{Nothing, Consumed, InHand}
use Rattle.tag_actor.specs.Seen.{TagActorSeen, is_meet, is_end}

-- the record comes from the ring into the hand, by one look
pub record HasTaken (a : TagActorSeen) (item : Record) (b : TagActorSeen) : Type 0 where
  pub going : a.ended ≡ false
  pub free : a.hand ≡ None
  pub after : b ≡ record a { hand = Some item; taker = b.taker }
  pub taken : taken_by b.taker ≡ taken_by a.taker ++ item ∷ []
  pub look : taker_looks b.taker ≡ taker_looks a.taker + 1

-- the pass is the same caller's, at the same table
pub record IsSameCaller (a b : TagActorSeen) : Type 0 where
  pub table : (b.pass).table ≡ (a.pass).table
  pub terms : (b.pass).terms ≡ (a.pass).terms
  pub caller : (b.pass).caller ≡ (a.pass).caller

-- the record in the hand is done with, and this tag word was found: an access has changed its word, and a meeting has its reply
pub record HasConsumed (a : TagActorSeen) (item : Record) (found : ℕ) (b : TagActorSeen) : Type 0 where
  pub going : a.ended ≡ false
  pub held : a.hand ≡ Some item
  pub none_found : is_touch item ≡ false → found ≡ 0
  pub hand : b.hand ≡ None
  pub ended : b.ended ≡ is_end item
  pub tags : b.tags ≡ tags_after a.policy a.tags item found
  pub changes : (b.pass).changes ≡ (a.pass).changes ++ map (change_by (a.pass).terms (a.pass).caller) (access_of a.policy a.tags item found)
  pub replies : sent_by b.sender ≡ sent_by a.sender ++ reply_to a.policy a.tags item found
  pub policy : b.policy ≡ a.policy
  pub pass : IsSameCaller a b
  pub taker : b.taker ≡ a.taker

-- one move
pub data TagMove : Type 0 where
  Takes : Record → TagMove
  Consumes : Record → ℕ → TagMove

abbrev pub IsMove : TagActorSeen → TagMove → TagActorSeen → Type 0
IsMove a (Takes item) b = HasTaken a item b
IsMove a (Consumes item found) b = HasConsumed a item found b

-- moves one after another
unfoldable pub Leads : TagActorSeen → List TagMove → TagActorSeen → Type 0
Leads a [] b = b ≡ a
Leads a (move ∷ moves) b = (m : TagActorSeen) × IsMove a move m × Leads m moves b

-- how many records these moves consume
unfoldable pub consumed_in : List TagMove → ℕ
consumed_in [] = 0
consumed_in (Takes item ∷ moves) = consumed_in moves
consumed_in (Consumes item found ∷ moves) = 1 + consumed_in moves

-- ---- waiting

-- no record is in hand, and the ring held none
pub record IsWithoutRecord (items : Ring Record) (a b : TagActorSeen) : Type 0 where
  pub hand : a.hand ≡ None
  pub cause : WasEmpty items a.taker b.taker
  pub after : b ≡ record a { taker = b.taker }
  pub taken : taken_by b.taker ≡ taken_by a.taker

abbrev pub IsAccess : ℕ → ℕ → Record → Type 0
IsAccess word number (Touch step pc touched drawn why) = (touched ≡ word) × (drawn ≡ number)
IsAccess word number _ = ⊥

-- an access with this word and number is in hand, and a step of its pass found the word with another number
pub record IsOutOfTurn (word number seen : ℕ) (a b : TagActorSeen) : Type 0 where
  pub item : Record
  pub hand : a.hand ≡ Some item
  pub access : IsAccess word number item
  pub other : seen ≢ number
  pub cause : LookedAt a.pass b.pass word seen
  pub after : b ≡ record a { pass = b.pass }

-- a meeting is in hand, and the lane of replies was full
pub record IsWithoutRoom (replies : Lane Reply) (a b : TagActorSeen) : Type 0 where
  pub item : Record
  pub hand : a.hand ≡ Some item
  pub meet : is_meet item ≡ true
  pub cause : WasFull replies a.sender b.sender
  pub after : b ≡ record a { sender = b.sender }
  pub sent : sent_by b.sender ≡ sent_by a.sender

-- what each answer of a turn says of why no record could be consumed
abbrev pub IsWaiting : Ring Record → Lane Reply → TagTurn → TagActorSeen → TagActorSeen → Type 0
IsWaiting items replies Went a b = ⊥
IsWaiting items replies Empty a b = IsWithoutRecord items a b
IsWaiting items replies (NotYet word number seen) a b = IsOutOfTurn word number seen a b
IsWaiting items replies ReplyFull a b = IsWithoutRoom replies a b
IsWaiting items replies Ended a b = ⊥

-- ---- what the private calls do

-- a record that needs nothing is taken and consumed, one that has to wait is taken
pub record HasPassed (a b : TagActorSeen) : Type 0 where
  pub item : Record
  pub between : TagActorSeen
  pub takes : HasTaken a item between
  pub consumes : HasConsumed between item 0 b

pub record HasInHand (a b : TagActorSeen) : Type 0 where
  pub item : Record
  pub takes : HasTaken a item b

abbrev pub TookAs : Ring Record → TagActorSeen → TagActorSeen → Took → Type 0
TookAs items a b Nothing = IsWithoutRecord items a b
TookAs items a b Consumed = HasPassed a b
TookAs items a b InHand = HasInHand a b

-- the record in hand is consumed, or has to wait for this cause
pub record HasSettled (a b : TagActorSeen) : Type 0 where
  pub item : Record
  pub found : ℕ
  pub consumes : HasConsumed a item found b

abbrev pub SettledAs : Lane Reply → TagActorSeen → TagActorSeen → Option TagTurn → Type 0
SettledAs replies a b None = HasSettled a b
SettledAs replies a b (Some (NotYet word number seen)) = IsOutOfTurn word number seen a b
SettledAs replies a b (Some ReplyFull) = IsWithoutRoom replies a b
SettledAs replies a b (Some _) = ⊥
