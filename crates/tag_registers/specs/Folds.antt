-- The tags of a core after a list of records, each with the tag word found, and what the records ask on the way (this project's own).
use Rattle.std.specs.Prelude.{◌≡◌, ℕ, List, [], ◌∷◌, ◌++◌}
use Rattle.rv_execute.specs.declared.op.Op.{Op}
use Rattle.record_lane.specs.declared.record.Record.{Record}
use Rattle.record_lane.specs.declared.record.Record.TheVariants.{Touch, Meet}
use Rattle.record_lane.specs.declared.reply.Reply.{Reply}
use Rattle.tag_policy.specs.Rules.{PolicySeen}
use Rattle.tag_registers.specs.Tags.{Tags, no_tags, tags_after, word_op, reply_of}

-- a record, and the tag word that its unit found; 0 where it touched no word
pub record Given : Type 0 where
  pub item : Record
  pub found : ℕ

unfoldable pub tags_fold : PolicySeen → Tags → List Given → Tags
tags_fold policy tags [] = tags
tags_fold policy tags (given ∷ rest) = tags_fold policy (tags_after policy tags given.item given.found) rest

-- what each record gives, of the tags before it
unfoldable pub folded : {A : Type 0} → (PolicySeen → Tags → Given → List A) → PolicySeen → Tags → List Given → List A
folded each policy tags [] = []
folded each policy tags (given ∷ rest) = each policy tags given ++ folded each policy (tags_after policy tags given.item given.found) rest

-- the operation of one record on the tag word of its word, and what it found there
pub record TagAccess : Type 0 where
  pub word : ℕ
  pub number : ℕ
  pub op : Op
  pub found : ℕ

abbrev pub access_of : PolicySeen → Tags → Record → ℕ → List TagAccess
access_of policy tags (Touch step pc word number why) found =
    record { word = word; number = number; op = word_op policy tags (Touch step pc word number why); found = found } ∷ []
access_of policy tags _ found = []

-- the reply to one record, of the tags after its unit
abbrev pub reply_to : PolicySeen → Tags → Record → ℕ → List Reply
reply_to policy tags (Meet step pc call kind) found = reply_of (tags_after policy tags (Meet step pc call kind) found) ∷ []
reply_to policy tags _ found = []

-- the accesses to tag words and the replies of a list of records, in their order
abbrev pub tag_accesses : PolicySeen → Tags → List Given → List TagAccess
tag_accesses = folded (λ policy tags given. access_of policy tags given.item given.found)

abbrev pub replies : PolicySeen → Tags → List Given → List Reply
replies = folded (λ policy tags given. reply_to policy tags given.item given.found)

-- the tags stand where this list of records leaves fresh ones
abbrev pub StandsAt : PolicySeen → Tags → List Given → Type 0
StandsAt policy tags givens = tags ≡ tags_fold policy no_tags givens
