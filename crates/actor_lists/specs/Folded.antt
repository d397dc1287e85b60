-- What the records of one core, each with the tag word that its unit found, leave of its tag actor: its tags, its changes of tag words and its replies (this project's own).
use Rattle.std.specs.Prelude.{◌≡◌, ℕ, List, map, false}
use Rattle.std.specs.List.{All}
use Rattle.record_lane.specs.declared.record.Record.{Record}
use Rattle.record_lane.specs.declared.reply.Reply.{Reply}
use Rattle.tag_policy.specs.Rules.{PolicySeen}
use Rattle.tag_registers.specs.Files.{is_touch}
use Rattle.tag_registers.specs.Tags.{Tags, no_tags}
use Rattle.tag_registers.specs.Folds.{Given, TagAccess, StandsAt, tag_accesses, replies}
use Rattle.ticket_table.specs.declared.change.Terms.{Terms}
use Rattle.ticket_table.specs.declared.change.Change.{Change}
use Rattle.ticket_table.specs.History.{made}

-- the change of a tag word that this caller makes by an access
abbrev pub change_by : Terms → ℕ → TagAccess → Change
change_by terms caller access = made terms caller access.word access.number access.op access.found

-- a unit that touched no word found the tag word 0
abbrev pub FoundNone : Given → Type 0
FoundNone given = is_touch given.item ≡ false → given.found ≡ 0

pub record IsFolded (policy : PolicySeen) (terms : Terms) (caller : ℕ) (tags : Tags) (items : List Record) (changes : List Change) (sent : List Reply) (givens : List Given) : Type 0 where
  pub stands : StandsAt policy tags givens
  pub items_are : items ≡ map (λ given. given.item) givens
  pub found : All FoundNone givens
  pub changes_are : changes ≡ map (change_by terms caller) (tag_accesses policy no_tags givens)
  pub replies_are : sent ≡ replies policy no_tags givens
