-- The law of the operation that a unit asks on the tag word of its word: whatever tag word it finds, it leaves the new one (this project's own).
use Rattle.std.specs.Prelude.{◌≡◌, ℕ, ◌<◌}
use Rattle.rv_execute.specs.Payloads.{changed}
use Rattle.record_lane.specs.declared.record.Record.{Record}
use Rattle.tag_policy.specs.Rules.{PolicySeen}
use Rattle.tag_policy.specs.Memory.{tags_below}
use Rattle.tag_registers.specs.Tags.{Tags, word_tag, word_op}

abbrev pub OperationLeavesTheTag : Type 0
OperationLeavesTheTag =
    (policy : PolicySeen) (tags : Tags) (item : Record) (number old : ℕ) → old < tags_below policy.version
    → changed (word_op policy tags item) number old ≡ word_tag policy tags item old

-- a new tag word is one of its version too
abbrev pub TagsStayBelow : Type 0
TagsStayBelow =
    (policy : PolicySeen) (tags : Tags) (item : Record) (old : ℕ) → old < tags_below policy.version
    → word_tag policy tags item old < tags_below policy.version
