-- Proof form: the tags of a core after checks alone (this project's own).
use Rattle.std.specs.Prelude.{ℕ, List}
use Rattle.tag_policy.specs.Rules.{PolicySeen}
use Rattle.tag_registers.specs.Rows.{Look}
use Rattle.tag_registers.specs.Tags.{Tags, first_trap, kept_trap}

abbrev pub looked_after : PolicySeen → Tags → ℕ → ℕ → List Look → Tags
looked_after policy tags step pc looks = record tags { trap = kept_trap tags.trap (first_trap policy tags step pc looks) }
