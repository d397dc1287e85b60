-- What a file of tags does with a record that is no touch is what the record does to its tags.
use Rattle.std.proofs.Common.{◌≡◌, false, refl, sym, ap}
use Rattle.record_lane.specs.declared.record.Record.{Record}
use Rattle.record_lane.specs.declared.record.Record.TheVariants.{Quiet, Blank, Touch, Meet, Back, End}
use Rattle.tag_policy.specs.Rules.{PolicySeen}
use Rattle.tag_registers.specs.Tags.{Tags, tags_after}
use Rattle.tag_registers.specs.Files.{is_touch, consumed}
use Rattle.tag_registers.proofs.Keeping.{kept_none}

pub consumed_after : (policy : PolicySeen) (tags : Tags) (item : Record) → is_touch item ≡ false → consumed policy tags item ≡ tags_after policy tags item 0
unfolding tags_after
consumed_after policy tags (Quiet step pc insn faulted) h = refl
consumed_after policy tags (Blank step pc) h = refl
consumed_after policy tags (Touch step pc word number why) h = cc
consumed_after policy tags (Meet step pc call kind) h = refl
consumed_after policy tags (Back step pc) h = refl
consumed_after policy tags End h = ap (λ trap. record tags { trap = trap }) (sym (kept_none tags.trap))
