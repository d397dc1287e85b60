-- What a file of tags holds, and what it does with a record: what it asks for, and what it holds afterwards (this project's own).
use Rattle.std.specs.Prelude.{Bool, true, false}
use Rattle.record_lane.specs.declared.record.Record.{Record}
use Rattle.record_lane.specs.declared.record.Record.TheVariants.{Touch, Meet, End}
use Rattle.tag_policy.specs.Rules.{PolicySeen}
use Rattle.tag_registers.specs.declared.ask.TagAsk.{TagAsk}
use Rattle.tag_registers.specs.declared.ask.TagAsk.TheVariants.{Done, Serve, Answer, Ended}
use Rattle.tag_registers.specs.declared.file.TagFile.{TagFile}
use Rattle.tag_registers.specs.Tags.{Tags, tags_after, word_op, reply_of}

abbrev pub tags_in : TagFile → Tags
tags_in file = record { registers = file.tags; buffer = file.buffer; trap = file.trap }

abbrev pub is_touch : Record → Bool
is_touch (Touch step pc word number why) = true
is_touch _ = false

-- the operation of a touch, the reply at a meeting
abbrev pub tag_ask : PolicySeen → Tags → Record → TagAsk
tag_ask policy tags (Touch step pc word number why) = Serve word number (word_op policy tags (Touch step pc word number why))
tag_ask policy tags (Meet step pc call kind) = Answer (reply_of (tags_after policy tags (Meet step pc call kind) 0))
tag_ask policy tags End = Ended
tag_ask policy tags _ = Done

-- the tags after it: a touch waits for the tag word that it finds
abbrev pub consumed : PolicySeen → Tags → Record → Tags
consumed policy tags (Touch step pc word number why) = tags
consumed policy tags End = tags
consumed policy tags item = tags_after policy tags item 0
