-- A record as the protocol of cores, lanes and tag service has it: its shape, and the number that its access drew (this project's own).
use Rattle.record_lane.specs.declared.record.Record.{Record}
use Rattle.record_lane.specs.declared.record.Record.TheVariants.{Quiet, Blank, Touch, Meet, Back, End}
use Rattle.order_core.specs.declared.shape.Shape.TheVariants.{Quiet as QuietShape, Touch as TouchShape, Meet as MeetShape, End as EndShape}
use Rattle.order_core.specs.declared.shape.Queued.{Queued}

abbrev pub queued_of : Record → Queued
queued_of (Quiet step pc insn faulted) = record { shape = QuietShape; number = 0 }
queued_of (Blank step pc) = record { shape = QuietShape; number = 0 }
queued_of (Touch step pc word number why) = record { shape = TouchShape word; number = number }
queued_of (Meet step pc call kind) = record { shape = MeetShape; number = 0 }
queued_of (Back step pc) = record { shape = QuietShape; number = 0 }
queued_of End = record { shape = EndShape; number = 0 }
