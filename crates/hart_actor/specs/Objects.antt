-- The guest, memory, ring and lane that a hart actor's turns come with, and what no turn changes (this project's own).
use Rattle.std.specs.Prelude.{◌≡◌, ◌+◌, length}
use Rattle.elf_image.specs.Layout.{words_of}
use Rattle.record_lane.specs.declared.record.Record.{Record}
use Rattle.record_lane.specs.declared.reply.Reply.{Reply}
use Rattle.record_lane.specs.declared.ring.Ring.{Ring}
use Rattle.record_lane.specs.declared.lane.Lane.{Lane}
use Rattle.record_lane.specs.Rings.{word_count_of, top_of, IsSenderOf}
use Rattle.record_lane.specs.Lanes.{IsTakerOf}
use Rattle.ticket_table.specs.Passes.{TableSeen, IsPassOf}
use Rattle.syscall_drain.specs.Programs.{Program}
use Rattle.hart_actor.specs.Harts.{Hart}

-- the guest is the actor's, the memory has the words of its image, and the tokens are of the memory, the ring and the lane
pub record AreOf (h : Hart) (program : Program) (memory : TableSeen) (items : Ring Record) (replies : Lane Reply) : Type 0 where
  pub guest : h.program ≡ program
  pub words : length memory.basis.first ≡ words_of program.layout
  pub pass : IsPassOf memory h.pass
  pub sender : IsSenderOf items h.sender
  pub taker : IsTakerOf replies h.taker
  pub item_words : word_count_of items ≡ length memory.basis.first
  pub item_top : top_of items ≡ memory.basis.terms.limit + memory.basis.terms.callers

-- the ring is that of its sender, and for the words and numbers of its guest and its pass
pub record IsRingFor (h : Hart) (items : Ring Record) : Type 0 where
  pub sender : IsSenderOf items h.sender
  pub words : word_count_of items ≡ words_of h.program.layout
  pub top : top_of items ≡ h.pass.terms.limit + h.pass.terms.callers

-- the same actor at a later moment: it has the same guest, budget, core, table, ring and lane
pub record IsSameHart (old new : Hart) : Type 0 where
  pub program : new.program ≡ old.program
  pub budget : new.budget ≡ old.budget
  pub core : new.core ≡ old.core
  pub table : new.pass.table ≡ old.pass.table
  pub terms : new.pass.terms ≡ old.pass.terms
  pub sender : (items : Ring Record) → IsSenderOf items old.sender → IsSenderOf items new.sender
  pub taker : (replies : Lane Reply) → IsTakerOf replies old.taker → IsTakerOf replies new.taker
