use Rattle.elf_image.specs.Layout.{words_of}
use Rattle.syscall_drain.specs.Units.{taken_of}
use Rattle.syscall_drain.specs.Records.{unit_record}
use Rattle.syscall_drain.specs.Seen.{local_of}
use Rattle.syscall_drain.proofs.RecordLemmas.{item_sound}
use Rattle.syscall_drain.proofs.core_state.CoreState.answer.Goals as goal

pub returns-clause-item : goal.returns-clause-item
unfolding unit_record
returns-clause-item c = rw c.requires.unit.is (rw (c.requires.unit.is, c.taken_of.ensures) at c.item-item.ensures)

pub returns-clause-sound : goal.returns-clause-sound
returns-clause-sound c = λ top below.
    item_sound (words_of c.args.guest.now.layout) top (local_of c.args.self.now) c.args.unit.task (taken_of c.args.given) c.args.unit.ask c.item-item.result (rw c.taken_of.ensures at c.item-item.ensures) c.requires.unit.sound below
