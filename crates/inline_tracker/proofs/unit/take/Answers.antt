use Rattle.std.proofs.Common.{◌≡◌, sym, ap, ◌∙◌, refl, arith}
use Rattle.tag_registers.specs.Files.{tags_in}
use Rattle.syscall_drain.specs.declared.ask.Answer.TheVariants.{Taken as Took}
use Rattle.syscall_drain.specs.declared.ask.CoreAsk.TheVariants.{Touch as Touches}
use Rattle.syscall_drain.specs.Units.{FitsAsk, next_ask}
use Rattle.syscall_drain.specs.Seen.{local_of, budget_of}
use Rattle.syscall_drain.proofs.Units.{fits_running}
use Rattle.machine.specs.Steps.{found_in}
use Rattle.inline_tracker.specs.declared.memory.Cell.{Cell}
use Rattle.inline_tracker.specs.Seats.{local_in, core_in}
use Rattle.inline_tracker.proofs.Seating.{asks_of, item_fits, item_taken, item_touches, opens, open_more, seated_more, took_core, cell_left}
use Rattle.inline_tracker.proofs.unit.take.Goals as goal

pub follow-requires-clause-sound : goal.follow-requires-clause-sound
follow-requires-clause-sound c =
    item_fits c.guest.result.now.layout c.access-taken.result.number c.take_answer-made.result.item (rw c.access-taken.ensures.found (omega (arith, c.requires.few))) c.take_answer-made.ensures.sound

pub follow-requires-clause-touch : goal.follow-requires-clause-touch
follow-requires-clause-touch c =
    let s = c.args.setup.now in
    let old = c.args.seat.now in
    let asks = asks_of s.program (local_in old) c.args.unit (Touches c.args.word c.args.op) c.requires.unit.is c.requires.asked in
    let some = item_taken s.program (local_in old) c.access-taken.result c.args.word c.args.op c.args.unit.ask c.take_answer-made.result.item asks c.requires.asked (rw c.guest.ensures.guest at c.take_answer-made.ensures.item) in
    rw some (item_touches s.program (local_in old) c.access-taken.result c.args.word c.args.op asks)

pub close-requires : goal.close-requires
close-requires c =
    let s = c.args.setup.now in
    let old = c.args.seat.now in
    let asks = asks_of s.program (local_in old) c.args.unit (Touches c.args.word c.args.op) c.requires.unit.is c.requires.asked in
    let fits : FitsAsk (next_ask s.program (local_in old)) (Took c.access-taken.result) = rw asks tt in
    let running = fits_running s.program (local_in old) (Took c.access-taken.result) fits in
    let same = c.take_answer-made.ensures.same in
    open_more _ _ _ _ _ _ (c.take_answer-made.ensures.spent.budget ∙ c.requires.seated.budget_is) same.notes same.outcome (opens _ _ _ _ _ _ running c.requires.seated.holds)

pub returns-clause-core : goal.returns-clause-core
returns-clause-core c = λ w is.
    let s = c.args.setup.now in
    let old = c.args.seat.now in
    let taken : c.access-taken.result ≡ found_in s w = rw (c.access-taken.ensures.found, c.limit.ensures, ← is) refl in
    let tag : c.args.cell.now.tag ≡ w.tag = sym (ap (λ (cell : Cell). cell.tag) is) in
    let asks = asks_of s.program (local_in old) c.args.unit (Touches c.args.word c.args.op) c.requires.unit.is c.requires.asked in
    let some = item_taken s.program (local_in old) c.access-taken.result c.args.word c.args.op c.args.unit.ask c.take_answer-made.result.item asks c.requires.asked (rw c.guest.ensures.guest at c.take_answer-made.ensures.item) in
    let step = ap local_of c.close.ensures.same.state ∙ rw (c.guest.ensures.guest, c.requires.seated.budget_is, taken) at c.take_answer-made.ensures.spent.step in
    let same_tag : c.access-taken.new.self.tag ≡ c.args.cell.now.tag = ap (λ (cell : Cell). cell.tag) c.access-taken.ensures.after in
    let followed = rw (some, c.policy.ensures, c.take_answer-made.ensures.same.tags, same_tag, tag, taken) at c.follow.ensures.tags in
    let tags = ap tags_in c.close.ensures.same.tags ∙ followed in
    let notes = c.close.ensures.same.notes ∙ rw (c.take_answer-made.ensures.same.notes, c.take_answer-made.ensures.same.outcome) refl in
    took_core s (core_in old) w c.args.word c.args.op _ _ _ asks step tags notes

pub returns-clause-cell : goal.returns-clause-cell
returns-clause-cell c = λ w is.
    let s = c.args.setup.now in
    let old = c.args.seat.now in
    let taken : c.access-taken.result ≡ found_in s w = rw (c.access-taken.ensures.found, c.limit.ensures, ← is) refl in
    let asks = asks_of s.program (local_in old) c.args.unit (Touches c.args.word c.args.op) c.requires.unit.is c.requires.asked in
    let some = item_taken s.program (local_in old) c.access-taken.result c.args.word c.args.op c.args.unit.ask c.take_answer-made.result.item asks c.requires.asked (rw c.guest.ensures.guest at c.take_answer-made.ensures.item) in
    let followed = rw (some, c.policy.ensures, c.take_answer-made.ensures.same.tags, c.access-taken.ensures.after, c.limit.ensures, taken) at c.follow.ensures.cell in
    cell_left s (core_in old) w c.args.word c.args.op c.args.cell.now c.follow.new.cell asks is followed

pub returns-clause-seated : goal.returns-clause-seated
returns-clause-seated c =
    let same = c.close.ensures.same in
    let spent = c.take_answer-made.ensures.spent in
    seated_more c.guest.result.now c.args.setup.now.budget c.args.seat.now c.close.new.seat (Took c.access-taken.result) _ c.requires.seated c.requires.sound
    (same.log ∙ c.take_answer-made.ensures.same.log)
    (ap local_of same.state ∙ spent.step)
    (ap budget_of same.state ∙ spent.budget)
    c.close.ensures.holds
