use Rattle.std.proofs.Common.{◌≡◌, Some, None, ap, ◌∙◌, refl, arith}
use Rattle.tag_registers.specs.Files.{tags_in}
use Rattle.syscall_drain.specs.declared.ask.Answer.TheVariants.{Nothing}
use Rattle.syscall_drain.specs.declared.ask.CoreAsk.TheVariants.{Quiet as AsksNothing}
use Rattle.syscall_drain.specs.Records.{unit_record}
use Rattle.syscall_drain.specs.Units.{FitsAsk, next_ask}
use Rattle.syscall_drain.specs.Seen.{local_of, budget_of, item_made}
use Rattle.syscall_drain.proofs.Units.{fits_running}
use Rattle.inline_tracker.specs.Seats.{local_in, core_in}
use Rattle.inline_tracker.proofs.Seating.{asks_of, item_still, item_fits, opens, open_more, seated_more, quiet_core}
use Rattle.inline_tracker.proofs.unit.quiet.Goals as goal

pub keep_tags-requires-clause-still : goal.keep_tags-requires-clause-still
keep_tags-requires-clause-still c =
    let program = c.args.setup.now.program in
    let asks = asks_of program (local_in c.args.seat.now) c.args.unit AsksNothing c.requires.unit.is c.requires.asked in
    item_still program (local_in c.args.seat.now) c.args.unit.ask c.take_answer-made.result.item asks c.requires.asked (rw c.guest.ensures.guest at c.take_answer-made.ensures.item)

pub keep_tags-requires-clause-sound : goal.keep_tags-requires-clause-sound
keep_tags-requires-clause-sound c = item_fits c.guest.result.now.layout 0 c.take_answer-made.result.item (omega arith) c.take_answer-made.ensures.sound

pub close-requires : goal.close-requires
close-requires c =
    let old = c.args.seat.now in
    let asks = asks_of c.args.setup.now.program (local_in old) c.args.unit AsksNothing c.requires.unit.is c.requires.asked in
    let fits : FitsAsk (next_ask c.args.setup.now.program (local_in old)) Nothing = rw asks tt in
    let running = fits_running c.args.setup.now.program (local_in old) Nothing fits in
    let same = c.take_answer-made.ensures.same in
    open_more _ _ _ _ _ _ (c.take_answer-made.ensures.spent.budget ∙ c.requires.seated.budget_is) same.notes same.outcome (opens _ _ _ _ _ _ running c.requires.seated.holds)

pub returns-clause-core : goal.returns-clause-core
returns-clause-core c =
    let s = c.args.setup.now in
    let old = c.args.seat.now in
    let asks = asks_of s.program (local_in old) c.args.unit AsksNothing c.requires.unit.is c.requires.asked in
    let step = ap local_of c.close.ensures.same.state ∙ rw (c.guest.ensures.guest, c.requires.seated.budget_is) at c.take_answer-made.ensures.spent.step in
    let some : c.take_answer-made.result.item ≡ Some (unit_record s.program (local_in old) Nothing) =
    (rw c.guest.ensures.guest at c.take_answer-made.ensures.item) ∙ ap (λ a. item_made a (unit_record s.program (local_in old) Nothing)) c.requires.asked in
    let consumed = rw (some, c.policy.ensures, c.take_answer-made.ensures.same.tags) at c.keep_tags.ensures in
    let tags = ap tags_in c.close.ensures.same.tags ∙ consumed in
    let notes = c.close.ensures.same.notes ∙ rw (c.take_answer-made.ensures.same.notes, c.take_answer-made.ensures.same.outcome) refl in
    quiet_core s (core_in old) _ _ _ asks step tags notes

pub returns-clause-seated : goal.returns-clause-seated
returns-clause-seated c =
    let same = c.close.ensures.same in
    let spent = c.take_answer-made.ensures.spent in
    seated_more c.guest.result.now c.args.setup.now.budget c.args.seat.now c.close.new.seat Nothing (record { touch = None }) c.requires.seated c.requires.sound
    (same.log ∙ c.take_answer-made.ensures.same.log)
    (ap local_of same.state ∙ spent.step)
    (ap budget_of same.state ∙ spent.budget)
    c.close.ensures.holds
