use Rattle.std.proofs.Common.{◌≡◌, None, ◌++◌, ap, ◌∙◌}
use Rattle.tag_registers.specs.Tags.{tags_after, reply_of}
use Rattle.tag_registers.specs.Files.{tags_in}
use Rattle.tag_registers.specs.declared.ask.TagAsk.TheVariants.{Answer as Answers}
use Rattle.syscall_drain.specs.declared.ask.Answer.TheVariants.{Reply as Replied}
use Rattle.syscall_drain.specs.declared.ask.CoreAsk.TheVariants.{Meet as Meets}
use Rattle.syscall_drain.specs.Units.{FitsAsk, next_ask}
use Rattle.syscall_drain.specs.Seen.{local_of, budget_of}
use Rattle.syscall_drain.proofs.Units.{fits_running}
use Rattle.inline_tracker.specs.Seats.{local_in, core_in, notes_held}
use Rattle.inline_tracker.proofs.Seating.{asks_of, is_met, opens, open_more, noted_open, noted_held, seated_more, meeting_core}
use Rattle.inline_tracker.proofs.unit.meet.Goals as goal

pub consume-requires : goal.consume-requires
consume-requires c =
    let s = c.args.setup.now in
    let asks = asks_of s.program (local_in c.args.seat.now) c.args.unit (Meets c.args.item) c.requires.unit.is c.requires.asked in
    (is_met s.policy (tags_in c.args.seat.now.tags) s.program (local_in c.args.seat.now) c.args.item asks).fits

pub unreachable-requires : goal.unreachable-requires
unreachable-requires c =
    let s = c.args.setup.now in
    let asks = asks_of s.program (local_in c.args.seat.now) c.args.unit (Meets c.args.item) c.requires.unit.is c.requires.asked in
    let met = is_met s.policy (tags_in c.args.seat.now.tags) s.program (local_in c.args.seat.now) c.args.item asks in
    c.in_default.not-Answer _ ((rw c.policy.ensures at c.consume.ensures.ask) ∙ met.asks)

pub close-requires : goal.close-requires
close-requires c =
    let s = c.args.setup.now in
    let old = c.args.seat.now in
    let asks = asks_of s.program (local_in old) c.args.unit (Meets c.args.item) c.requires.unit.is c.requires.asked in
    let fits : FitsAsk (next_ask s.program (local_in old)) (Replied c.in-Answer.reply) = rw asks tt in
    let running = fits_running s.program (local_in old) (Replied c.in-Answer.reply) fits in
    let same = c.take_answer.ensures.same in
    open_more _ _ _ _ _ _ (c.take_answer.ensures.spent.budget ∙ c.requires.seated.budget_is) (same.notes ∙ c.keep_note.ensures) same.outcome
    (noted_open _ _ _ c.note_of-note.result (opens _ _ _ _ _ _ running c.requires.seated.holds))

pub returns-clause-core : goal.returns-clause-core
returns-clause-core c =
    let s = c.args.setup.now in
    let old = c.args.seat.now in
    let reply = c.in-Answer.reply in
    let asks = asks_of s.program (local_in old) c.args.unit (Meets c.args.item) c.requires.unit.is c.requires.asked in
    let met = is_met s.policy (tags_in old.tags) s.program (local_in old) c.args.item asks in
    let told : Answers reply ≡ Answers (reply_of (tags_after s.policy (tags_in old.tags) c.args.item 0)) = (rw c.policy.ensures at c.in-Answer.ensures.ask) ∙ met.asks in
    let reply_is : reply ≡ reply_of (tags_after s.policy (tags_in old.tags) c.args.item 0) = cc in
    let step = ap local_of c.close.ensures.same.state ∙ rw (c.guest.ensures.guest, c.requires.seated.budget_is) at c.take_answer.ensures.spent.step in
    let tags = ap tags_in (c.close.ensures.same.tags ∙ c.take_answer.ensures.same.tags) ∙ (rw c.policy.ensures at c.consume.ensures.tags) ∙ met.after in
    let fits : FitsAsk (next_ask s.program (local_in old)) (Replied reply) = rw asks tt in
    let running = fits_running s.program (local_in old) (Replied reply) fits in
    let notes = c.close.ensures.same.notes ∙ rw (c.take_answer.ensures.same.notes, c.take_answer.ensures.same.outcome, c.keep_note.ensures) (noted_held s.budget old.notes old.outcome c.note_of-note.result (opens _ _ _ _ _ _ running c.requires.seated.holds))
    ∙ ap (λ more. notes_held old.notes old.outcome ++ more) c.note_of-note.ensures in
    meeting_core s (core_in old) c.args.item reply _ _ _ asks reply_is step tags notes

pub returns-clause-seated : goal.returns-clause-seated
returns-clause-seated c =
    let same = c.close.ensures.same in
    let spent = c.take_answer.ensures.spent in
    seated_more c.guest.result.now c.args.setup.now.budget c.args.seat.now c.close.new.seat (Replied c.in-Answer.reply) (record { touch = None }) c.requires.seated c.requires.sound
    (same.log ∙ c.take_answer.ensures.same.log)
    (ap local_of same.state ∙ spent.step)
    (ap budget_of same.state ∙ spent.budget)
    c.close.ensures.holds
