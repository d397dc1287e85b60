use Rattle.std.proofs.Common.{refl, sym, ap, ◌∙◌, arith}
use Rattle.syscall_drain.specs.declared.ask.Answer.TheVariants.{Reply as Replied}
use Rattle.bounded_list.specs.Bounded.{Bounded}
use Rattle.order_core.specs.declared.entry.Entry.{Entry}
use Rattle.hart_actor.specs.Harts.{Hart}
use Rattle.hart_actor.proofs.Stages.{stage_asks}
use Rattle.hart_actor.proofs.UnitSteps.{unit_units, unit_keeps}
use Rattle.hart_actor.proofs.UnitKinds.{room_left, step_at, meet_done}
use Rattle.hart_actor.proofs.Moving.{resume_at}
use Rattle.hart_actor.proofs.hart.HartActor.resume.Goals as goal

pub push-requires : goal.push-requires
push-requires g c =
    let room = c.self.invariant.room in
    let spent = c.answer.ensures.spent in
    let units = c.units-units.ensures in
    let left = room_left _ _ _ _ (Replied c.in-Item.reply) c.next-unit.ensures.sound spent.step (omega (arith, units.units, units.within, spent.budget)) in
    omega (arith, left, room.log.0, room.log.1)

pub push_note-requires : goal.push_note-requires
push_note-requires g c =
    let room = c.self.invariant.room in
    let spent = c.answer.ensures.spent in
    let units = c.units-units.ensures in
    let left = room_left _ _ _ _ (Replied c.in-Item.reply) c.next-unit.ensures.sound spent.step (omega (arith, units.units, units.within, spent.budget)) in
    omega (arith, left, room.notes.0, room.notes.1)

pub invariant_of-self-2 : goal.invariant_of-self-2
invariant_of-self-2 g c =
    let is = c.self.view_is in
    let same = c.requires.guest ∙ sym (ap (λ (h : Hart). h.program) is) in
    let spent = c.answer.ensures.spent in
    let units = c.units-units.ensures in
    let meeting = ap (λ (h : Hart). h.stage) is ∙ c.requires.waiting.0 in
    unit_keeps _ _ (Replied c.in-Item.reply) c.self.invariant (meet_done _ _ c.args.item c.in-Item.reply (record {
      asks = stage_asks _ _ _ c.args.item c.self.invariant.at_stage meeting;
      sound = c.next-unit.ensures.sound;
      program = refl;
      budget = spent.budget;
      core = spent.core;
      local = step_at _ _ _ _ _ (Replied c.in-Item.reply) same spent.step;
      within = omega (arith, units.units, units.within, spent.budget);
      log = c.push.ensures;
      taken = c.in-Item.ensures.item;
      notes = c.push_note.ensures;
      kept = (refl, refl, refl, refl);
      none = ap (λ (h : Hart). h.unsent) is ∙ c.requires.waiting.1;
      meeting = meeting;
      still = refl;
      going = refl;
      unspent = c.self.invariant.unspent;
    }))

pub returns-clause-step : goal.returns-clause-step
returns-clause-step g c = λ items.
    resume_at _ _ _ c.args.item c.in-Item.reply _ c.self.view_is c.requires.waiting.0 c.requires.waiting.1 refl refl refl refl c.in-Item.ensures.item c.in-Item.ensures.order
    (unit_units _ _ _ _ (Replied c.in-Item.reply) c.next-unit.ensures.sound c.answer.ensures.spent.step) (ap (λ (log : Bounded Entry). log.items) c.push.ensures)
