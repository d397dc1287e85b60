use Rattle.std.proofs.Common.{[], refl, sym, ap, ◌∙◌, arith, append-nil}
use Rattle.syscall_drain.specs.declared.ask.CoreAsk.TheVariants.{Quiet as AsksNothing}
use Rattle.syscall_drain.specs.declared.ask.Answer.TheVariants.{Nothing}
use Rattle.syscall_drain.proofs.RecordKinds.{still_record}
use Rattle.bounded_list.specs.Bounded.{Bounded}
use Rattle.order_core.specs.declared.entry.Entry.{Entry}
use Rattle.hart_actor.specs.Harts.{Hart}
use Rattle.hart_actor.proofs.UnitSteps.{unit_units, unit_keeps}
use Rattle.hart_actor.proofs.UnitKinds.{asks_at, core_sound_at, room_left, step_at, quiet_item, sound_at, still_stage, still_shape, quiet_done}
use Rattle.hart_actor.proofs.Moving.{unit_at}
use Rattle.hart_actor.proofs.hart.HartActor.rest.Goals as goal

pub push-requires : goal.push-requires
push-requires c =
    let room = c.self.invariant.room in
    let sound = core_sound_at _ _ c.self.view_is c.requires.sound in
    let spent = c.answer-made.ensures.spent in
    let units = c.units-units.ensures in
    let left = room_left _ _ _ _ Nothing sound spent.step (omega (arith, units.units, units.within, spent.budget)) in
    omega (arith, left, room.log.0, room.log.1)

pub invariant_of-self : goal.invariant_of-self
invariant_of-self c =
    let is = c.self.view_is in
    let same = c.requires.guest ∙ sym (ap (λ (h : Hart). h.program) is) in
    let spent = c.answer-made.ensures.spent in
    let units = c.units-units.ensures in
    unit_keeps _ _ Nothing c.self.invariant (quiet_done _ _ (record {
      asks = asks_at _ _ _ _ AsksNothing is c.requires.guest c.requires.unit.is c.requires.asked;
      sound = core_sound_at _ _ is c.requires.sound;
      program = refl;
      budget = spent.budget;
      core = spent.core;
      local = step_at _ _ _ _ _ Nothing same spent.step;
      within = omega (arith, units.units, units.within, spent.budget);
      log = c.push.ensures;
      kept = (refl, refl, refl, refl, refl, refl);
      none = ap (λ (h : Hart). h.unsent) is ∙ c.requires.free.1;
      going = ap (λ (h : Hart). h.stage) is ∙ c.requires.free.0;
      some = quiet_item _ _ _ Nothing _ _ same c.requires.asked c.answer-made.ensures.item;
      stage = refl;
      unspent = c.self.invariant.unspent;
      record_sound = sound_at _ _ _ _ same (c.answer-made.ensures.sound _ c.self.invariant.some_number);
    }))

pub returns-clause-moved : goal.returns-clause-moved
returns-clause-moved c =
    let is = c.self.view_is in
    let same = c.requires.guest ∙ sym (ap (λ (h : Hart). h.program) is) in
    let spent = c.answer-made.ensures.spent in
    let asks = asks_at _ _ _ _ AsksNothing is c.requires.guest c.requires.unit.is c.requires.asked in
    let still = still_record _ _ Nothing asks in
    let sound = core_sound_at _ _ is c.requires.sound in
    unit_at _ _ _ _ [] _ is c.requires.free.1 c.requires.free.0 (quiet_item _ _ _ Nothing _ _ same c.requires.asked c.answer-made.ensures.item) (still_stage _ still) refl
    (sym (append-nil c.self.inside.pass.changes)) (still_shape _ still) refl refl (unit_units _ _ _ _ Nothing sound spent.step) (ap (λ (log : Bounded Entry). log.items) c.push.ensures)
