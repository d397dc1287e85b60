use Rattle.std.proofs.Common.{◌+◌, nat_le, ◌++◌, refl, sym, ap, ◌∙◌, arith, List, ℕ}
use Rattle.syscall_drain.specs.declared.ask.CoreAsk.TheVariants.{Touch as Touches}
use Rattle.syscall_drain.specs.declared.ask.Answer.TheVariants.{Taken as Took}
use Rattle.syscall_drain.proofs.RecordKinds.{touch_record}
use Rattle.bounded_list.specs.Bounded.{Bounded}
use Rattle.order_core.specs.declared.entry.Entry.{Entry}
use Rattle.ticket_table.specs.Passes.{PassSeen}
use Rattle.ticket_table.specs.declared.change.Terms.{Terms}
use Rattle.hart_actor.specs.Harts.{Hart}
use Rattle.hart_actor.proofs.UnitSteps.{unit_units, unit_keeps}
use Rattle.hart_actor.proofs.UnitKinds.{asks_at, core_sound_at, room_left, step_at, touch_item, sound_at, touch_stage, touch_shape, placed_bytes, placed_size, touch_done}
use Rattle.hart_actor.proofs.Moving.{unit_at}
use Rattle.hart_actor.proofs.Drawing.{may_draw, terms_at, drawn_changes}
use Rattle.hart_actor.proofs.hart.HartActor.touch.Goals as goal

pub access-taken-requires : goal.access-taken-requires
access-taken-requires c =
    may_draw _ _ c.args.memory.now c.args.guest.now c.args.unit c.args.word c.args.op c.self.view_is c.self.invariant c.requires.guest c.requires.unit.is c.requires.asked c.requires.unit.below c.requires.memory.0 c.requires.memory.1

pub push-requires : goal.push-requires
push-requires c =
    let room = c.self.invariant.room in
    let sound = core_sound_at _ _ c.self.view_is c.requires.sound in
    let spent = c.answer-made.ensures.spent in
    let units = c.units-units.ensures in
    let left = room_left _ _ _ _ (Took c.access-taken.result) sound spent.step (omega (arith, units.units, units.within, spent.budget)) in
    omega (arith, left, room.log.0, room.log.1)

pub put_out-requires-clause-pieces : goal.put_out-requires-clause-pieces
put_out-requires-clause-pieces c =
    let room = c.self.invariant.room in
    let sound = core_sound_at _ _ c.self.view_is c.requires.sound in
    let spent = c.answer-made.ensures.spent in
    let units = c.units-units.ensures in
    let left = room_left _ _ _ _ (Took c.access-taken.result) sound spent.step (omega (arith, units.units, units.within, spent.budget)) in
    omega (arith, left, room.pieces.0, room.pieces.1)

pub invariant_of-self : goal.invariant_of-self
invariant_of-self c =
    let is = c.self.view_is in
    let same = c.requires.guest ∙ sym (ap (λ (h : Hart). h.program) is) in
    let t = c.access-taken.result in
    let drawn = c.access-taken.ensures in
    let made = c.answer-made.ensures in
    let units = c.units-units.ensures in
    let terms = terms_at _ _ c.args.memory.now is c.requires.memory.0 in
    unit_keeps _ _ (Took t) c.self.invariant (touch_done _ _ c.args.word c.args.op t (record {
      asks = asks_at _ _ _ _ (Touches c.args.word c.args.op) is c.requires.guest c.requires.unit.is c.requires.asked;
      sound = core_sound_at _ _ is c.requires.sound;
      told = drawn.spent ∙ ap (λ (u : Terms). nat_le u.limit t.number) (sym terms);
      program = refl;
      budget = made.spent.budget;
      core = made.spent.core;
      terms = ap (λ (p : PassSeen). p.terms) drawn.changed.change;
      caller = ap (λ (p : PassSeen). p.caller) drawn.changed.change;
      local = step_at _ _ _ _ _ (Took t) same made.spent.step;
      within = omega (arith, units.units, units.within, made.spent.budget);
      log = c.push.ensures;
      changes = drawn_changes _ _ _ _ _ _ _ c.self.invariant.caller drawn.changed;
      kept = (refl, refl, refl);
      output = c.put_out.ensures.output ∙ ap (λ (bytes : List ℕ). record c.self.inside.output { items = c.self.inside.output.items ++ bytes })
          (placed_bytes _ _ _ (Took t) c.answer-made.result.placed _ _ same made.placed made.output.kept c.gathered.ensures.bytes);
      pieces = c.put_out.ensures.pieces ∙ ap (λ (sizes : List (ℕ × ℕ)). record c.self.inside.pieces { items = c.self.inside.pieces.items ++ sizes })
          (placed_size _ _ _ (Took t) c.answer-made.result.placed _ _ same made.placed made.output.kept c.gathered.ensures.bytes);
      none = ap (λ (h : Hart). h.unsent) is ∙ c.requires.free.1;
      going = ap (λ (h : Hart). h.stage) is ∙ c.requires.free.0;
      some = touch_item _ _ _ (Took t) _ _ _ _ same c.requires.asked made.item;
      stage = refl;
      spends = drawn.spends;
      record_sound = sound_at _ _ _ _ same (made.sound _ (omega (arith, drawn.below, ap (λ (u : Terms). u.limit + u.callers) terms)));
    }))

pub returns-clause-moved : goal.returns-clause-moved
returns-clause-moved c =
    let is = c.self.view_is in
    let same = c.requires.guest ∙ sym (ap (λ (h : Hart). h.program) is) in
    let t = c.access-taken.result in
    let made = c.answer-made.ensures in
    let asks = asks_at _ _ _ _ (Touches c.args.word c.args.op) is c.requires.guest c.requires.unit.is c.requires.asked in
    let touch = touch_record _ _ t _ _ asks in
    let sound = core_sound_at _ _ is c.requires.sound in
    unit_at _ _ _ _ _ _ is c.requires.free.1 c.requires.free.0 (touch_item _ _ _ (Took t) _ _ _ _ same c.requires.asked made.item) (touch_stage _ _ t _ touch) refl
    (ap (λ (p : PassSeen). p.changes) c.access-taken.ensures.changed.change) (touch_shape _ _ t _ touch) refl refl (unit_units _ _ _ _ (Took t) sound made.spent.step) (ap (λ (log : Bounded Entry). log.items) c.push.ensures)
