-- A unit keeps what holds of a hart actor.
use Rattle.std.proofs.Common.{◌≡◌, ℕ, ◌+◌, ◌≤◌, Bool, true, false, List, [], ◌∷◌, ◌++◌, Option, Some, None, length, refl, sym, ap, ◌∙◌, arith, length-append}
use Rattle.std.specs.Prelude.{IfSome, option_to_list}
use Rattle.elf_image.specs.Layout.{words_of}
use Rattle.rv_execute.specs.declared.op.Op.{Op}
use Rattle.rv_execute.specs.declared.op.Taken.{Taken}
use Rattle.record_lane.specs.declared.record.Record.{Record}
use Rattle.record_lane.specs.declared.record.Record.TheVariants.{Quiet as QuietRecord, Blank as BlankRecord, Touch as TouchRecord, Meet as MeetRecord, Back, End as EndRecord}
use Rattle.record_lane.specs.Sound.{IsSoundRecord}
use Rattle.record_lane.specs.Rings.{sent_by}
use Rattle.record_lane.specs.Lanes.{taken_by}
use Rattle.ticket_table.specs.Passes.{is_spent}
use Rattle.syscall_drain.specs.Programs.{Program}
use Rattle.syscall_drain.specs.Locals.{Local}
use Rattle.syscall_drain.specs.Tasks.{task_of}
use Rattle.syscall_drain.specs.Units.{FitsAsk, next_ask, task_ask, after_task, spent_unit, answered, placed}
use Rattle.syscall_drain.specs.Records.{unit_record}
use Rattle.syscall_drain.specs.Sound.{IsSound, due}
use Rattle.syscall_drain.specs.Pieces.{bytes_placed}
use Rattle.syscall_drain.specs.declared.task.Task.{Task}
use Rattle.syscall_drain.specs.declared.task.Task.TheVariants.{Over, Quiet, Access, Meeting as MeetingTask}
use Rattle.syscall_drain.specs.declared.ask.CoreAsk.{CoreAsk}
use Rattle.syscall_drain.specs.declared.ask.CoreAsk.TheVariants.{Quiet as AsksNothing, Touch as Touches, Meet as Meets, Ended as AsksNoMore}
use Rattle.syscall_drain.specs.declared.ask.Answer.{Answer}
use Rattle.syscall_drain.specs.declared.ask.Answer.TheVariants.{Nothing, Taken as Took, Reply as Replied}
use Rattle.syscall_drain.proofs.Units.{answered_units, fits_running, places_bytes}
use Rattle.actor_lists.specs.Walked.{access_by, draw_by, reply_in, note_of, note_by, SaysSpent}
use Rattle.actor_lists.proofs.WalkedLists.{run_grows}
use Rattle.hart_actor.specs.declared.stage.Stage.TheVariants.{Going}
use Rattle.hart_actor.specs.Harts.{Hart, ahead, cut, cut_length, size_placed}
use Rattle.hart_actor.specs.Standing.{top_of, HasRoom, IsHart}
use Rattle.hart_actor.proofs.Cutting.{cut_more, cut_length_more}

-- what a unit with this answer did to each field
pub record UnitDone (h g : Hart) (a : Answer) : Type 0 where
  pub program : g.program ≡ h.program
  pub budget : g.budget ≡ h.budget
  pub core : g.core ≡ h.core
  pub terms : g.pass.terms ≡ h.pass.terms
  pub caller : g.pass.caller ≡ h.pass.caller
  pub sound : IsSound h.local
  pub fits : FitsAsk (next_ask h.program h.local) a
  pub told : SaysSpent h.pass.terms.limit a
  pub local : g.local ≡ answered h.program h.budget h.local a
  pub within : g.local.units ≤ h.budget
  pub log : g.log ≡ record h.log { items = h.log.items ++ record { touch = access_by (next_ask h.program h.local) a } ∷ [] }
  pub changes : g.pass.changes ≡ h.pass.changes ++ draw_by h.pass.terms h.core (next_ask h.program h.local) a
  pub replies : taken_by g.taker ≡ taken_by h.taker ++ reply_in a
  pub notes : g.notes ≡ record h.notes { items = h.notes.items ++ note_by (next_ask h.program h.local) a }
  pub output : g.output ≡ record h.output { items = h.output.items ++ bytes_placed (placed h.program h.local a) h.local.gathered }
  pub pieces : g.pieces ≡ record h.pieces { items = h.pieces.items ++ size_placed (placed h.program h.local a) h.local.gathered }
  pub sent : (records : List Record) → sent_by h.sender ++ option_to_list h.unsent ≡ records ++ ahead h.stage
      → sent_by g.sender ++ option_to_list g.unsent ≡ (records ++ unit_record h.program h.local a ∷ []) ++ ahead g.stage
  pub stage : g.stage ≡ Going
  pub unspent : g.local.ending ≡ None → is_spent g.pass ≡ false
  pub record_sound : IfSome g.unsent (IsSoundRecord (words_of h.program.layout) (top_of h))

-- ---- sizes

one_note : (ask : CoreAsk) (a : Answer) → length (note_by ask a) ≤ 1
one_note AsksNothing a = omega arith
one_note (Touches word op) a = omega arith
one_note (Meets item) Nothing = omega arith
one_note (Meets item) (Took t) = omega arith
one_note (Meets item) (Replied reply) = of_record item
  where
    of_record : (item : Record) → length (note_of item reply) ≤ 1
    of_record (QuietRecord step pc insn faulted) = omega arith
    of_record (BlankRecord step pc) = omega arith
    of_record (TouchRecord step pc word number why) = omega arith
    of_record (MeetRecord step pc call kind) = omega arith
    of_record (Back step pc) = omega arith
    of_record EndRecord = omega arith
one_note AsksNoMore a = omega arith

one_piece : (place : Option ℕ) (bytes : List ℕ) → length (size_placed place bytes) ≤ 1
one_piece None bytes = omega arith
one_piece (Some place) bytes = omega arith

-- a unit within the budget leaves room for itself
pub unit_units : (program : Program) (budget : ℕ) (l after : Local) (a : Answer) → IsSound l → after ≡ answered program budget l a → after.units ≡ l.units + 1
unit_units program budget l after a sound step = ap (λ (m : Local). m.units) step ∙ answered_units program budget l a sound

unit_room : (h g : Hart) (a : Answer) → HasRoom h → UnitDone h g a → HasRoom g
unit_room h g a room d =
    let units : g.local.units ≡ h.local.units + 1 = unit_units h.program h.budget h.local g.local a d.sound d.local in
    let few = (places_bytes h.program h.budget h.local a (fits_running h.program h.local a d.fits) d.sound).few in
    let due_is : due g.local ≡ due (answered h.program h.budget h.local a) = ap due d.local in
    let place : Option ℕ = placed h.program h.local a in record {
      spent = omega (arith, d.within, d.budget);
      most = omega (arith, d.budget, room.most);
      log = rw d.log (simp length-append (omega (arith, units, room.log.0)), room.log.1 ∙ sym d.budget);
      notes = rw d.notes (simp length-append (omega (arith, units, room.notes.0, one_note (next_ask h.program h.local) a)), room.notes.1 ∙ sym d.budget);
      pieces = rw d.pieces (simp length-append (omega (arith, units, room.pieces.0, one_piece place h.local.gathered)), room.pieces.1 ∙ sym d.budget);
      output = rw d.output (simp length-append (omega (arith, units, room.output.0, few, due_is)), omega (arith, room.output.1, d.budget));
    }

unit_whole : (h g : Hart) (a : Answer) → cut_length h.pieces.items ≡ length h.output.items → UnitDone h g a → cut_length g.pieces.items ≡ length g.output.items
unit_whole h g a whole d =
    let place : Option ℕ = placed h.program h.local a in
    rw (d.pieces, d.output) (simp length-append (omega (arith, whole, cut_length_more h.pieces.items place h.local.gathered)))

pub unit_keeps : (h g : Hart) (a : Answer) → IsHart h → UnitDone h g a → IsHart g
unit_keeps h g a is d =
    let place : Option ℕ = placed h.program h.local a in
    let grown = run_grows h.program h.budget h.core h.pass.terms h.local h.log.items h.pass.changes is.records (taken_by h.taker) h.notes.items (cut h.pieces.items h.output.items) is.answers a is.has_run d.fits d.told in
    let units : g.local.units ≡ h.local.units + 1 = unit_units h.program h.budget h.local g.local a d.sound d.local in record {
      answers = is.answers ++ a ∷ [];
      records = is.records ++ unit_record h.program h.local a ∷ [];
      has_run =
          rw (d.program, d.budget, d.core, d.terms, d.local, d.log, d.changes, d.replies, d.notes, d.pieces, d.output, cut_more h.pieces.items h.output.items place h.local.gathered is.whole) grown;
      count = simp length-append (omega (arith, is.count, units));
      sent_is = d.sent is.records is.sent_is;
      at_stage = rw d.stage tt;
      caller = d.caller ∙ is.caller ∙ sym d.core;
      unspent = d.unspent;
      sound = rw (d.program, d.terms) d.record_sound;
      some_number = rw d.terms is.some_number;
      whole = unit_whole h g a is.whole d;
      room = unit_room h g a is.room d;
    }

-- ---- an access that is spent ends its core

spent_by : (program : Program) (budget : ℕ) (l : Local) (task : Task) (t : Taken) (word : ℕ) (op : Op) → task_ask l task ≡ Touches word op → t.spent ≡ true
    → (spent_unit budget (after_task program l task (Took t))).ending ≡ None → ⊥
spent_by program budget l Over t word op asks spent going = cc
spent_by program budget l (Quiet reason) t word op asks spent going = cc
spent_by program budget l (Access own own_op reason) t word op asks spent going = let e = rw spent at going in cc
spent_by program budget l (MeetingTask kind) t word op asks spent going = cc

pub going_unspent : (program : Program) (budget : ℕ) (l after : Local) (t : Taken) (word : ℕ) (op : Op) → next_ask program l ≡ Touches word op → after ≡ answered program budget l (Took t)
    → after.ending ≡ None → t.spent ≡ false
unfolding next_ask answered
going_unspent program budget l after t word op asks step going = by_spent t.spent refl
  where
    there : (spent_unit budget (after_task program l (task_of program l) (Took t))).ending ≡ None
    there = sym (ap (λ (m : Local). m.ending) step) ∙ going

    by_spent : (b : Bool) → t.spent ≡ b → b ≡ false
    by_spent true e = absurd (spent_by program budget l (task_of program l) t word op asks e there)
    by_spent false e = refl
