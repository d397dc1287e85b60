-- What the three kinds of unit do to each field of a hart actor.
use Rattle.std.proofs.Common.{◌≡◌, ℕ, ◌+◌, ◌≤◌, nat_le, false, List, [], ◌∷◌, ◌++◌, Option, Some, None, length, refl, sym, ap, ◌∙◌, subst, arith, append-nil}
use Rattle.std.specs.Prelude.{IfSome, OnSome, option_to_list}
use Rattle.elf_image.specs.Layout.{words_of}
use Rattle.rv_execute.specs.declared.op.Op.{Op}
use Rattle.rv_execute.specs.declared.op.Taken.{Taken}
use Rattle.record_lane.specs.declared.record.Record.{Record}
use Rattle.record_lane.specs.declared.record.Record.TheVariants.{Quiet as QuietRecord, Blank as BlankRecord, Touch as TouchRecord, Meet as MeetRecord, Back, End as EndRecord}
use Rattle.record_lane.specs.declared.reply.Reply.{Reply}
use Rattle.record_lane.specs.declared.note.CallNote.{CallNote}
use Rattle.record_lane.specs.declared.ring_token.RingSender.{RingSender}
use Rattle.record_lane.specs.Sound.{IsSoundRecord}
use Rattle.record_lane.specs.Rings.{sent_by}
use Rattle.record_lane.specs.Lanes.{taken_by}
use Rattle.ticket_table.specs.History.{made}
use Rattle.ticket_table.specs.Passes.{is_spent}
use Rattle.syscall_drain.specs.Programs.{Program}
use Rattle.syscall_drain.specs.Locals.{Local}
use Rattle.syscall_drain.specs.Units.{FitsAsk, next_ask, answered, placed}
use Rattle.syscall_drain.specs.Records.{unit_record, IsStill}
use Rattle.syscall_drain.specs.Sound.{IsSound}
use Rattle.syscall_drain.specs.Pieces.{bytes_placed}
use Rattle.syscall_drain.specs.Seen.{next_unit, item_made}
use Rattle.syscall_drain.specs.declared.ask.CoreAsk.{CoreAsk}
use Rattle.syscall_drain.specs.declared.ask.CoreAsk.TheVariants.{Quiet as AsksNothing, Touch as Touches, Meet as Meets}
use Rattle.syscall_drain.specs.declared.ask.Answer.{Answer}
use Rattle.syscall_drain.specs.declared.ask.Answer.TheVariants.{Nothing, Taken as Took, Reply as Replied}
use Rattle.syscall_drain.specs.declared.ask.NextUnit.{NextUnit}
use Rattle.syscall_drain.proofs.Units.{fits_running}
use Rattle.syscall_drain.proofs.RecordKinds.{meeting_record, IsTouchOf}
use Rattle.actor_lists.specs.Walked.{note_of}
use Rattle.hart_actor.specs.declared.stage.Stage.{Stage}
use Rattle.hart_actor.specs.declared.stage.Stage.TheVariants.{Going, Meeting}
use Rattle.hart_actor.specs.Harts.{Hart, ahead, size_placed}
use Rattle.hart_actor.specs.Standing.{top_of}
use Rattle.hart_actor.proofs.Stages.{sent_all}
use Rattle.hart_actor.proofs.UnitSteps.{UnitDone, going_unspent, unit_units}
use Rattle.actor_lists.specs.Queued.{queued_of}
use Rattle.hart_actor.specs.Moves.{drawn_as}
use Rattle.hart_actor.proofs.Moving.{stage_with}

-- what the next unit asks, of an actor as its callers see it
pub asks_at : (v now : Hart) (program : Program) (unit : NextUnit) (ask : CoreAsk) → v ≡ now → program ≡ now.program → unit ≡ next_unit program now.local → unit.ask ≡ ask → next_ask v.program v.local ≡ ask
asks_at v now program unit ask is guest next asked =
    ap (λ (h : Hart). next_ask h.program h.local) is ∙ ap (λ (p : Program). next_ask p now.local) (sym guest) ∙ ap (λ (u : NextUnit). u.ask) (sym next) ∙ asked

-- ---- the records

-- a unit's record follows those before it
work_sent : (v g : Hart) (item : Record) → v.unsent ≡ None → v.stage ≡ Going → g.unsent ≡ Some item → g.stage ≡ v.stage → g.sender ≡ v.sender → (records : List Record)
    → sent_by v.sender ++ option_to_list v.unsent ≡ records ++ ahead v.stage → sent_by g.sender ++ option_to_list g.unsent ≡ (records ++ item ∷ []) ++ ahead g.stage
work_sent v g item none going some stage sender records sent =
    let all : sent_by v.sender ≡ records = sent_all (sent_by v.sender) records v.unsent none (sent ∙ ap (λ (s : Stage). records ++ ahead s) going) in
    ap (λ (s : RingSender Record). sent_by s ++ option_to_list g.unsent) sender
    ∙ ap (λ (o : Option Record). sent_by v.sender ++ option_to_list o) some
    ∙ ap (λ xs. xs ++ item ∷ []) all
    ∙ sym (append-nil (records ++ item ∷ []))
    ∙ ap (λ (s : Stage). (records ++ item ∷ []) ++ ahead s) (sym (stage ∙ going))

-- that of a meeting was ahead
met_sent : (v g : Hart) (item told : Record) → told ≡ item → v.unsent ≡ None → v.stage ≡ Meeting item → g.unsent ≡ v.unsent → g.stage ≡ Going → g.sender ≡ v.sender → (records : List Record)
    → sent_by v.sender ++ option_to_list v.unsent ≡ records ++ ahead v.stage → sent_by g.sender ++ option_to_list g.unsent ≡ (records ++ told ∷ []) ++ ahead g.stage
met_sent v g item told same none meeting still going sender records sent =
    ap (λ (s : RingSender Record). sent_by s ++ option_to_list g.unsent) sender
    ∙ ap (λ (o : Option Record). sent_by v.sender ++ option_to_list o) still
    ∙ sent
    ∙ ap (λ (s : Stage). records ++ ahead s) meeting
    ∙ ap (λ (r : Record). records ++ r ∷ []) (sym same)
    ∙ sym (append-nil (records ++ told ∷ []))
    ∙ ap (λ (s : Stage). (records ++ told ∷ []) ++ ahead s) (sym going)

-- ---- a unit that asks for nothing

pub record QuietDone (v g : Hart) : Type 0 where
  pub asks : next_ask v.program v.local ≡ AsksNothing
  pub sound : IsSound v.local
  pub program : g.program ≡ v.program
  pub budget : g.budget ≡ v.budget
  pub core : g.core ≡ v.core
  pub local : g.local ≡ answered v.program v.budget v.local Nothing
  pub within : g.local.units ≤ v.budget
  pub log : g.log ≡ record v.log { items = v.log.items ++ record { touch = None } ∷ [] }
  pub kept : (g.pass ≡ v.pass) × (g.sender ≡ v.sender) × (g.taker ≡ v.taker) × (g.notes ≡ v.notes) × (g.output ≡ v.output) × (g.pieces ≡ v.pieces)
  pub none : v.unsent ≡ None
  pub going : v.stage ≡ Going
  pub some : g.unsent ≡ Some (unit_record v.program v.local Nothing)
  pub stage : g.stage ≡ v.stage
  pub unspent : v.local.ending ≡ None → is_spent v.pass ≡ false
  pub record_sound : IfSome g.unsent (IsSoundRecord (words_of v.program.layout) (top_of v))

pub quiet_done : (v g : Hart) → QuietDone v g → UnitDone v g Nothing
unfolding placed
quiet_done v g q =
    let fits : FitsAsk (next_ask v.program v.local) Nothing = rw q.asks tt in
    let spent : is_spent v.pass ≡ false = q.unspent (fits_running v.program v.local Nothing fits) in record {
      program = q.program;
      budget = q.budget;
      core = q.core;
      terms = ap (λ p. p.terms) q.kept.0;
      caller = ap (λ p. p.caller) q.kept.0;
      sound = q.sound;
      fits = fits;
      told = tt;
      local = q.local;
      within = q.within;
      log = rw q.asks q.log;
      changes = rw q.asks (ap (λ p. p.changes) q.kept.0 ∙ sym (append-nil v.pass.changes));
      replies = ap taken_by q.kept.2 ∙ sym (append-nil (taken_by v.taker));
      notes = rw q.asks (q.kept.3 ∙ ap (λ (items : List CallNote). record v.notes { items = items }) (sym (append-nil v.notes.items)));
      output = rw q.asks (q.kept.4 ∙ ap (λ (items : List ℕ). record v.output { items = items }) (sym (append-nil v.output.items)));
      pieces = rw q.asks (q.kept.5 ∙ ap (λ (items : List (ℕ × ℕ)). record v.pieces { items = items }) (sym (append-nil v.pieces.items)));
      sent = work_sent v g (unit_record v.program v.local Nothing) q.none q.going q.some q.stage q.kept.1;
      stage = q.stage ∙ q.going;
      unspent = λ going. ap is_spent q.kept.0 ∙ spent;
      record_sound = q.record_sound;
    }

-- ---- one with an access

pub record TouchDone (v g : Hart) (word : ℕ) (op : Op) (t : Taken) : Type 0 where
  pub asks : next_ask v.program v.local ≡ Touches word op
  pub sound : IsSound v.local
  pub told : t.spent ≡ nat_le v.pass.terms.limit t.number
  pub program : g.program ≡ v.program
  pub budget : g.budget ≡ v.budget
  pub core : g.core ≡ v.core
  pub terms : g.pass.terms ≡ v.pass.terms
  pub caller : g.pass.caller ≡ v.pass.caller
  pub local : g.local ≡ answered v.program v.budget v.local (Took t)
  pub within : g.local.units ≤ v.budget
  pub log : g.log ≡ record v.log { items = v.log.items ++ record { touch = Some (record { word = word; number = t.number; found = t.old }) } ∷ [] }
  pub changes : g.pass.changes ≡ v.pass.changes ++ made v.pass.terms v.core word t.number op t.old ∷ []
  pub kept : (g.sender ≡ v.sender) × (g.taker ≡ v.taker) × (g.notes ≡ v.notes)
  pub output : g.output ≡ record v.output { items = v.output.items ++ bytes_placed (placed v.program v.local (Took t)) v.local.gathered }
  pub pieces : g.pieces ≡ record v.pieces { items = v.pieces.items ++ size_placed (placed v.program v.local (Took t)) v.local.gathered }
  pub none : v.unsent ≡ None
  pub going : v.stage ≡ Going
  pub some : g.unsent ≡ Some (unit_record v.program v.local (Took t))
  pub stage : g.stage ≡ v.stage
  pub spends : is_spent g.pass ≡ t.spent
  pub record_sound : IfSome g.unsent (IsSoundRecord (words_of v.program.layout) (top_of v))

pub touch_done : (v g : Hart) (word : ℕ) (op : Op) (t : Taken) → TouchDone v g word op t → UnitDone v g (Took t)
touch_done v g word op t q =
    let fits : FitsAsk (next_ask v.program v.local) (Took t) = rw q.asks tt in record {
      program = q.program;
      budget = q.budget;
      core = q.core;
      terms = q.terms;
      caller = q.caller;
      sound = q.sound;
      fits = fits;
      told = q.told;
      local = q.local;
      within = q.within;
      log = rw q.asks q.log;
      changes = rw q.asks q.changes;
      replies = ap taken_by q.kept.1 ∙ sym (append-nil (taken_by v.taker));
      notes = rw q.asks (q.kept.2 ∙ ap (λ (items : List CallNote). record v.notes { items = items }) (sym (append-nil v.notes.items)));
      output = q.output;
      pieces = q.pieces;
      sent = work_sent v g (unit_record v.program v.local (Took t)) q.none q.going q.some q.stage q.kept.0;
      stage = q.stage ∙ q.going;
      unspent = λ going. q.spends ∙ going_unspent v.program v.budget v.local g.local t word op q.asks q.local going;
      record_sound = q.record_sound;
    }

-- ---- a meeting, when its reply has come

pub record MeetDone (v g : Hart) (item : Record) (reply : Reply) : Type 0 where
  pub asks : next_ask v.program v.local ≡ Meets item
  pub sound : IsSound v.local
  pub program : g.program ≡ v.program
  pub budget : g.budget ≡ v.budget
  pub core : g.core ≡ v.core
  pub local : g.local ≡ answered v.program v.budget v.local (Replied reply)
  pub within : g.local.units ≤ v.budget
  pub log : g.log ≡ record v.log { items = v.log.items ++ record { touch = None } ∷ [] }
  pub taken : taken_by g.taker ≡ taken_by v.taker ++ reply ∷ []
  pub notes : g.notes ≡ record v.notes { items = v.notes.items ++ note_of item reply }
  pub kept : (g.pass ≡ v.pass) × (g.sender ≡ v.sender) × (g.output ≡ v.output) × (g.pieces ≡ v.pieces)
  pub none : v.unsent ≡ None
  pub meeting : v.stage ≡ Meeting item
  pub still : g.unsent ≡ v.unsent
  pub going : g.stage ≡ Going
  pub unspent : v.local.ending ≡ None → is_spent v.pass ≡ false

pub meet_done : (v g : Hart) (item : Record) (reply : Reply) → MeetDone v g item reply → UnitDone v g (Replied reply)
unfolding placed
meet_done v g item reply q =
    let fits : FitsAsk (next_ask v.program v.local) (Replied reply) = rw q.asks tt in
    let spent : is_spent v.pass ≡ false = q.unspent (fits_running v.program v.local (Replied reply) fits) in record {
      program = q.program;
      budget = q.budget;
      core = q.core;
      terms = ap (λ p. p.terms) q.kept.0;
      caller = ap (λ p. p.caller) q.kept.0;
      sound = q.sound;
      fits = fits;
      told = tt;
      local = q.local;
      within = q.within;
      log = rw q.asks q.log;
      changes = rw q.asks (ap (λ p. p.changes) q.kept.0 ∙ sym (append-nil v.pass.changes));
      replies = q.taken;
      notes = rw q.asks q.notes;
      output = rw q.asks (q.kept.2 ∙ ap (λ (items : List ℕ). record v.output { items = items }) (sym (append-nil v.output.items)));
      pieces = rw q.asks (q.kept.3 ∙ ap (λ (items : List (ℕ × ℕ)). record v.pieces { items = items }) (sym (append-nil v.pieces.items)));
      sent = met_sent v g item (unit_record v.program v.local (Replied reply)) (meeting_record v.program v.local (Replied reply) item q.asks) q.none q.meeting q.still q.going q.kept.1;
      stage = q.going;
      unspent = λ going. ap is_spent q.kept.0 ∙ spent;
      record_sound = rw (q.still, q.none) tt;
    }

-- ---- from the clauses of the core's calls

-- a unit that stays within the budget has room for its entry
pub room_left : (program : Program) (budget : ℕ) (l after : Local) (a : Answer) → IsSound l → after ≡ answered program budget l a → after.units ≤ budget → l.units + 1 ≤ budget
room_left program budget l after a sound step within = omega (arith, unit_units program budget l after a sound step)

pub step_at : (program other : Program) (budget : ℕ) (l after : Local) (a : Answer) → program ≡ other → after ≡ answered program budget l a → after ≡ answered other budget l a
step_at program other budget l after a same step = step ∙ ap (λ (p : Program). answered p budget l a) same

pub quiet_item : (program other : Program) (l : Local) (a : Answer) (ask : CoreAsk) (item : Option Record) → program ≡ other → ask ≡ AsksNothing → item ≡ item_made ask (unit_record program l a) → item ≡ Some (unit_record other l a)
quiet_item program other l a ask item same asked is =
    is ∙ ap (λ (q : CoreAsk). item_made q (unit_record program l a)) asked ∙ ap (λ (p : Program). Some (unit_record p l a)) same

pub touch_item : (program other : Program) (l : Local) (a : Answer) (word : ℕ) (op : Op) (ask : CoreAsk) (item : Option Record) → program ≡ other → ask ≡ Touches word op → item ≡ item_made ask (unit_record program l a) → item ≡ Some (unit_record other l a)
touch_item program other l a word op ask item same asked is =
    is ∙ ap (λ (q : CoreAsk). item_made q (unit_record program l a)) asked ∙ ap (λ (p : Program). Some (unit_record p l a)) same

pub sound_at : (program other : Program) (top : ℕ) (item : Option Record) → program ≡ other → IfSome item (IsSoundRecord (words_of program.layout) top) → IfSome item (IsSoundRecord (words_of other.layout) top)
sound_at program other top item same sound = subst (λ (p : Program). IfSome item (IsSoundRecord (words_of p.layout) top)) same sound

pub core_sound_at : (v now : Hart) → v ≡ now → IsSound now.local → IsSound v.local
core_sound_at v now is sound = subst (λ (h : Hart). IsSound h.local) (sym is) sound

-- the bytes that were put out are those that the core had gathered before the unit
pub placed_bytes : (program other : Program) (l : Local) (a : Answer) (place : Option ℕ) (after bytes : List ℕ) → program ≡ other → place ≡ placed program l a → OnSome place (after ≡ l.gathered) → bytes ≡ after
    → bytes_placed place bytes ≡ bytes_placed (placed other l a) l.gathered
placed_bytes program other l a place after bytes same is kept gathered =
    by_place place kept ∙ ap (λ (p : Option ℕ). bytes_placed p l.gathered) (is ∙ ap (λ (p : Program). placed p l a) same)
  where
    by_place : (p : Option ℕ) → OnSome p (after ≡ l.gathered) → bytes_placed p bytes ≡ bytes_placed p l.gathered
    by_place None k = refl
    by_place (Some n) k = gathered ∙ k

pub placed_size : (program other : Program) (l : Local) (a : Answer) (place : Option ℕ) (after bytes : List ℕ) → program ≡ other → place ≡ placed program l a → OnSome place (after ≡ l.gathered) → bytes ≡ after
    → size_placed place bytes ≡ size_placed (placed other l a) l.gathered
placed_size program other l a place after bytes same is kept gathered =
    by_place place kept ∙ ap (λ (p : Option ℕ). size_placed p l.gathered) (is ∙ ap (λ (p : Program). placed p l a) same)
  where
    by_place : (p : Option ℕ) → OnSome p (after ≡ l.gathered) → size_placed p bytes ≡ size_placed p l.gathered
    by_place None k = refl
    by_place (Some n) k = ap (λ (bytes : List ℕ). (n, length bytes) ∷ []) (gathered ∙ k)

-- ---- the protocol's side of a record

pub still_stage : (item : Record) → IsStill item → stage_with item ≡ Going
still_stage (QuietRecord step pc insn faulted) still = refl
still_stage (BlankRecord step pc) still = refl
still_stage (TouchRecord step pc word number why) still = absurd still
still_stage (MeetRecord step pc call kind) still = absurd still
still_stage (Back step pc) still = refl
still_stage EndRecord still = absurd still

pub still_shape : (item : Record) → IsStill item → [] ≡ drawn_as (queued_of item).shape (queued_of item).number
still_shape (QuietRecord step pc insn faulted) still = refl
still_shape (BlankRecord step pc) still = refl
still_shape (TouchRecord step pc word number why) still = absurd still
still_shape (MeetRecord step pc call kind) still = absurd still
still_shape (Back step pc) still = refl
still_shape EndRecord still = absurd still

pub touch_stage : (l : Local) (word : ℕ) (t : Taken) (item : Record) → IsTouchOf l word t item → stage_with item ≡ Going
touch_stage l word t item touch = rw touch.is refl

pub touch_shape : (l : Local) (word : ℕ) (t : Taken) (item : Record) → IsTouchOf l word t item → (word, t.number) ∷ [] ≡ drawn_as (queued_of item).shape (queued_of item).number
touch_shape l word t item touch = rw touch.is refl
