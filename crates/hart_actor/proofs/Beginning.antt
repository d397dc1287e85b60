-- An actor before its first unit.
use Rattle.std.proofs.Common.{◌≡◌, ℕ, ◌*◌, ◌<◌, ◌≤◌, List, [], ◌∷◌, None, false, refl, sym, ap, ◌∙◌, arith}
use Rattle.record_lane.specs.Rings.{sent_by}
use Rattle.record_lane.specs.Lanes.{taken_by}
use Rattle.ticket_table.specs.declared.change.Role.{Role}
use Rattle.ticket_table.specs.declared.change.Role.TheVariants.{Draw, Serve}
use Rattle.ticket_table.specs.declared.change.Change.{Change}
use Rattle.ticket_table.specs.History.{has_spent}
use Rattle.syscall_drain.specs.Programs.{Program}
use Rattle.syscall_drain.specs.Locals.{Local, opening_local}
use Rattle.syscall_drain.specs.Sound.{due}
use Rattle.actor_lists.specs.Walked.{HasRun}
use Rattle.actor_lists.proofs.WalkedLists.{run_begins}
use Rattle.hart_actor.specs.declared.stage.Stage.TheVariants.{Going}
use Rattle.hart_actor.specs.Harts.{Hart, cut, cut_length}
use Rattle.hart_actor.specs.Standing.{IsHart, HasRoom, top_of}

none_spent : (role : Role) (limit : ℕ) (changes : List Change) → changes ≡ [] → has_spent role limit changes ≡ false
none_spent Draw limit [] none = refl
none_spent Serve limit [] none = refl
none_spent role limit (e ∷ changes) none = absurd (cc)

-- with empty lists, and the room for all units
pub record Begins (h : Hart) (program : Program) (core budget : ℕ) : Type 0 where
  pub program_is : h.program ≡ program
  pub core_is : h.core ≡ core
  pub budget_is : h.budget ≡ budget
  pub local : h.local ≡ opening_local program core
  pub stage : h.stage ≡ Going
  pub unsent : h.unsent ≡ None
  pub most : budget ≤ 1048576
  pub log : h.log ≡ record { items = []; room = budget }
  pub notes : h.notes ≡ record { items = []; room = budget }
  pub output : h.output ≡ record { items = []; room = 4 * budget }
  pub pieces : h.pieces ≡ record { items = []; room = budget }
  pub caller : h.pass.caller ≡ core
  pub number : 0 < top_of h
  pub changes : h.pass.changes ≡ []
  pub sent : sent_by h.sender ≡ []
  pub taken : taken_by h.taker ≡ []

no_cut : cut [] [] ≡ []
unfolding cut
no_cut = refl

begin_run : (h : Hart) (program : Program) (core budget : ℕ) → Begins h program core budget
    → HasRun h.program h.budget h.core h.pass.terms h.local h.log.items h.pass.changes [] (taken_by h.taker) h.notes.items (cut h.pieces.items h.output.items) []
begin_run h program core budget b = rw (b.program_is, b.core_is, b.local, b.log, b.changes, b.taken, b.notes, b.pieces, b.output, no_cut) (run_begins program h.budget core h.pass.terms)

begin_room : (h : Hart) (program : Program) (core budget : ℕ) → Begins h program core budget → HasRoom h
unfolding opening_local
begin_room h program core budget b =
    let units : h.local.units ≡ 0 = ap (λ (l : Local). l.units) b.local in
    let due_is : due h.local ≡ 0 = ap due b.local in record {
      spent = omega (arith, units);
      most = omega (arith, b.most, b.budget_is);
      log = rw b.log (sym units, sym b.budget_is);
      notes = rw b.notes (omega (arith, units), sym b.budget_is);
      pieces = rw b.pieces (omega (arith, units), sym b.budget_is);
      output = rw b.output (omega (arith, units, due_is), omega (arith, b.budget_is));
    }

pub begins : (h : Hart) (program : Program) (core budget : ℕ) → Begins h program core budget → IsHart h
unfolding opening_local cut_length
begins h program core budget b = record {
  answers = [];
  records = [];
  has_run = begin_run h program core budget b;
  count = sym (ap (λ (l : Local). l.units) b.local);
  sent_is = rw (b.sent, b.unsent, b.stage) refl;
  at_stage = rw b.stage tt;
  caller = b.caller ∙ sym b.core_is;
  unspent = λ going. none_spent h.pass.terms.role h.pass.terms.limit h.pass.changes b.changes;
  sound = rw b.unsent tt;
  some_number = b.number;
  whole = rw (b.pieces, b.output) refl;
  room = begin_room h program core budget b;
}
