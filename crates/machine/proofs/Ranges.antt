-- Along each playable list every state holds words, and what it tells of its units fits its type: touches, notes, traps and ends.
use Rattle.std.proofs.Common.{◌≡◌, ◌⊎◌, ℕ, ◌+◌, ◌<◌, ◌^◌, Bool, true, false, Option, Some, None, List, [], ◌∷◌, ◌++◌, refl, ◌∙◌, inl, inr, subst, arith, if◌then◌else◌, ◌==◌}
use Rattle.std.specs.List.{AllByRecursion}
use Rattle.rv_execute.specs.declared.op.Op.{Op}
use Rattle.rv_execute.specs.Payloads.{changed}
use Rattle.record_lane.specs.declared.record.Record.{Record}
use Rattle.record_lane.specs.declared.reply.Trap.{Trap}
use Rattle.record_lane.specs.declared.note.CallNote.{CallNote}
use Rattle.tag_policy.specs.Rules.{PolicySeen, kind_of}
use Rattle.tag_policy.specs.declared.rules.Check.{Check}
use Rattle.tag_policy.specs.declared.rules.Check.TheVariants.{Jump, LoadAddress, StoreAddress, BranchCondition, CallNumber, CallArgument, Sink}
use Rattle.tag_registers.specs.Rows.{Look, row_of}
use Rattle.tag_registers.specs.Tags.{Tags, tags_after, first_trap, kept_trap, fired, step_of, pc_of}
use Rattle.syscall_drain.specs.Programs.{Program}
use Rattle.syscall_drain.specs.Locals.{Local, opening_local}
use Rattle.syscall_drain.specs.Tasks.{task_of}
use Rattle.syscall_drain.specs.Units.{next_ask, task_ask, taken_of}
use Rattle.syscall_drain.specs.declared.task.Task.{Task}
use Rattle.syscall_drain.specs.declared.task.Task.TheVariants.{Over, Quiet, Access, Meeting}
use Rattle.syscall_drain.specs.declared.ask.CoreAsk.{CoreAsk}
use Rattle.syscall_drain.specs.declared.ask.CoreAsk.TheVariants.{Quiet as AsksNothing, Touch as Touches, Meet as Meets, Ended}
use Rattle.order_core.specs.declared.entry.Access.{Access as AccessMade}
use Rattle.order_core.specs.Marked.{Marked}
use Rattle.machine.specs.Setups.{Setup, core_count, IsSetup}
use Rattle.machine.specs.States.{Core, Word, State, opening}
use Rattle.machine.specs.Steps.{Finding, NoAccess, Accessed, tag_found, record_given, tags_given, answer_to, notes_of, core_given, found_in, touched, left, step, step_by}
use Rattle.machine.specs.Runs.{run, along, IsPlayableFrom, IsPlayable, access_to, entry_at, entries_from, entries}
use Rattle.machine.proofs.SetAt.{set_at_keeps}
use Rattle.machine.proofs.ByAsk.{left_payload, asks_word}
use Rattle.machine.proofs.CoreSteps.{finding_by, finding_at, IsStepped, step_cases}
use Rattle.machine.proofs.Reached.{opening_reached}
use Rattle.machine.proofs.Written.{opening_written}
use Rattle.machine.proofs.Along.{IsAt, step_at, few_units}
use Rattle.machine.proofs.TrapUnits.{given_trap}
use Rattle.machine.proofs.ResultRanges.{IsWord, IsOfWords, changed_word}
use Rattle.machine.proofs.HartRanges.{AreWords}
use Rattle.machine.proofs.ImageRanges.{AreBytes, first_word_word, first_registers_words}
use Rattle.machine.proofs.LocalRanges.{HoldsWords, IsTaskOfWords, unit_of_words, answered_words}

-- ---- what is told of a unit

abbrev pub IsTouchOfWords : Option AccessMade → Type 0
IsTouchOfWords None = Unit {0}
IsTouchOfWords (Some access) = IsWord access.word × IsWord access.number

abbrev pub IsUnitOfWords : Marked → Type 0
IsUnitOfWords unit = IsTouchOfWords unit.1.touch

abbrev pub IsNoteOfWords : CallNote → Type 0
IsNoteOfWords note = IsWord note.step × IsWord note.call

abbrev pub IsTrapOfWords : Trap → Type 0
IsTrapOfWords trap = IsWord trap.step × (trap.kind < 2 ^ 8)

-- ---- the next unit of a core

abbrev IsAskOfWords : CoreAsk → Type 0
IsAskOfWords AsksNothing = Unit {0}
IsAskOfWords (Touches word op) = IsWord word × IsOfWords op
IsAskOfWords (Meets item) = Unit {0}
IsAskOfWords Ended = Unit {0}

ask_of_words : (l : Local) (task : Task) → IsTaskOfWords task → IsAskOfWords (task_ask l task)
ask_of_words l Over words = tt
ask_of_words l (Quiet reason) words = tt
ask_of_words l (Access word op reason) words = (words.0, words.1)
ask_of_words l (Meeting kind) words = tt

next_of_words : (program : Program) (l : Local) → IsTaskOfWords (task_of program l) → IsAskOfWords (next_ask program l)
unfolding next_ask
next_of_words program l words = ask_of_words l (task_of program l) words

notes_of_words : (l : Local) (task : Task) (after : Tags) → IsWord l.units → AreWords l.hart.regs → AllByRecursion IsNoteOfWords (notes_of (task_ask l task) after)
notes_of_words l Over after few all = tt
notes_of_words l (Quiet reason) after few all = tt
notes_of_words l (Access word op reason) after few all = tt
notes_of_words l (Meeting kind) after few all = ((few, all 17), tt)

next_notes : (program : Program) (l : Local) (after : Tags) → IsWord l.units → AreWords l.hart.regs → AllByRecursion IsNoteOfWords (notes_of (next_ask program l) after)
unfolding next_ask
next_notes program l after few all = notes_of_words l (task_of program l) after few all

all_both : {A : Type 0} (P : A → Type 0) (one other : List A) → AllByRecursion P one → AllByRecursion P other → AllByRecursion P (one ++ other)
all_both P [] other h k = k
all_both P (first ∷ one) other h k = (h.0, all_both P one other h.1 k)

-- ---- the kind of a trap

kind_below : (check : Check) → kind_of check < 2 ^ 8
kind_below Jump = omega arith
kind_below LoadAddress = omega arith
kind_below StoreAddress = omega arith
kind_below BranchCondition = omega arith
kind_below CallNumber = omega arith
kind_below CallArgument = omega arith
kind_below Sink = omega arith

found_kind : (policy : PolicySeen) (tags : Tags) (step pc : ℕ) (looks : List Look) (trap : Trap) → first_trap policy tags step pc looks ≡ Some trap → trap.kind < 2 ^ 8
found_kind policy tags step pc [] trap e = absurd (cc)
found_kind policy tags step pc (look ∷ looks) trap e = by_look (fired policy tags look == 0) (found_kind policy tags step pc looks trap) e
  where
    first : Trap
    first = record { step = step; pc = pc; kind = kind_of look.check; bits = fired policy tags look }

    by_look : (b : Bool) → (first_trap policy tags step pc looks ≡ Some trap → trap.kind < 2 ^ 8)
        → (if b then first_trap policy tags step pc looks else Some first) ≡ Some trap → trap.kind < 2 ^ 8
    by_look true rest e = rest e
    by_look false rest e = let same : first ≡ trap = cc in subst (λ (found : Trap). found.kind < 2 ^ 8) same (kind_below look.check)

kind_after : (policy : PolicySeen) (tags : Tags) (item : Record) (old : ℕ) (trap : Trap) → ((before : Trap) → tags.trap ≡ Some before → before.kind < 2 ^ 8)
    → (tags_after policy tags item old).trap ≡ Some trap → trap.kind < 2 ^ 8
unfolding tags_after
kind_after policy tags item old trap small e = by_old tags.trap refl e
  where
    by_old : (before : Option Trap) → tags.trap ≡ before → kept_trap before (first_trap policy tags (step_of item) (pc_of item) (row_of item).looks) ≡ Some trap → trap.kind < 2 ^ 8
    by_old (Some first) is e = small trap (is ∙ e)
    by_old None is e = found_kind policy tags (step_of item) (pc_of item) (row_of item).looks trap e

-- ---- a core after a unit

pub record IsCoreOfWords (c : Core) : Type 0 where
  pub local : HoldsWords c.local
  pub notes : AllByRecursion IsNoteOfWords c.notes
  pub trap : (trap : Trap) → c.tags.trap ≡ Some trap → IsTrapOfWords trap

abbrev IsFindingOfWords : Finding → Type 0
IsFindingOfWords NoAccess = Unit {0}
IsFindingOfWords (Accessed t tag) = IsWord t.old

answer_word : (ask : CoreAsk) (finding : Finding) (after : Tags) → IsFindingOfWords finding → IsWord (taken_of (answer_to ask finding after)).old
answer_word AsksNothing finding after found = omega arith
answer_word (Touches word op) NoAccess after found = omega arith
answer_word (Touches word op) (Accessed t tag) after found = found
answer_word (Meets item) finding after found = omega arith
answer_word Ended finding after found = omega arith

kind_given : (s : Setup) (c : Core) (finding : Finding) (trap : Trap) → ((before : Trap) → c.tags.trap ≡ Some before → before.kind < 2 ^ 8)
    → (core_given s c finding).tags.trap ≡ Some trap → trap.kind < 2 ^ 8
unfolding core_given
kind_given s c finding trap small e = kind_after s.policy c.tags (record_given s c finding) (tag_found finding) trap small e

trap_given : (s : Setup) (c : Core) (finding : Finding) → IsCoreOfWords c → IsWord c.local.units → (trap : Trap) → (core_given s c finding).tags.trap ≡ Some trap → IsTrapOfWords trap
trap_given s c finding words few trap e = (by_step (given_trap s c finding trap e), kind_given s c finding trap (λ before is. (words.trap before is).1) e)
  where
    by_step : (c.tags.trap ≡ Some trap) ⊎ (trap.step ≡ c.local.units) → IsWord trap.step
    by_step (inl old) = (words.trap trap old).0
    by_step (inr new) = omega (arith, new)

local_given : (s : Setup) (c : Core) (finding : Finding) → HoldsWords c.local → IsTaskOfWords (task_of s.program c.local) → IsFindingOfWords finding → HoldsWords (core_given s c finding).local
unfolding core_given
local_given s c finding words unit found =
    answered_words s.program s.budget c.local (answer_to (next_ask s.program c.local) finding (tags_given s c finding)) words unit
    (answer_word (next_ask s.program c.local) finding (tags_given s c finding) found)

notes_given : (s : Setup) (c : Core) (finding : Finding) → IsCoreOfWords c → IsWord c.local.units → AllByRecursion IsNoteOfWords (core_given s c finding).notes
unfolding core_given
notes_given s c finding words few =
    all_both IsNoteOfWords c.notes (notes_of (next_ask s.program c.local) (tags_given s c finding)) words.notes
    (next_notes s.program c.local (tags_given s c finding) few (words.local).registers)

-- ---- a state after a unit

pub record IsOfBytes (s : Setup) : Type 0 where
  pub setup : IsSetup s
  pub bytes : AreBytes s.program.layout.bytes

pub record IsStateOfWords (s : Setup) (t : State) : Type 0 where
  pub cores : (c : ℕ) → c < core_count s → IsCoreOfWords (t.cores c)
  pub words : (n : ℕ) → IsWord (t.words n).payload

module _ (s : Setup) (basis : IsOfBytes s) (t : State) (count : ℕ) (at : IsAt s t count) (words : IsStateOfWords s t) where
  unit : (c : ℕ) → c < core_count s → IsTaskOfWords (task_of s.program (t.cores c).local)
  unit c below = unit_of_words s.program (t.cores c).local basis.bytes (basis.setup).input (words.cores c below).local (((at.reached).cores c).sound)

  few : (c : ℕ) → IsWord (t.cores c).local.units
  few c = omega (arith, ((at.reached).cores c).within, (basis.setup).most_budget)

  found : (word : Option ℕ) → IsFindingOfWords (finding_by s t word)
  found None = tt
  found (Some n) = words.words n

  core_after : (c : ℕ) → c < core_count s → IsCoreOfWords (core_given s (t.cores c) (finding_at s t c))
  core_after c below = record {
    local = local_given s (t.cores c) (finding_at s t c) (words.cores c below).local (unit c below) (found (touched s (t.cores c)));
    notes = notes_given s (t.cores c) (finding_at s t c) (words.cores c below) (few c);
    trap = trap_given s (t.cores c) (finding_at s t c) (words.cores c below) (few c);
  }

  cores_after : (c core : ℕ) → c < core_count s → core < core_count s → IsCoreOfWords ((step s t c).cores core)
  cores_after c core below known = by_core (step_cases s t c core)
    where
      by_core : IsStepped s t c core → IsCoreOfWords ((step s t c).cores core)
      by_core (inl here) = rw here.1 (core_after core known)
      by_core (inr there) = rw there.1 (words.cores core known)

  -- what a unit that touches a word asks there
  asked : (c n : ℕ) → c < core_count s → touched s (t.cores c) ≡ Some n → (op : Op) × ((next_ask s.program (t.cores c).local ≡ Touches n op) × IsWord n × IsOfWords op)
  asked c n below e =
      let asks = asks_word s (t.cores c) n e in
      let small : IsAskOfWords (Touches n asks.0) = subst IsAskOfWords asks.1 (next_of_words s.program (t.cores c).local (unit c below)) in
      (asks.0, (asks.1, small.0, small.1))

  payload_after : (c n : ℕ) → c < core_count s → touched s (t.cores c) ≡ Some n → IsWord (left s (t.cores c) (t.words n)).payload
  payload_after c n below e =
      let asks = asked c n below e in
      rw (left_payload s (t.cores c) (t.words n) n asks.0 asks.1.0)
      (by_spent (found_in s (t.words n)).spent asks.0 asks.1.2)
    where
      by_spent : (b : Bool) (op : Op) → IsOfWords op → IsWord (if b then (t.words n).payload else changed op (t.words n).count (t.words n).payload)
      by_spent true op small = words.words n
      by_spent false op small = changed_word op (t.words n).count (t.words n).payload small (words.words n)

  words_after : (c : ℕ) → c < core_count s → (n : ℕ) → IsWord ((step s t c).words n).payload
  unfolding step
  words_after c below = by_word (touched s (t.cores c)) refl
    where
      by_word : (word : Option ℕ) → touched s (t.cores c) ≡ word → (n : ℕ) → IsWord ((step_by s t c word).words n).payload
      by_word None is n = words.words n
      by_word (Some m) is n = set_at_keeps (λ (w : Word). IsWord w.payload) t.words m (left s (t.cores c) (t.words m)) words.words (payload_after c m below is) n

  step_words : (c : ℕ) → c < core_count s → IsStateOfWords s (step s t c)
  step_words c below = record { cores = λ core known. cores_after c core below known; words = words_after c below }

  touch_words : (c : ℕ) → c < core_count s → (word : Option ℕ) → touched s (t.cores c) ≡ word → IsTouchOfWords (access_to t.words word)
  touch_words c below None e = tt
  touch_words c below (Some n) e =
      ((asked c n below e).1.1, omega (arith, (at.reached).accesses n, few_units s basis.setup t count at.reached))

  entry_words : (c : ℕ) → c < core_count s → IsTouchOfWords (entry_at s t c).touch
  unfolding entry_at
  entry_words c below = touch_words c below (touched s (t.cores c)) refl

-- ---- along a list

opening_words : (s : Setup) → IsOfBytes s → IsStateOfWords s (opening s)
unfolding opening_local
opening_words s basis = record {
  cores = λ c known. record {
    local = record { registers = first_registers_words s.program.layout c (basis.setup).image known; phase = tt; ending = tt };
    notes = tt;
    trap = λ trap e. absurd (cc);
  };
  words = λ n. first_word_word s.program.layout n (basis.setup).image basis.bytes;
}

pub record IsRunOfWords (s : Setup) (t : State) (units : List Marked) : Type 0 where
  pub state : IsStateOfWords s t
  pub touches : AllByRecursion IsUnitOfWords units

words_from : (s : Setup) → IsOfBytes s → (t : State) (count : ℕ) (order : List ℕ) → IsAt s t count → IsStateOfWords s t → IsPlayableFrom s t order
    → IsRunOfWords s (run s t order) (entries_from s t order)
unfolding run IsPlayableFrom entries_from
words_from s basis t count [] at words playable = record { state = words; touches = tt }
words_from s basis t count (c ∷ order) at words playable =
    let rest = words_from s basis (step s t c) (count + 1) order (step_at s basis.setup t count c at playable.0 playable.1) (step_words s basis t count at words c playable.0) playable.2 in
    record { state = rest.state; touches = (entry_words s basis t count at words c playable.0, rest.touches) }

-- along each playable list of a setup in its ranges, of an image of bytes
pub words_along : (s : Setup) → IsOfBytes s → (order : List ℕ) → IsPlayable s order → IsRunOfWords s (along s order) (entries s order)
words_along s basis order playable =
    words_from s basis (opening s) 0 order (record { reached = opening_reached s (basis.setup).some_budget; written = opening_written s }) (opening_words s basis) playable
