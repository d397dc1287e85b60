-- Over each run a trap holds its core.
use Rattle.std.proofs.Common.{◌≡◌, ◌⊎◌, ℕ, zero, suc, ◌+◌, ◌<◌, ◌≤◌, Option, Some, None, IfSome, List, [], ◌∷◌, ◌++◌, All, drop, length, is_some, nat_lt, lt-ltb, true, false, if◌then◌else◌, refl, sym, ap, ◌∙◌, inl, inr, subst, arith}
use Rattle.std.proofs.lemmas.Bool.Decides.{nat_tests}
use Rattle.record_lane.specs.declared.reply.Trap.{Trap}
use Rattle.syscall_drain.specs.declared.end.End.{End}
use Rattle.syscall_drain.specs.declared.phase.Phase.{Phase}
use Rattle.syscall_drain.specs.Locals.{opening_local}
use Rattle.syscall_drain.specs.Sound.{IsSound}
use Rattle.syscall_drain.specs.Units.{next_ask}
use Rattle.syscall_drain.proofs.Units.{answered_sound}
use Rattle.order_core.specs.declared.entry.Entry.{Entry}
use Rattle.order_core.specs.Marked.{Marked, part_of}
use Rattle.order_core.proofs.MarkedLemmas.{part_of_same, part_of_other}
use Rattle.machine.specs.Setups.{Setup}
use Rattle.machine.specs.States.{Core, Word, State, opening}
use Rattle.machine.specs.Steps.{Finding, core_given, tags_given, answer_to, touched, step}
use Rattle.machine.specs.Runs.{run, along, IsPlayableFrom, IsPlayable, access_to, entry_at, entries_from}
use Rattle.machine.specs.TrapLaws.{IsNoExit, IsHeld, IsCalm, TouchesNoDevice, IsNoStore, IsHeldFrom}
use Rattle.machine.proofs.Reached.{given_units}
use Rattle.machine.proofs.CoreSteps.{finding_at, step_here, IsStepped, step_cases, cores_keep, run_parts, playable_first, playable_rest}
use Rattle.machine.proofs.TrapUnits.{given_keeps, given_trap, IsHeldBy, unit_held}

-- what holds of a core at each moment: its trap is of one of its units
record IsReady (c : Core) : Type 0 where
  sound : IsSound c.local
  calm : IsCalm c
  past : (trap : Trap) → c.tags.trap ≡ Some trap → trap.step < c.local.units

sound_given : (s : Setup) (c : Core) (finding : Finding) → IsSound c.local → IsSound (core_given s c finding).local
unfolding core_given
sound_given s c finding sound = answered_sound s.program s.budget c.local (answer_to (next_ask s.program c.local) finding (tags_given s c finding)) sound

ready_given : (s : Setup) (c : Core) (finding : Finding) → IsReady c → c.local.ending ≡ None → IsReady (core_given s c finding)
ready_given s c finding ready running = record {
  sound = sound_given s c finding ready.sound;
  calm = λ some. (unit_held s c finding running ready.calm some).held;
  past = λ trap e. by_trap trap (given_trap s c finding trap e);
}
  where
    by_trap : (trap : Trap) → (c.tags.trap ≡ Some trap) ⊎ (trap.step ≡ c.local.units) → trap.step < (core_given s c finding).local.units
    by_trap trap (inl old) = omega (arith, given_units s c ready.sound finding, ready.past trap old)
    by_trap trap (inr new) = omega (arith, given_units s c ready.sound finding, new)

ready_opening : (s : Setup) (c : ℕ) → IsReady ((opening s).cores c)
unfolding opening_local
ready_opening s c = record { sound = record { phase = tt }; calm = λ some. cc; past = λ trap e. cc }

ready_after : (s : Setup) (t : State) (order : List ℕ) → ((c : ℕ) → IsReady (t.cores c)) → IsPlayableFrom s t order → (c : ℕ) → IsReady ((run s t order).cores c)
ready_after s t order ready playable c = cores_keep s IsReady (ready_given s) t order ready playable c

-- the law at a moment
pub traps_hold : (s : Setup) (order : List ℕ) → IsPlayable s order → (core : ℕ) → IsCalm ((along s order).cores core)
traps_hold s order playable core = (ready_after s (opening s) order (ready_opening s) playable core).calm

-- ---- a trap at the end of a run

ready_step : (s : Setup) (t : State) (d : ℕ) → ((c : ℕ) → IsReady (t.cores c)) → (t.cores d).local.ending ≡ None → (c : ℕ) → IsReady ((step s t d).cores c)
ready_step s t d ready running c = by_core (step_cases s t d c)
  where
    by_core : IsStepped s t d c → IsReady ((step s t d).cores c)
    by_core (inl here) = rw here.1 (ready_given s (t.cores c) (finding_at s t c) (ready c) (ap (λ (e : ℕ). (t.cores e).local.ending) (sym here.0) ∙ running))
    by_core (inr there) = rw there.1 (ready c)

-- a core has this trap, or has not come to its unit
abbrev HasTrapBy : Core → Trap → Type 0
HasTrapBy core trap = (core.tags.trap ≡ Some trap) ⊎ (core.local.units ≤ trap.step)

earlier : (s : Setup) (t : State) (order : List ℕ) → ((c : ℕ) → IsReady (t.cores c)) → IsPlayableFrom s t order → (c : ℕ) (trap : Trap)
    → ((run s t order).cores c).tags.trap ≡ Some trap → HasTrapBy (t.cores c) trap
unfolding run IsPlayableFrom
earlier s t [] ready playable c trap e = inl e
earlier s t (d ∷ order) ready playable c trap e =
    by_core (step_cases s t d c) (earlier s (step s t d) order (ready_step s t d ready playable.1) playable.2 c trap e)
  where
    by_unit : (t.cores c).local.ending ≡ None → HasTrapBy (core_given s (t.cores c) (finding_at s t c)) trap
        → HasTrapBy (t.cores c) trap
    by_unit running (inl now) = by_trap (given_trap s (t.cores c) (finding_at s t c) trap now)
      where
        by_trap : ((t.cores c).tags.trap ≡ Some trap) ⊎ (trap.step ≡ (t.cores c).local.units) → HasTrapBy (t.cores c) trap
        by_trap (inl old) = inl old
        by_trap (inr new) = inr (omega (arith, new))
    by_unit running (inr later) = inr (omega (arith, given_units s (t.cores c) (ready c).sound (finding_at s t c), later))

    by_core : IsStepped s t d c → HasTrapBy ((step s t d).cores c) trap → HasTrapBy (t.cores c) trap
    by_core (inl here) h =
        by_unit (ap (λ (e : ℕ). (t.cores e).local.ending) (sym here.0) ∙ playable.1)
        (subst (λ (core : Core). HasTrapBy core trap) here.1 h)
    by_core (inr there) h = subst (λ (core : Core). HasTrapBy core trap) there.1 h

-- from its unit on, the trap stands after each unit, and holds it
held_unit : (s : Setup) (t : State) (c : ℕ) (order : List ℕ) → ((d : ℕ) → IsReady (t.cores d)) → IsPlayableFrom s t (c ∷ order) → (trap : Trap)
    → ((run s t (c ∷ order)).cores c).tags.trap ≡ Some trap → trap.step ≤ (t.cores c).local.units → IsHeldBy s (t.cores c) (finding_at s t c)
unfolding run IsPlayableFrom
held_unit s t c order ready playable trap e within =
    by_trap (subst (λ (core : Core). HasTrapBy core trap) (step_here s t c)
    (earlier s (step s t c) order (ready_step s t c ready playable.1) playable.2 c trap e))
  where
    by_trap : HasTrapBy (core_given s (t.cores c) (finding_at s t c)) trap → IsHeldBy s (t.cores c) (finding_at s t c)
    by_trap (inl now) = unit_held s (t.cores c) (finding_at s t c) playable.1 (ready c).calm (ap (λ (o : Option Trap). is_some o) now)
    by_trap (inr later) = absurd (omega (arith, later, given_units s (t.cores c) (ready c).sound (finding_at s t c), within))

-- a core keeps its trap to the end of a run
kept : (s : Setup) (t : State) (order : List ℕ) (c : ℕ) (trap : Trap) → (t.cores c).tags.trap ≡ Some trap → ((run s t order).cores c).tags.trap ≡ Some trap
unfolding run
kept s t [] c trap e = e
kept s t (d ∷ order) c trap e = kept s (step s t d) order c trap (by_core (step_cases s t d c))
  where
    by_core : IsStepped s t d c → ((step s t d).cores c).tags.trap ≡ Some trap
    by_core (inl here) = rw here.1 (given_keeps s (t.cores c) (finding_at s t c) trap e)
    by_core (inr there) = rw there.1 e

-- so it has none before the unit of its trap, and has it from there on
trap_at : (s : Setup) (t : State) (order : List ℕ) → ((d : ℕ) → IsReady (t.cores d)) → IsPlayableFrom s t order → (c : ℕ) (trap : Trap)
    → ((run s t order).cores c).tags.trap ≡ Some trap → (t.cores c).tags.trap ≡ (if nat_lt trap.step (t.cores c).local.units then Some trap else None)
trap_at s t order ready playable c trap e = by_trap (earlier s t order ready playable c trap e)
  where
    none : (before : Option Trap) → (t.cores c).tags.trap ≡ before → (t.cores c).local.units ≤ trap.step → before ≡ None
    none None is later = refl
    none (Some first) is later =
        let last : Some first ≡ Some trap = sym (kept s t order c first is) ∙ e in
        let same : first ≡ trap = cc in
        absurd (omega (arith, (ready c).past first is, ap (λ (x : Trap). x.step) same, later))

    by_trap : HasTrapBy (t.cores c) trap → (t.cores c).tags.trap ≡ (if nat_lt trap.step (t.cores c).local.units then Some trap else None)
    by_trap (inl now) =
        let before : nat_lt trap.step (t.cores c).local.units ≡ true = lt-ltb trap.step (t.cores c).local.units ((ready c).past trap now) in
        rw before now
    by_trap (inr later) =
        let after : nat_lt trap.step (t.cores c).local.units ≡ false = grind (arith, nat_tests) in
        rw after (none (t.cores c).tags.trap refl later)

-- ---- its log

-- a log has an entry for each unit
log_length : (s : Setup) (t : State) (order : List ℕ) → ((c : ℕ) → IsReady (t.cores c)) → IsPlayableFrom s t order → (c : ℕ)
    → length (part_of c (entries_from s t order)) + (t.cores c).local.units ≡ ((run s t order).cores c).local.units
unfolding run IsPlayableFrom entries_from
log_length s t [] ready playable c = omega arith
log_length s t (d ∷ order) ready playable c =
    by_core (step_cases s t d c) (log_length s (step s t d) order (ready_step s t d ready playable.1) playable.2 c)
  where
    rest : List Marked
    rest = entries_from s (step s t d) order

    by_core : IsStepped s t d c
        → length (part_of c rest) + ((step s t d).cores c).local.units ≡ ((run s (step s t d) order).cores c).local.units
        → length (part_of c ((d, entry_at s t d) ∷ rest)) + (t.cores c).local.units ≡ ((run s (step s t d) order).cores c).local.units
    by_core (inl here) h =
        let more : ((step s t d).cores c).local.units ≡ (t.cores c).local.units + 1 =
        ap (λ (core : Core). core.local.units) here.1 ∙ given_units s (t.cores c) (ready c).sound (finding_at s t c) in
        rw (part_of_same c (d, entry_at s t d) rest here.0) (omega (arith, h, more))
    by_core (inr there) h =
        let same : ((step s t d).cores c).local.units ≡ (t.cores c).local.units = ap (λ (core : Core). core.local.units) there.1 in
        rw (part_of_other c (d, entry_at s t d) rest there.0) (omega (arith, h, same))

no_device_at : (words : ℕ → Word) (word : Option ℕ) → IfSome word (λ n. 2 < n) → IfSome (access_to words word) (λ access. 2 < access.word)
no_device_at words None above = tt
no_device_at words (Some n) above = above

no_device : (s : Setup) (t : State) (c : ℕ) → IfSome (touched s (t.cores c)) (λ n. 2 < n) → TouchesNoDevice (entry_at s t c)
unfolding entry_at
no_device s t c above = no_device_at t.words (touched s (t.cores c)) above

all_none : (P : Entry → Type 0) (n : ℕ) → All P (drop n [])
all_none P zero k d below = absurd (omega arith)
all_none P (suc n) k d below = absurd (omega arith)

all_first : (P : Entry → Type 0) (entry : Entry) (rest : List Entry) → P entry → All P rest → All P (entry ∷ rest)
all_first P entry rest first all zero d below = first
all_first P entry rest first all (suc k) d below = all k d (omega arith)

-- from the unit of the trap on, no access is to a device
log_held : (s : Setup) (t : State) (order : List ℕ) → ((c : ℕ) → IsReady (t.cores c)) → IsPlayableFrom s t order → (c : ℕ) (trap : Trap)
    → ((run s t order).cores c).tags.trap ≡ Some trap → (n : ℕ) → trap.step ≤ n + (t.cores c).local.units
    → All TouchesNoDevice (drop n (part_of c (entries_from s t order)))
unfolding run IsPlayableFrom entries_from
log_held s t [] ready playable c trap e n within = all_none TouchesNoDevice n
log_held s t (d ∷ order) ready playable c trap e n within =
    by_core (step_cases s t d c) (log_held s (step s t d) order (ready_step s t d ready playable.1) playable.2 c trap e)
  where
    rest : List Marked
    rest = entries_from s (step s t d) order

    by_place : (m : ℕ) → n ≡ m → d ≡ c → ((step s t d).cores c).local.units ≡ (t.cores c).local.units + 1
        → ((k : ℕ) → trap.step ≤ k + ((step s t d).cores c).local.units → All TouchesNoDevice (drop k (part_of c rest)))
        → All TouchesNoDevice (drop m (entry_at s t d ∷ part_of c rest))
    by_place zero is same more h =
        let held : IsHeldBy s (t.cores c) (finding_at s t c) =
        held_unit s t c order ready (subst (λ (x : ℕ). IsPlayableFrom s t (x ∷ order)) same playable) trap
        (subst (λ (x : ℕ). ((run s t (x ∷ order)).cores c).tags.trap ≡ Some trap) same e) (omega (arith, within, is)) in
        all_first TouchesNoDevice (entry_at s t d) (part_of c rest) (subst (λ (x : ℕ). TouchesNoDevice (entry_at s t x)) (sym same) (no_device s t c held.memory)) (h 0 (omega (arith, within, is, more)))
    by_place (suc m) is same more h = h m (omega (arith, within, is, more))

    by_core : IsStepped s t d c
        → ((k : ℕ) → trap.step ≤ k + ((step s t d).cores c).local.units → All TouchesNoDevice (drop k (part_of c rest)))
        → All TouchesNoDevice (drop n (part_of c ((d, entry_at s t d) ∷ rest)))
    by_core (inl here) h =
        let more : ((step s t d).cores c).local.units ≡ (t.cores c).local.units + 1 =
        ap (λ (core : Core). core.local.units) here.1 ∙ given_units s (t.cores c) (ready c).sound (finding_at s t c) in
        subst (λ (part : List Entry). All TouchesNoDevice (drop n part)) (sym (part_of_same c (d, entry_at s t d) rest here.0)) (by_place n refl here.0 more h)
    by_core (inr there) h =
        let same : ((step s t d).cores c).local.units ≡ (t.cores c).local.units = ap (λ (core : Core). core.local.units) there.1 in
        subst (λ (part : List Entry). All TouchesNoDevice (drop n part)) (sym (part_of_other c (d, entry_at s t d) rest there.0)) (h n (omega (arith, within, same)))

-- ---- the law over a run

ended_calmly : (phase : Phase) (ending : Option End) → IsHeld phase ending → IfSome ending IsNoExit
ended_calmly phase None held = tt
ended_calmly phase (Some end) held = held

no_units : (s : Setup) (c : ℕ) → ((opening s).cores c).local.units ≡ 0
unfolding opening_local
no_units s c = refl

pub traps_hold_on : (s : Setup) (order : List ℕ) → IsPlayable s order → (core : ℕ) (trap : Trap) → ((along s order).cores core).tags.trap ≡ Some trap
    → IsHeldFrom s order core trap
traps_hold_on s order playable core trap e =
    let ready : IsReady ((along s order).cores core) = ready_after s (opening s) order (ready_opening s) playable core in
    record {
      within = omega (arith, ready.past trap e, log_length s (opening s) order (ready_opening s) playable core, no_units s core);
      found = λ before after split. found_before before after split;
      accesses = log_held s (opening s) order (ready_opening s) playable core trap e trap.step (omega arith);
      stores = λ before after split within. store_at before after split within;
      ending = ended_calmly ((along s order).cores core).local.phase ((along s order).cores core).local.ending (ready.calm (ap (λ (o : Option Trap). is_some o) e));
    }
  where
    found_before : (before after : List ℕ) → order ≡ before ++ after
        → ((along s before).cores core).tags.trap ≡ (if nat_lt trap.step ((along s before).cores core).local.units then Some trap else None)
    found_before before after split =
        let whole : IsPlayable s (before ++ after) = subst (λ (o : List ℕ). IsPlayable s o) split playable in
        let last : ((run s (along s before) after).cores core).tags.trap ≡ Some trap =
        ap (λ (t : State). (t.cores core).tags.trap) (sym (run_parts s (opening s) before after)) ∙ ap (λ (o : List ℕ). ((along s o).cores core).tags.trap) (sym split) ∙ e in
        let first : IsPlayableFrom s (opening s) before = playable_first s (opening s) before after whole in
        let rest : IsPlayableFrom s (along s before) after = playable_rest s (opening s) before after whole in
        trap_at s (along s before) after (ready_after s (opening s) before (ready_opening s) first) rest core trap last

    store_at : (before after : List ℕ) → order ≡ before ++ core ∷ after → trap.step ≤ ((along s before).cores core).local.units
        → IsNoStore ((along s before).cores core).local.phase
    store_at before after split within =
        let whole : IsPlayable s (before ++ core ∷ after) = subst (λ (o : List ℕ). IsPlayable s o) split playable in
        let last : ((run s (along s before) (core ∷ after)).cores core).tags.trap ≡ Some trap =
        ap (λ (t : State). (t.cores core).tags.trap) (sym (run_parts s (opening s) before (core ∷ after))) ∙ ap (λ (o : List ℕ). ((along s o).cores core).tags.trap) (sym split) ∙ e in
        let first : IsPlayableFrom s (opening s) before = playable_first s (opening s) before (core ∷ after) whole in
        let rest : IsPlayableFrom s (along s before) (core ∷ after) = playable_rest s (opening s) before (core ∷ after) whole in
        (held_unit s (along s before) core after (ready_after s (opening s) before (ready_opening s) first) rest trap last within).store
