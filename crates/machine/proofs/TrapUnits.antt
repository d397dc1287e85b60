-- One unit of a core, and its trap: a core keeps its first trap, a new one has the number of its unit, and a unit that leaves a trap is held by it.
use Rattle.std.proofs.Common.{◌≡◌, ◌⊎◌, ℕ, ◌+◌, ◌<◌, Bool, true, false, Option, Some, None, List, [], ◌∷◌, refl, sym, ap, ◌∙◌, inl, inr, arith, is_some, IsSome, IfSome, ◌==◌, if◌then◌else◌}
use Rattle.record_lane.specs.declared.note.CallNote.{CallNote}
use Rattle.record_lane.specs.declared.record.Why.{Why}
use Rattle.record_lane.specs.declared.record.Why.TheVariants.{Fill as ByFill, Gather as ByGather, Claim as ByClaim, Spent as BySpent}
use Rattle.record_lane.specs.declared.record.MeetKind.TheVariants.{Call, Verdict}
use Rattle.record_lane.specs.declared.record.Record.{Record}
use Rattle.record_lane.specs.declared.record.Record.TheVariants.{Touch}
use Rattle.record_lane.specs.declared.reply.Trap.{Trap}
use Rattle.rv_execute.specs.declared.op.Taken.{Taken}
use Rattle.rv_execute.specs.Harts.{HartState}
use Rattle.tag_policy.specs.Rules.{PolicySeen, kind_of}
use Rattle.tag_registers.specs.Rows.{Look, touch_row, row_of}
use Rattle.tag_registers.specs.Tags.{Tags, tags_after, first_trap, kept_trap, fired, step_of, pc_of, reply_of}
use Rattle.syscall_drain.specs.declared.end.End.{End}
use Rattle.syscall_drain.specs.declared.end.End.TheVariants.{Budget}
use Rattle.syscall_drain.specs.declared.phase.Phase.{Phase}
use Rattle.syscall_drain.specs.declared.phase.Phase.TheVariants.{Running, Reading, Writing, Breaking, Returning}
use Rattle.syscall_drain.specs.declared.read_call.ReadStage.TheVariants.{Claiming, Storing}
use Rattle.syscall_drain.specs.declared.write_call.WriteStage.TheVariants.{Gathering, Judging, Placing}
use Rattle.syscall_drain.specs.declared.task.Task.{Task}
use Rattle.syscall_drain.specs.declared.task.Task.TheVariants.{Over, Quiet, Access, Meeting}
use Rattle.syscall_drain.specs.declared.task.QuietReason.TheVariants.{Blank, Faulted, Plain, Return}
use Rattle.syscall_drain.specs.declared.task.AccessReason.TheVariants.{Insn as ByInsn, Fill, Gather, Claim}
use Rattle.syscall_drain.specs.Locals.{Local}
use Rattle.syscall_drain.specs.Tasks.{phase_task, task_of}
use Rattle.syscall_drain.specs.Records.{task_record, unit_record}
use Rattle.syscall_drain.specs.Units.{next_ask, answered, task_ask, taken_of, after_task, spent_unit, budget_end}
use Rattle.syscall_drain.proofs.InsnTasks.{IsInsnTask, fetched_of_insn}
use Rattle.machine.specs.Setups.{Setup}
use Rattle.machine.specs.States.{Core}
use Rattle.machine.specs.Steps.{Finding, core_given, record_given, access_answer, answer_to, tag_found, word_asked, touched}
use Rattle.machine.specs.TrapLaws.{IsHeld, IsNoStore, IsCalm}

-- ---- the tags of a unit

looks_at_step : (policy : PolicySeen) (tags : Tags) (step pc : ℕ) (looks : List Look) (trap : Trap) → first_trap policy tags step pc looks ≡ Some trap
    → trap.step ≡ step
looks_at_step policy tags step pc [] trap e = absurd (cc)
looks_at_step policy tags step pc (look ∷ looks) trap e = by_look (fired policy tags look == 0) (looks_at_step policy tags step pc looks trap) e
  where
    first : Trap
    first = record { step = step; pc = pc; kind = kind_of look.check; bits = fired policy tags look }

    by_look : (b : Bool) → (first_trap policy tags step pc looks ≡ Some trap → trap.step ≡ step)
        → (if b then first_trap policy tags step pc looks else Some first) ≡ Some trap → trap.step ≡ step
    by_look true rest e = rest e
    by_look false rest e = let same : first ≡ trap = cc in ap (λ (found : Trap). found.step) (sym same)

-- a core keeps its trap
pub trap_kept : (policy : PolicySeen) (tags : Tags) (item : Record) (old : ℕ) (trap : Trap) → tags.trap ≡ Some trap
    → (tags_after policy tags item old).trap ≡ Some trap
unfolding tags_after
trap_kept policy tags item old trap e = rw e refl

-- a new trap has the number of its unit
pub trap_found : (policy : PolicySeen) (tags : Tags) (item : Record) (old : ℕ) (trap : Trap) → (tags_after policy tags item old).trap ≡ Some trap
    → (tags.trap ≡ Some trap) ⊎ (trap.step ≡ step_of item)
unfolding tags_after
trap_found policy tags item old trap e = by_old tags.trap e
  where
    by_old : (before : Option Trap) → kept_trap before (first_trap policy tags (step_of item) (pc_of item) (row_of item).looks) ≡ Some trap
        → (before ≡ Some trap) ⊎ (trap.step ≡ step_of item)
    by_old (Some first) e = inl e
    by_old None e = inr (looks_at_step policy tags (step_of item) (pc_of item) (row_of item).looks trap e)

-- a unit that looks nowhere finds no trap
pub no_looks : (policy : PolicySeen) (tags : Tags) (item : Record) (old : ℕ) → (row_of item).looks ≡ [] → tags.trap ≡ None
    → (tags_after policy tags item old).trap ≡ None
unfolding tags_after
no_looks policy tags item old nowhere none = rw (none, nowhere) refl

-- ---- the trap after a unit

-- a unit with no looks leaves the trap as it was, and each other has its own number
pub task_trap : (policy : PolicySeen) (tags : Tags) (l : Local) (task : Task) (t : Taken) (old : ℕ) (trap : Trap)
    → (tags_after policy tags (task_record l task t) old).trap ≡ Some trap → (tags.trap ≡ Some trap) ⊎ (trap.step ≡ l.units)
task_trap policy tags l Over t old trap e = by_old tags.trap refl
  where
    by_old : (before : Option Trap) → tags.trap ≡ before → (tags.trap ≡ Some trap) ⊎ (trap.step ≡ l.units)
    by_old None is = absurd (cc (sym (no_looks policy tags (task_record l Over t) old refl is) ∙ e))
    by_old (Some first) is = inl (is ∙ sym (trap_kept policy tags (task_record l Over t) old first is) ∙ e)
task_trap policy tags l (Quiet (Blank fault)) t old trap e = trap_found policy tags (task_record l (Quiet (Blank fault)) t) old trap e
task_trap policy tags l (Quiet (Faulted fault insn)) t old trap e = trap_found policy tags (task_record l (Quiet (Faulted fault insn)) t) old trap e
task_trap policy tags l (Quiet (Plain insn)) t old trap e = trap_found policy tags (task_record l (Quiet (Plain insn)) t) old trap e
task_trap policy tags l (Quiet (Return result)) t old trap e = trap_found policy tags (task_record l (Quiet (Return result)) t) old trap e
task_trap policy tags l (Access word op reason) t old trap e = trap_found policy tags (task_record l (Access word op reason) t) old trap e
task_trap policy tags l (Meeting kind) t old trap e = trap_found policy tags (task_record l (Meeting kind) t) old trap e

pub given_keeps : (s : Setup) (c : Core) (finding : Finding) (trap : Trap) → c.tags.trap ≡ Some trap → (core_given s c finding).tags.trap ≡ Some trap
unfolding core_given
given_keeps s c finding trap e = trap_kept s.policy c.tags (record_given s c finding) (tag_found finding) trap e

pub given_trap : (s : Setup) (c : Core) (finding : Finding) (trap : Trap) → (core_given s c finding).tags.trap ≡ Some trap
    → (c.tags.trap ≡ Some trap) ⊎ (trap.step ≡ c.local.units)
unfolding core_given unit_record
given_trap s c finding trap e = task_trap s.policy c.tags c.local (task_of s.program c.local) (taken_of (access_answer finding)) (tag_found finding) trap e

-- ---- a unit of a core that goes on, by its phase

abbrev going : HartState → Phase → List ℕ → ℕ → Local
going h phase g u = record { hart = h; phase = phase; gathered = g; units = u; ending = None }

-- the tags and the core after a unit
abbrev tags_of : Setup → Local → Tags → Finding → Task → Tags
tags_of s l tags finding task = tags_after s.policy tags (task_record l task (taken_of (access_answer finding))) (tag_found finding)

abbrev local_of : Setup → Local → Finding → Tags → Task → Local
local_of s l finding after task = spent_unit s.budget (after_task s.program l task (answer_to (task_ask l task) finding after))

-- the unit is held by the trap that it leaves
record IsHeldUnit (s : Setup) (l : Local) (finding : Finding) (after : Tags) (task : Task) : Type 0 where
  held : IsHeld (local_of s l finding after task).phase (local_of s l finding after task).ending
  memory : IfSome (word_asked (task_ask l task)) (λ word. 2 < word)
  store : IsNoStore l.phase

budget_held : (budget units : ℕ) → IsHeld Running (budget_end budget units None)
budget_held budget units = elim (units == budget) as (λ b. IsHeld Running (if b then Some Budget else None)) [ true ↦ tt | false ↦ refl ]

access_held : (budget : ℕ) (spent : Bool) (x y : Local) → IsHeld (spent_unit budget x).phase (spent_unit budget x).ending
    → IsHeld (spent_unit budget y).phase (spent_unit budget y).ending
    → IsHeld (spent_unit budget (if spent then x else y)).phase (spent_unit budget (if spent then x else y)).ending
access_held budget true x y first second = first
access_held budget false x y first second = second

-- a meeting stops a core that has a trap
stops : (after : Tags) → IsSome after.trap → (reply_of after).stop ≡ true
unfolding reply_of
stops after some = some

insn_held : (s : Setup) (h : HartState) (g : List ℕ) (u : ℕ) (finding : Finding) (after : Tags) (task : Task) → IsInsnTask task → IsSome after.trap
    → IsHeldUnit s (going h Running g u) finding after task
insn_held s h g u finding after Over is some = absurd is
insn_held s h g u finding after (Quiet (Blank fault)) is some = record { held = tt; memory = tt; store = tt }
insn_held s h g u finding after (Quiet (Faulted fault insn)) is some = record { held = tt; memory = tt; store = tt }
insn_held s h g u finding after (Quiet (Plain insn)) is some = record { held = budget_held s.budget (u + 1); memory = tt; store = tt }
insn_held s h g u finding after (Quiet (Return result)) is some = absurd is
insn_held s h g u finding after (Access word op (ByInsn insn)) is some = record {
  held = access_held s.budget (taken_of (access_answer finding)).spent _ _ tt (budget_held s.budget (u + 1));
  memory = omega (arith, is);
  store = tt;
}
insn_held s h g u finding after (Access word op (Fill bytes)) is some = absurd is
insn_held s h g u finding after (Access word op (Gather bytes)) is some = absurd is
insn_held s h g u finding after (Access word op Claim) is some = absurd is
insn_held s h g u finding after (Meeting Call) is some = record { held = rw (stops after some) tt; memory = tt; store = tt }
insn_held s h g u finding after (Meeting Verdict) is some = absurd is

-- a calm core in a call has no trap
no_trap : (phase : Phase) (trap : Option Trap) → (IsSome trap → phase ≡ Running) → (phase ≡ Running → ⊥) → trap ≡ None
no_trap phase None calm apart = refl
no_trap phase (Some trap) calm apart = absurd (apart (calm refl))

-- a unit of a call that is no meeting
abbrev IsCallTask : Task → Type 0
IsCallTask Over = ⊥
IsCallTask (Quiet (Return result)) = Unit {0}
IsCallTask (Quiet _) = ⊥
IsCallTask (Access word op (ByInsn insn)) = ⊥
IsCallTask (Access word op _) = Unit {0}
IsCallTask (Meeting kind) = ⊥

spent_nowhere : (step pc word number : ℕ) (spent : Bool) (why : Why) → (touch_row why).looks ≡ []
    → (row_of (Touch step pc word number (if spent then BySpent else why))).looks ≡ []
spent_nowhere step pc word number true why nowhere = refl
spent_nowhere step pc word number false why nowhere = nowhere

-- looks nowhere
nowhere : (l : Local) (task : Task) (t : Taken) → IsCallTask task → (row_of (task_record l task t)).looks ≡ []
nowhere l Over t is = absurd is
nowhere l (Quiet (Blank fault)) t is = absurd is
nowhere l (Quiet (Faulted fault insn)) t is = absurd is
nowhere l (Quiet (Plain insn)) t is = absurd is
nowhere l (Quiet (Return result)) t is = refl
nowhere l (Access word op (ByInsn insn)) t is = absurd is
nowhere l (Access word op (Fill bytes)) t is = spent_nowhere l.units l.hart.pc word t.number t.spent (ByFill bytes) refl
nowhere l (Access word op (Gather bytes)) t is = spent_nowhere l.units l.hart.pc word t.number t.spent (ByGather bytes) refl
nowhere l (Access word op Claim) t is = spent_nowhere l.units l.hart.pc word t.number t.spent ByClaim refl
nowhere l (Meeting kind) t is = absurd is

-- and leaves no trap
still_none : (s : Setup) (l : Local) (tags : Tags) (finding : Finding) (task : Task) → tags.trap ≡ None → IsCallTask task
    → IsSome (tags_of s l tags finding task).trap → ⊥
still_none s l tags finding task none is some =
    let item : Record = task_record l task (taken_of (access_answer finding)) in
    let gone : (tags_of s l tags finding task).trap ≡ None =
    no_looks s.policy tags item (tag_found finding) (nowhere l task (taken_of (access_answer finding)) is) none in
    cc (sym (ap (λ (trap : Option Trap). is_some trap) gone) ∙ some)

-- so the unit of a call that leaves a trap is the verdict's
abbrev HeldIn : Setup → HartState → Phase → List ℕ → ℕ → Tags → Finding → Type 0
HeldIn s h phase g u tags finding =
    (IsSome tags.trap → phase ≡ Running) → IsSome (tags_of s (going h phase g u) tags finding (phase_task s.program h phase)).trap
    → IsHeldUnit s (going h phase g u) finding (tags_of s (going h phase g u) tags finding (phase_task s.program h phase)) (phase_task s.program h phase)

call_held : (s : Setup) (h : HartState) (phase : Phase) (g : List ℕ) (u : ℕ) (tags : Tags) (finding : Finding) → (phase ≡ Running → ⊥)
    → IsCallTask (phase_task s.program h phase) → HeldIn s h phase g u tags finding
call_held s h phase g u tags finding apart is calm some =
    absurd (still_none s (going h phase g u) tags finding (phase_task s.program h phase) (no_trap phase tags.trap calm apart) is some)

phase_held : (s : Setup) (h : HartState) (phase : Phase) (g : List ℕ) (u : ℕ) (tags : Tags) (finding : Finding) → HeldIn s h phase g u tags finding
phase_held s h Running g u tags finding calm some =
    insn_held s h g u finding (tags_of s (going h Running g u) tags finding (phase_task s.program h Running)) (phase_task s.program h Running) (fetched_of_insn s.program.layout h) some
phase_held s h (Reading Claiming) g u tags finding calm some = call_held s h (Reading Claiming) g u tags finding (λ e. cc) tt calm some
phase_held s h (Reading (Storing index start count)) g u tags finding calm some =
    call_held s h (Reading (Storing index start count)) g u tags finding (λ e. cc) tt calm some
phase_held s h (Writing (Gathering index)) g u tags finding calm some = call_held s h (Writing (Gathering index)) g u tags finding (λ e. cc) tt calm some
phase_held s h (Writing Judging) g u tags finding calm some =
    record { held = rw (stops (tags_of s (going h (Writing Judging) g u) tags finding (Meeting Verdict)) some) tt; memory = tt; store = tt }
phase_held s h (Writing Placing) g u tags finding calm some = call_held s h (Writing Placing) g u tags finding (λ e. cc) tt calm some
phase_held s h Breaking g u tags finding calm some = call_held s h Breaking g u tags finding (λ e. cc) tt calm some
phase_held s h (Returning result) g u tags finding calm some = call_held s h (Returning result) g u tags finding (λ e. cc) tt calm some

-- ---- a unit of a core

pub record IsHeldBy (s : Setup) (c : Core) (finding : Finding) : Type 0 where
  pub held : IsHeld (core_given s c finding).local.phase (core_given s c finding).local.ending
  pub memory : IfSome (touched s c) (λ word. 2 < word)
  pub store : IsNoStore c.local.phase

by_ending : (s : Setup) (h : HartState) (phase : Phase) (g : List ℕ) (u : ℕ) (ending : Option End) (tags : Tags) (notes : List CallNote) (finding : Finding)
    → ending ≡ None
    → (IsSome tags.trap → IsHeld phase ending)
    → IsSome (core_given s (record { local = record { hart = h; phase = phase; gathered = g; units = u; ending = ending }; tags = tags; notes = notes }) finding).tags.trap
    → IsHeldBy s (record { local = record { hart = h; phase = phase; gathered = g; units = u; ending = ending }; tags = tags; notes = notes }) finding
unfolding core_given unit_record task_of next_ask answered touched
by_ending s h phase g u (Some end) tags notes finding running calm some = absurd (cc)
by_ending s h phase g u None tags notes finding running calm some =
    let unit = phase_held s h phase g u tags finding calm some in
    record { held = unit.held; memory = unit.memory; store = unit.store }

pub unit_held : (s : Setup) (c : Core) (finding : Finding) → c.local.ending ≡ None → IsCalm c → IsSome (core_given s c finding).tags.trap → IsHeldBy s c finding
unit_held s c finding running calm some =
    by_ending s c.local.hart c.local.phase c.local.gathered c.local.units c.local.ending c.tags c.notes finding running calm some
