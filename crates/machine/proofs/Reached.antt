-- What holds of every state that a run comes to: units, notes, counts of accesses and tags stay within their ranges.
use Rattle.std.proofs.Common.{◌≡◌, ℕ, zero, suc, ◌+◌, ◌<◌, ◌≤◌, Some, None, length, refl, arith, length-append}
use Rattle.record_lane.specs.declared.record.Record.{Record}
use Rattle.record_lane.specs.declared.record.Record.TheVariants.{Quiet, Blank, Touch, Meet, Back, End as EndOfCore}
use Rattle.tag_policy.specs.declared.rules.Version.{Version}
use Rattle.tag_policy.specs.declared.rules.Version.TheVariants.{WordTags, ByteTags}
use Rattle.tag_policy.specs.Memory.{tags_below}
use Rattle.tag_registers.specs.Tags.{Tags}
use Rattle.syscall_drain.specs.declared.ask.CoreAsk.{CoreAsk}
use Rattle.syscall_drain.specs.declared.ask.CoreAsk.TheVariants.{Quiet as AsksNothing, Touch as Touches, Meet as Meets, Ended}
use Rattle.syscall_drain.specs.declared.ask.Answer.{Answer}
use Rattle.syscall_drain.specs.Locals.{opening_local}
use Rattle.syscall_drain.specs.Sound.{IsSound}
use Rattle.syscall_drain.specs.Units.{next_ask, answered}
use Rattle.syscall_drain.proofs.Units.{answered_units, answered_below, answered_sound}
use Rattle.order_core.specs.SetAt.{set_at}
use Rattle.machine.specs.Setups.{Setup, core_count}
use Rattle.machine.specs.States.{Core, State, opening}
use Rattle.machine.specs.Steps.{Finding, NoAccess, Accessed, core_given, tags_given, answer_to, note_of, notes_of, touched, quiet, took, found_in, step, step_by}
use Rattle.machine.proofs.SetAt.{set_at_keeps, total, total_set}
use Rattle.machine.proofs.ByAsk.{left_count, left_tag_below}

-- a core at a moment of a run: no more notes than units, and within its budget
pub record IsWithinBudget (budget : ℕ) (c : Core) : Type 0 where
  pub sound : IsSound c.local
  pub notes : length c.notes ≤ c.local.units
  pub within : c.local.units ≤ budget
  pub below : c.local.ending ≡ None → c.local.units < budget

-- a state after so many units
pub record IsReached (s : Setup) (t : State) (count : ℕ) : Type 0 where
  pub cores : (c : ℕ) → IsWithinBudget s.budget (t.cores c)
  pub tags : (n : ℕ) → (t.words n).tag < tags_below s.policy.version
  pub accesses : (n : ℕ) → (t.words n).count ≤ count
  pub units : total (λ c. c.local.units) t.cores (core_count s) ≡ count

-- a unit adds at most one note
note_length : (item : Record) (after : Tags) → length (note_of item after) ≤ 1
note_length (Quiet step pc insn faulted) after = omega arith
note_length (Blank step pc) after = omega arith
note_length (Touch step pc word number why) after = omega arith
note_length (Meet step pc call kind) after = omega arith
note_length (Back step pc) after = omega arith
note_length EndOfCore after = omega arith

notes_length : (ask : CoreAsk) (after : Tags) → length (notes_of ask after) ≤ 1
notes_length AsksNothing after = omega arith
notes_length (Touches word op) after = omega arith
notes_length (Meets item) after = note_length item after
notes_length Ended after = omega arith

within_given : (s : Setup) (c : Core) → IsWithinBudget s.budget c → c.local.ending ≡ None → (finding : Finding) → IsWithinBudget s.budget (core_given s c finding)
unfolding core_given
within_given s c h running finding =
    let answer : Answer = answer_to (next_ask s.program c.local) finding (tags_given s c finding) in
    let more : (answered s.program s.budget c.local answer).units ≡ c.local.units + 1 = answered_units s.program s.budget c.local answer h.sound in
    let less : c.local.units < s.budget = h.below running in
    let noted : length (notes_of (next_ask s.program c.local) (tags_given s c finding)) ≤ 1 = notes_length (next_ask s.program c.local) (tags_given s c finding) in
    record {
      sound = answered_sound s.program s.budget c.local answer h.sound;
      notes = simp length-append (omega (arith, h.notes));
      within = omega arith;
      below = λ end. rw more (answered_below s.program s.budget c.local answer h.sound end less);
    }

pub given_units : (s : Setup) (c : Core) → IsSound c.local → (finding : Finding) → (core_given s c finding).local.units ≡ c.local.units + 1
unfolding core_given
given_units s c sound finding = answered_units s.program s.budget c.local (answer_to (next_ask s.program c.local) finding (tags_given s c finding)) sound

-- the sum of units, where one core has one more
one_more : (cores : ℕ → Core) (n c count : ℕ) (after : Core) → c < n → total (λ d. d.local.units) cores n ≡ count → after.local.units ≡ (cores c).local.units + 1 → total (λ d. d.local.units) (set_at cores c after) n ≡ count + 1
one_more cores n c count after below sum more = omega (arith, total_set (λ (d : Core). d.local.units) cores c after n below)

-- one unit more, of a core that has not ended
quiet_reached : (s : Setup) (t : State) (count c : ℕ) → IsReached s t count → c < core_count s → (t.cores c).local.ending ≡ None → IsReached s (step_by s t c None) (count + 1)
unfolding quiet
quiet_reached s t count c h below running = record {
  cores = set_at_keeps (IsWithinBudget s.budget) t.cores c _ h.cores (within_given s (t.cores c) (h.cores c) running NoAccess);
  tags = h.tags;
  accesses = λ n. omega (arith, h.accesses n);
  units = one_more t.cores (core_count s) c count _ below h.units (given_units s (t.cores c) (h.cores c).sound NoAccess);
}

took_reached : (s : Setup) (t : State) (count c n : ℕ) → IsReached s t count → c < core_count s → (t.cores c).local.ending ≡ None → IsReached s (step_by s t c (Some n)) (count + 1)
unfolding took
took_reached s t count c n h below running = record {
  cores = set_at_keeps (IsWithinBudget s.budget) t.cores c _ h.cores (within_given s (t.cores c) (h.cores c) running (Accessed (found_in s (t.words n)) (t.words n).tag));
  tags = set_at_keeps (λ w. w.tag < tags_below s.policy.version) t.words n _ h.tags (left_tag_below s (t.cores c) (t.words n) (h.tags n));
  accesses = set_at_keeps (λ w. w.count ≤ count + 1) t.words n _ (λ m. omega (arith, h.accesses m))
      (omega (arith, left_count s (t.cores c) (t.words n), h.accesses n));
  units = one_more t.cores (core_count s) c count _ below h.units (given_units s (t.cores c) (h.cores c).sound (Accessed (found_in s (t.words n)) (t.words n).tag));
}

pub step_reached : (s : Setup) (t : State) (count c : ℕ) → IsReached s t count → c < core_count s → (t.cores c).local.ending ≡ None → IsReached s (step s t c) (count + 1)
unfolding step
step_reached s t count c h below running =
    elim (touched s (t.cores c)) as (λ w. IsReached s (step_by s t c w) (count + 1)) [
      | None ↦ quiet_reached s t count c h below running
      | Some n ↦ took_reached s t count c n h below running
    ]

some_tags : (version : Version) → 0 < tags_below version
some_tags WordTags = omega arith
some_tags ByteTags = omega arith

total_zero : (s : Setup) (n : ℕ) → total (λ (c : Core). c.local.units) (opening s).cores n ≡ 0
unfolding total opening_local
total_zero s zero = refl
total_zero s (suc n) = rw (total_zero s n) refl

-- the state that a run begins in
pub opening_reached : (s : Setup) → 1 ≤ s.budget → IsReached s (opening s) 0
unfolding opening_local
opening_reached s some = record {
  cores = λ c. record { sound = record { phase = tt }; notes = omega arith; within = omega arith; below = λ e. omega arith };
  tags = λ n. some_tags s.policy.version;
  accesses = λ n. omega arith;
  units = total_zero s (core_count s);
}
