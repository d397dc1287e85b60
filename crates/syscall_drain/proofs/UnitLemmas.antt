-- What each unit leaves: a sound core with one unit spent, at most four bytes more due, and a place in the output only where it claimed one.
use Rattle.std.proofs.Common.{◌≡◌, ℕ, ◌+◌, ◌-◌, ◌*◌, ◌/◌, ◌%◌, ◌<◌, ◌≤◌, min, List, ◌++◌, length, Option, Some, None, Bool, true, false, not, ◌==◌, if◌then◌else◌, nat_lt, refl, sym, ap, ◌∙◌, arith, length-append}
use Rattle.std.specs.Prelude.{OnSome}
use Rattle.std.proofs.lemmas.Bool.Decides.{nat_tests}
use Rattle.elf_image.specs.Layout.{fetched}
use Rattle.rv_execute.specs.declared.op.Op.{Op}
use Rattle.rv_execute.specs.declared.op.Op.TheVariants.{Place}
use Rattle.rv_execute.specs.declared.op.Taken.{Taken}
use Rattle.rv_execute.specs.Harts.{HartState}
use Rattle.record_lane.specs.declared.record.MeetKind.TheVariants.{Call, Verdict}
use Rattle.syscall_drain.specs.Programs.{Program}
use Rattle.syscall_drain.specs.Locals.{Local}
use Rattle.syscall_drain.specs.Arguments.{buffer_start, byte_count}
use Rattle.syscall_drain.specs.Buffers.{word_count, buffer_word, gather}
use Rattle.syscall_drain.specs.ReadCall.{read_task, bytes_taken, store_phase}
use Rattle.syscall_drain.specs.WriteCall.{write_task, write_next}
use Rattle.syscall_drain.specs.Tasks.{fetched_task, phase_task}
use Rattle.syscall_drain.specs.Units.{task_ask, place_asked, taken_of, stop_of, after_task}
use Rattle.syscall_drain.specs.Pieces.{bytes_placed}
use Rattle.syscall_drain.specs.Sound.{HasBuffer, IsSoundPhase, IsSoundRead, IsSoundWrite, IsSound, due, due_in}
use Rattle.syscall_drain.specs.declared.end.End.{End}
use Rattle.syscall_drain.specs.declared.end.End.TheVariants.{Trapped, Spent}
use Rattle.syscall_drain.specs.declared.phase.Phase.{Phase}
use Rattle.syscall_drain.specs.declared.phase.Phase.TheVariants.{Running, Reading, Writing, Breaking, Returning}
use Rattle.syscall_drain.specs.declared.read_call.ReadStage.{ReadStage}
use Rattle.syscall_drain.specs.declared.read_call.ReadStage.TheVariants.{Claiming, Storing}
use Rattle.syscall_drain.specs.declared.write_call.WriteStage.{WriteStage}
use Rattle.syscall_drain.specs.declared.write_call.WriteStage.TheVariants.{Gathering, Judging, Placing}
use Rattle.syscall_drain.specs.declared.task.Task.{Task}
use Rattle.syscall_drain.specs.declared.task.Task.TheVariants.{Over, Quiet, Access, Meeting}
use Rattle.syscall_drain.specs.declared.task.QuietReason.TheVariants.{Blank, Faulted, Plain, Return}
use Rattle.syscall_drain.specs.declared.task.AccessReason.{AccessReason}
use Rattle.syscall_drain.specs.declared.task.AccessReason.TheVariants.{Insn as ByInsn, Fill, Gather, Claim}
use Rattle.syscall_drain.specs.declared.ask.CoreAsk.TheVariants.{Touch as Touches, Ended}
use Rattle.syscall_drain.specs.declared.ask.Answer.{Answer}
use Rattle.syscall_drain.proofs.Decisions.{choice, is_decided}
use Rattle.syscall_drain.proofs.Gathering.{length_gather, length_gather_le}
use Rattle.syscall_drain.proofs.InsnTasks.{IsInsnTask, fetched_of_insn}
use Rattle.syscall_drain.proofs.Within.{buffer_no_output}

-- what every unit leaves
pub record IsAfter (l after : Local) : Type 0 where
  pub sound : IsSound after
  pub units : after.units ≡ l.units
  pub few : due after ≤ due l + 4

-- and where a unit claims a place in the output
pub record IsDone (program : Program) (l : Local) (task : Task) (answer : Answer) : Type 0 where
  pub after : IsAfter l (after_task program l task answer)
  pub going : task_ask l task ≡ Ended → ⊥
  pub output : (op : Op) → task_ask l task ≡ Touches 1 op → op ≡ Place (length l.gathered)
  pub short : (op : Op) → task_ask l task ≡ Touches 1 op → length l.gathered ≤ 4096
  pub placed : due (after_task program l task answer) + length (bytes_placed (place_asked (task_ask l task) (taken_of answer)) l.gathered) ≤ due l + 4
  pub whole : OnSome (place_asked (task_ask l task) (taken_of answer)) (due l ≡ length l.gathered)
  pub claimed : OnSome (place_asked (task_ask l task) (taken_of answer)) (due (after_task program l task answer) ≡ 0)
  pub kept : OnSome (place_asked (task_ask l task) (taken_of answer)) ((after_task program l task answer).gathered ≡ l.gathered)

on_none : (P : Type 0) (o : Option ℕ) → o ≡ None → OnSome o P
on_none P None is = tt
on_none P (Some n) is = cc

no_bytes : (o : Option ℕ) (bytes : List ℕ) → o ≡ None → length (bytes_placed o bytes) ≡ 0
no_bytes None bytes is = refl
no_bytes (Some n) bytes is = cc

-- a unit that touches another word than that of the output
elsewhere : (program : Program) (l : Local) (task : Task) (answer : Answer) → place_asked (task_ask l task) (taken_of answer) ≡ None → (task_ask l task ≡ Ended → ⊥) → ((op : Op) → task_ask l task ≡ Touches 1 op → ⊥) → IsAfter l (after_task program l task answer) → IsDone program l task answer
elsewhere program l task answer none going other after = record {
  after = after;
  going = going;
  output = λ op e. absurd (other op e);
  short = λ op e. absurd (other op e);
  placed = omega (arith, no_bytes (place_asked (task_ask l task) (taken_of answer)) l.gathered none, after.few);
  whole = on_none _ _ none;
  claimed = on_none _ _ none;
  kept = on_none _ _ none;
}

other_word : (word : ℕ) (op : Op) (t : Taken) → (word ≡ 1 → ⊥) → place_asked (Touches word op) t ≡ None
other_word word op t apart = let e : (word == 1) ≡ false = grind (arith, nat_tests) in rw e refl

access_elsewhere : (program : Program) (l : Local) (word : ℕ) (op : Op) (reason : AccessReason) (answer : Answer) → (word ≡ 1 → ⊥) → IsAfter l (after_task program l (Access word op reason) answer) → IsDone program l (Access word op reason) answer
access_elsewhere program l word op reason answer apart after =
    elsewhere program l (Access word op reason) answer (other_word word op (taken_of answer) apart) (λ e. cc) (λ asked e. apart (cc)) after

-- ---- in no call

abbrev going_core : HartState → Phase → List ℕ → ℕ → Local
going_core h phase gathered units = record { hart = h; phase = phase; gathered = gathered; units = units; ending = None }

running_after : (h after : HartState) (g : List ℕ) (u : ℕ) (ending : Option End) → IsAfter (going_core h Running g u) (record { hart = after; phase = Running; gathered = g; units = u; ending = ending })
running_after h after g u ending = record { sound = record { phase = tt }; units = refl; few = omega arith }

insn_after : (program : Program) (h : HartState) (g : List ℕ) (u : ℕ) (task : Task) (answer : Answer) → IsInsnTask task → IsDone program (going_core h Running g u) task answer
insn_after program h g u Over answer is = absurd is
insn_after program h g u (Quiet (Blank fault)) answer is = elsewhere program _ _ answer refl (λ e. cc) (λ op e. cc) (running_after h _ g u _)
insn_after program h g u (Quiet (Faulted fault insn)) answer is = elsewhere program _ _ answer refl (λ e. cc) (λ op e. cc) (running_after h _ g u _)
insn_after program h g u (Quiet (Plain insn)) answer is = elsewhere program _ _ answer refl (λ e. cc) (λ op e. cc) (running_after h _ g u _)
insn_after program h g u (Quiet (Return result)) answer is = absurd is
insn_after program h g u (Access word op (ByInsn insn)) answer is =
    access_elsewhere program (going_core h Running g u) word op (ByInsn insn) answer (λ e. omega (arith, is))
    (choice (IsAfter (going_core h Running g u)) (taken_of answer).spent _ _ (λ _. running_after h _ g u _) (λ _. running_after h _ g u _))
insn_after program h g u (Access word op (Fill bytes)) answer is = absurd is
insn_after program h g u (Access word op (Gather bytes)) answer is = absurd is
insn_after program h g u (Access word op Claim) answer is = absurd is
insn_after program h g u (Meeting Call) answer is =
    let decided = is_decided program (going_core h Running g u) tt refl in
    elsewhere program _ _ answer refl (λ e. cc) (λ op e. cc)
    (choice (IsAfter (going_core h Running g u)) (stop_of answer) _ _ (λ _. running_after h _ g u _)
    (λ _. record { sound = decided.sound; units = decided.same; few = omega (arith, decided.empty) }))
insn_after program h g u (Meeting Verdict) answer is = absurd is

-- ---- in a read call

-- a phase in which nothing is gathered
reading_after : (h : HartState) (phase : Phase) (g : List ℕ) (u : ℕ) (next : Phase) (ending : Option End) → IsSoundPhase h g next → due_in next (length g) ≡ 0 → IsAfter (going_core h phase g u) (record { hart = h; phase = next; gathered = g; units = u; ending = ending })
reading_after h phase g u next ending sound none = record { sound = record { phase = sound }; units = refl; few = omega (arith, none) }

record IsQuietNext (h : HartState) (g : List ℕ) (next : Phase) : Type 0 where
  sound : IsSoundPhase h g next
  none : due_in next (length g) ≡ 0

claimed_next : (program : Program) (h : HartState) (g : List ℕ) (position : ℕ) → HasBuffer h → IsQuietNext h g (store_phase position (bytes_taken program h position))
claimed_next program h g position buffer =
    choice (IsQuietNext h g) (bytes_taken program h position == 0) (Returning 0) (Reading (Storing 0 position (bytes_taken program h position)))
    (λ _. record { sound = tt; none = refl })
    (λ some. record { sound = (buffer, (omega arith, grind (arith, nat_tests))); none = refl })

stored_next : (h : HartState) (g : List ℕ) (index start count : ℕ) → HasBuffer h → count ≤ byte_count h → IsQuietNext h g (if nat_lt (index + 1) (word_count (buffer_start h) count) then Reading (Storing (index + 1) start count) else Returning count)
stored_next h g index start count buffer few =
    choice (IsQuietNext h g) (nat_lt (index + 1) (word_count (buffer_start h) count)) (Reading (Storing (index + 1) start count)) (Returning count)
    (λ more. record { sound = (buffer, (few, grind (arith, nat_tests))); none = refl })
    (λ _. record { sound = tt; none = refl })

read_after : (program : Program) (h : HartState) (stage : ReadStage) (g : List ℕ) (u : ℕ) (answer : Answer) → IsSoundRead h stage → IsDone program (going_core h (Reading stage) g u) (read_task program h stage) answer
read_after program h Claiming g u answer sound =
    let next = claimed_next program h g (taken_of answer).old sound in
    access_elsewhere program (going_core h (Reading Claiming) g u) 0 _ Claim answer (λ e. omega arith)
    (choice (IsAfter (going_core h (Reading Claiming) g u)) (taken_of answer).spent _ _
    (λ _. reading_after h (Reading Claiming) g u (Reading Claiming) (Some Spent) sound refl)
    (λ _. reading_after h (Reading Claiming) g u _ None next.sound next.none))
read_after program h (Storing index start count) g u answer sound =
    let next = stored_next h g index start count sound.0 sound.1.0 in
    access_elsewhere program (going_core h (Reading (Storing index start count)) g u) (buffer_word program.layout (buffer_start h) index) _ _ answer (buffer_no_output program.layout (buffer_start h) index)
    (choice (IsAfter (going_core h (Reading (Storing index start count)) g u)) (taken_of answer).spent _ _
    (λ _. reading_after h (Reading (Storing index start count)) g u (Reading (Storing index start count)) (Some Spent) sound refl)
    (λ _. reading_after h (Reading (Storing index start count)) g u _ None next.sound next.none))

-- ---- in a write call

-- with n bytes from an offset on in so many words, word `index` adds those up to the next word or the last
far : (offset n index old new : ℕ) → 0 < n → offset < 4 → index < (offset + n + 3) / 4 → old ≡ 4 * index - offset → new + (min (4 * index) (offset + n) - offset) ≡ min (4 * index + 4) (offset + n) - offset → old + new ≡ min (4 * index + 4) (offset + n) - offset
far offset n index old new some low inside before after = omega arith

more_far : (offset n index : ℕ) → 0 < n → offset < 4 → index + 1 < (offset + n + 3) / 4 → (min (4 * index + 4) (offset + n) - offset < n) × (min (4 * index + 4) (offset + n) - offset ≡ 4 * (index + 1) - offset)
more_far offset n index some low inside = (omega arith, omega arith)

all_far : (offset n index : ℕ) → index < (offset + n + 3) / 4 → (offset + n + 3) / 4 ≤ index + 1 → min (4 * index + 4) (offset + n) - offset ≡ n
all_far offset n index inside last = omega arith

gathered_next : (h : HartState) (g : List ℕ) (index found : ℕ) → HasBuffer h → index < word_count (buffer_start h) (byte_count h) → length g ≡ 4 * index - buffer_start h % 4 → IsSoundPhase h (g ++ gather (buffer_start h) (byte_count h) index found) (write_next h (Gathering index))
gathered_next h g index found buffer inside before =
    let offset_low : buffer_start h % 4 < 4 = omega arith in
    let total = length-append g (gather (buffer_start h) (byte_count h) index found) ∙ far (buffer_start h % 4) (byte_count h) index (length g) (length (gather (buffer_start h) (byte_count h) index found)) buffer.0 offset_low inside before (length_gather (buffer_start h) (byte_count h) index found) in
    choice (IsSoundPhase h (g ++ gather (buffer_start h) (byte_count h) index found)) (nat_lt (index + 1) (word_count (buffer_start h) (byte_count h))) (Writing (Gathering (index + 1))) (Writing Judging)
    (λ test.
    let more : index + 1 < word_count (buffer_start h) (byte_count h) = grind (arith, nat_tests) in
    let facts = more_far (buffer_start h % 4) (byte_count h) index buffer.0 offset_low more in
    (buffer, (more, (rw total facts.0, total ∙ facts.1))))
    (λ test.
    let last : word_count (buffer_start h) (byte_count h) ≤ index + 1 = grind (arith, nat_tests) in
    total ∙ all_far (buffer_start h % 4) (byte_count h) index inside last)

-- bytes that are gathered are due as long as the call is before its claim
due_writing : (phase : Phase) (n : ℕ) → due_in phase n ≤ n
due_writing Running n = omega arith
due_writing (Reading stage) n = omega arith
due_writing (Writing stage) n = omega arith
due_writing Breaking n = omega arith
due_writing (Returning result) n = omega arith

writing_after : (h : HartState) (stage : WriteStage) (g more : List ℕ) (u : ℕ) (next : Phase) (ending : Option End) → length more ≤ length g + 4 → IsSoundPhase h more next → IsAfter (going_core h (Writing stage) g u) (record { hart = h; phase = next; gathered = more; units = u; ending = ending })
writing_after h stage g more u next ending few sound = record { sound = record { phase = sound }; units = refl; few = omega (arith, due_writing next (length more)) }

place_if : (spent : Bool) (old : ℕ) (P : Bool → Type 0) → P false → OnSome (if not spent then Some old else None) (P spent)
place_if true old P holds = tt
place_if false old P holds = holds

bytes_if : (spent : Bool) (old : ℕ) (g : List ℕ) (x y : Local) → due x ≤ length g → due y ≡ 0 → due (if spent then x else y) + length (bytes_placed (if not spent then Some old else None) g) ≤ length g + 4
bytes_if true old g x y few none = omega (arith, few)
bytes_if false old g x y few none = omega (arith, none)

-- a call before its claim and after it, by whether the claim was spent
abbrev placed_core : HartState → List ℕ → ℕ → Bool → Local
placed_core h g u spent =
    if spent then record { hart = h; phase = Writing Placing; gathered = g; units = u; ending = Some Spent } else record { hart = h; phase = Returning (byte_count h); gathered = g; units = u; ending = None }

write_after : (program : Program) (h : HartState) (stage : WriteStage) (g : List ℕ) (u : ℕ) (answer : Answer) → IsSoundWrite h g stage → IsDone program (going_core h (Writing stage) g u) (write_task program h stage) answer
write_after program h (Gathering index) g u answer sound =
    let few = length_gather_le (buffer_start h) (byte_count h) index (taken_of answer).old in
    let most : length (g ++ gather (buffer_start h) (byte_count h) index (taken_of answer).old) ≤ length g + 4 = omega (arith, length-append g (gather (buffer_start h) (byte_count h) index (taken_of answer).old), few) in
    access_elsewhere program (going_core h (Writing (Gathering index)) g u) (buffer_word program.layout (buffer_start h) index) _ _ answer (buffer_no_output program.layout (buffer_start h) index)
    (choice (IsAfter (going_core h (Writing (Gathering index)) g u)) (taken_of answer).spent _ _
    (λ _. writing_after h (Gathering index) g g u (Writing (Gathering index)) (Some Spent) (omega arith) sound)
    (λ _. writing_after h (Gathering index) g _ u _ None most (gathered_next h g index (taken_of answer).old sound.0 sound.1.0 sound.1.1.1)))
write_after program h Judging g u answer sound =
    elsewhere program _ _ answer refl (λ e. cc) (λ op e. cc)
    (choice (IsAfter (going_core h (Writing Judging) g u)) (stop_of answer) _ _
    (λ _. writing_after h Judging g g u (Writing Judging) (Some Trapped) (omega arith) sound)
    (λ _. writing_after h Judging g g u (Writing Placing) None (omega arith) sound))
write_after program h Placing g u answer sound =
    let t = taken_of answer in
    record {
      after = choice (IsAfter (going_core h (Writing Placing) g u)) t.spent _ _
          (λ _. writing_after h Placing g g u (Writing Placing) (Some Spent) (omega arith) sound)
          (λ _. writing_after h Placing g g u (Returning (byte_count h)) None (omega arith) tt);
      going = λ e. cc;
      output = λ op e. let same : op ≡ Place (byte_count h) = cc in same ∙ ap (λ (n : ℕ). Place n) (sym sound);
      short = λ op e. rw sound (omega arith);
      placed = bytes_if t.spent t.old g _ _ (omega arith) refl;
      whole = place_if t.spent t.old (λ spent. length g ≡ length g) refl;
      claimed = place_if t.spent t.old (λ spent. due (placed_core h g u spent) ≡ 0) refl;
      kept = place_if t.spent t.old (λ spent. (placed_core h g u spent).gathered ≡ g) refl;
    }

-- ---- all phases

pub phase_done : (program : Program) (h : HartState) (phase : Phase) (g : List ℕ) (u : ℕ) (answer : Answer) → IsSoundPhase h g phase → IsDone program (going_core h phase g u) (phase_task program h phase) answer
phase_done program h Running g u answer sound = insn_after program h g u (fetched_task program.layout h (fetched program.layout h.pc)) answer (fetched_of_insn program.layout h)
phase_done program h (Reading stage) g u answer sound = read_after program h stage g u answer sound
phase_done program h (Writing stage) g u answer sound = write_after program h stage g u answer sound
phase_done program h Breaking g u answer sound =
    access_elsewhere program (going_core h Breaking g u) 2 _ Claim answer (λ e. omega arith)
    (choice (IsAfter (going_core h Breaking g u)) (taken_of answer).spent _ _
    (λ _. reading_after h Breaking g u Breaking (Some Spent) tt refl)
    (λ _. reading_after h Breaking g u (Returning _) None tt refl))
phase_done program h (Returning result) g u answer sound =
    elsewhere program _ _ answer refl (λ e. cc) (λ op e. cc) (record { sound = record { phase = tt }; units = refl; few = omega arith })
