-- The phase that a call enters goes with its arguments, and nothing is gathered yet.
use Rattle.std.proofs.Common.{◌≡◌, ℕ, ◌+◌, List, Bool, true, false, ◌||◌, not, ◌==◌, if◌then◌else◌, nat_lt, refl, arith, length}
use Rattle.std.proofs.lemmas.Bool.Decides.{nat_tests}
use Rattle.std.proofs.lemmas.Bool.{or_parts}
use Rattle.elf_image.specs.Layout.{is_writable}
use Rattle.rv_execute.specs.Harts.{HartState}
use Rattle.record_lane.specs.declared.call.TheConstants.{READ, WRITE, EXIT, EXIT_GROUP, BREAK}
use Rattle.syscall_drain.specs.Programs.{Program}
use Rattle.syscall_drain.specs.Locals.{Local}
use Rattle.syscall_drain.specs.Arguments.{first_argument, buffer_start, byte_count, call_number, fails_at, is_mapped_at}
use Rattle.syscall_drain.specs.ReadCall.{read_phase}
use Rattle.syscall_drain.specs.WriteCall.{write_phase}
use Rattle.syscall_drain.specs.Calls.{decision, decided, gathered_at}
use Rattle.syscall_drain.specs.Sound.{HasBuffer, IsSoundPhase, IsSound, due, due_in}
use Rattle.syscall_drain.specs.declared.phase.Phase.{Phase}
use Rattle.syscall_drain.specs.declared.phase.Phase.TheVariants.{Reading, Writing, Breaking, Returning}
use Rattle.syscall_drain.specs.declared.read_call.ReadStage.TheVariants.{Claiming}
use Rattle.syscall_drain.specs.declared.write_call.WriteStage.TheVariants.{Gathering}
use Rattle.syscall_drain.specs.declared.decision.Decision.{Decision}
use Rattle.syscall_drain.specs.declared.decision.Decision.TheVariants.{Leave, Enter}
use Rattle.syscall_drain.specs.declared.decision.TheConstants.{BAD_DESCRIPTOR, BAD_ADDRESS, NO_CALL}

pub choice : {A : Type 0} (P : A → Type 0) (b : Bool) (x y : A) → (b ≡ true → P x) → (b ≡ false → P y) → P (if b then x else y)
choice P true x y first second = first refl
choice P false x y first second = second refl

-- a phase that a call may enter
record IsEntered (h : HartState) (gathered : List ℕ) (phase : Phase) : Type 0 where
  sound : IsSoundPhase h (gathered_at phase gathered) phase
  empty : due_in phase (length (gathered_at phase gathered)) ≡ 0

returns_at_once : (h : HartState) (g : List ℕ) (result : ℕ) → IsEntered h g (Returning result)
returns_at_once h g result = record { sound = tt; empty = refl }

has_buffer : (h : HartState) (good : ℕ → Bool) → (byte_count h == 0) ≡ false → fails_at good (buffer_start h) (byte_count h) ≡ false → HasBuffer h
has_buffer h good some passes =
    let low = or_parts (nat_lt 4294967296 (buffer_start h + byte_count h)) _ passes in
    (grind (arith, nat_tests), grind (arith, nat_tests))

enters_read : (program : Program) (h : HartState) (g : List ℕ) → IsEntered h g (read_phase program h)
enters_read program h g =
    choice (IsEntered h g) (not (first_argument h == 0)) (Returning BAD_DESCRIPTOR) _ (λ _. returns_at_once h g _)
    (λ _. choice (IsEntered h g) (byte_count h == 0) (Returning 0) _ (λ _. returns_at_once h g _)
    (λ some. choice (IsEntered h g) (fails_at (is_writable program.layout) (buffer_start h) (byte_count h)) (Returning BAD_ADDRESS) (Reading Claiming) (λ _. returns_at_once h g _)
    (λ passes. record { sound = has_buffer h (is_writable program.layout) some passes; empty = refl })))

opens_gathering : (h : HartState) (g : List ℕ) → HasBuffer h → IsEntered h g (Writing (Gathering 0))
opens_gathering h g buffer = record { sound = (buffer, (omega arith, (buffer.0, omega arith))); empty = refl }

enters_write : (program : Program) (h : HartState) (g : List ℕ) → IsEntered h g (write_phase program h)
enters_write program h g =
    choice (IsEntered h g) (not ((first_argument h == 1) || (first_argument h == 2))) (Returning BAD_DESCRIPTOR) _ (λ _. returns_at_once h g _)
    (λ _. choice (IsEntered h g) (byte_count h == 0) (Returning 0) _ (λ _. returns_at_once h g _)
    (λ some. choice (IsEntered h g) (fails_at (is_mapped_at program.layout) (buffer_start h) (byte_count h)) (Returning BAD_ADDRESS) (Writing (Gathering 0)) (λ _. returns_at_once h g _)
    (λ passes. opens_gathering h g (has_buffer h (is_mapped_at program.layout) some passes))))

-- a core after a decision at which it was in no call
pub record IsDecided (units : ℕ) (l : Local) : Type 0 where
  pub sound : IsSound l
  pub empty : due l ≡ 0
  pub same : l.units ≡ units

by_decision : (l : Local) → IsSoundPhase l.hart l.gathered l.phase → due l ≡ 0 → (d : Decision) → ((phase : Phase) → d ≡ Enter phase → IsEntered l.hart l.gathered phase) → IsDecided l.units (decided d l)
by_decision l sound none (Leave status) enters = record { sound = record { phase = sound }; empty = none; same = refl }
by_decision l sound none (Enter phase) enters =
    let entered = enters phase refl in
    record { sound = record { phase = entered.sound }; empty = entered.empty; same = refl }

-- what a decision enters
abbrev EntersBy : HartState → List ℕ → Decision → Type 0
EntersBy h g (Leave status) = Unit {0}
EntersBy h g (Enter phase) = IsEntered h g phase

decision_enters : (program : Program) (h : HartState) (g : List ℕ) → EntersBy h g (decision program h)
decision_enters program h g =
    choice (EntersBy h g) (call_number h == READ) (Enter (read_phase program h)) _ (λ _. enters_read program h g)
    (λ _. choice (EntersBy h g) (call_number h == WRITE) (Enter (write_phase program h)) _ (λ _. enters_write program h g)
    (λ _. choice (EntersBy h g) (call_number h == BREAK) (Enter Breaking) _ (λ _. record { sound = tt; empty = refl })
    (λ _. choice (EntersBy h g) ((call_number h == EXIT) || (call_number h == EXIT_GROUP)) _ (Enter (Returning NO_CALL)) (λ _. tt) (λ _. returns_at_once h g NO_CALL))))

entered_by : (h : HartState) (g : List ℕ) (d : Decision) → EntersBy h g d → (phase : Phase) → d ≡ Enter phase → IsEntered h g phase
entered_by h g (Leave status) enters phase is = absurd (cc)
entered_by h g (Enter entered) enters phase is = let same : entered ≡ phase = cc in rw (← same) enters

pub is_decided : (program : Program) (l : Local) → IsSoundPhase l.hart l.gathered l.phase → due l ≡ 0 → IsDecided l.units (decided (decision program l.hart) l)
is_decided program l sound none = by_decision l sound none (decision program l.hart) (entered_by l.hart l.gathered (decision program l.hart) (decision_enters program l.hart l.gathered))
