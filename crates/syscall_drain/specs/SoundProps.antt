-- Proof form: what holds of a core at every moment has at most one proof.
use Rattle.std.specs.Prelude.{ℕ, List}
use Rattle.std.specs.Coded.{×_prop, Unit-prop, le_prop}
use Rattle.std.proofs.Math.Nat.{ℕ_set}
use Rattle.rv_execute.specs.Harts.{HartState}
use Rattle.syscall_drain.specs.Sound.{HasBuffer, IsSoundRead, IsSoundWrite, IsSoundPhase}
use Rattle.syscall_drain.specs.declared.phase.Phase.{Phase}
use Rattle.syscall_drain.specs.declared.phase.Phase.TheVariants.{Running, Reading, Writing, Breaking, Returning}
use Rattle.syscall_drain.specs.declared.read_call.ReadStage.{ReadStage}
use Rattle.syscall_drain.specs.declared.read_call.ReadStage.TheVariants.{Claiming, Storing}
use Rattle.syscall_drain.specs.declared.write_call.WriteStage.{WriteStage}
use Rattle.syscall_drain.specs.declared.write_call.WriteStage.TheVariants.{Gathering, Judging, Placing}

buffer_prop : (h : HartState) → IsProp (HasBuffer h)
buffer_prop h = ×_prop le_prop le_prop

read_prop : (h : HartState) (stage : ReadStage) → IsProp (IsSoundRead h stage)
read_prop h Claiming = buffer_prop h
read_prop h (Storing index start count) = ×_prop (buffer_prop h) (×_prop le_prop le_prop)

write_prop : (h : HartState) (gathered : List ℕ) (stage : WriteStage) → IsProp (IsSoundWrite h gathered stage)
write_prop h gathered (Gathering index) = ×_prop (buffer_prop h) (×_prop le_prop (×_prop le_prop (ℕ_set _ _)))
write_prop h gathered Judging = ℕ_set _ _
write_prop h gathered Placing = ℕ_set _ _

pub phase_prop : (h : HartState) (gathered : List ℕ) (phase : Phase) → IsProp (IsSoundPhase h gathered phase)
phase_prop h gathered Running = Unit-prop
phase_prop h gathered (Reading stage) = read_prop h stage
phase_prop h gathered (Writing stage) = write_prop h gathered stage
phase_prop h gathered Breaking = Unit-prop
phase_prop h gathered (Returning result) = Unit-prop
