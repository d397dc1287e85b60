-- What a trap holds its core from: claims on the devices, stores of a read call, and an end by an exit call (this project's own).
use Rattle.std.specs.Prelude.{◌≡◌, ℕ, ◌<◌, ◌≤◌, Option, Some, None, IsSome, IfSome, List, ◌∷◌, ◌++◌, All, drop, length, nat_lt, if◌then◌else◌}
use Rattle.elf_image.specs.declared.device.TheConstants.{BREAK_WORD}
use Rattle.record_lane.specs.declared.reply.Trap.{Trap}
use Rattle.syscall_drain.specs.declared.end.End.{End}
use Rattle.syscall_drain.specs.declared.end.End.TheVariants.{Exit}
use Rattle.syscall_drain.specs.declared.phase.Phase.{Phase}
use Rattle.syscall_drain.specs.declared.phase.Phase.TheVariants.{Running, Reading}
use Rattle.syscall_drain.specs.declared.read_call.ReadStage.TheVariants.{Storing}
use Rattle.order_core.specs.declared.entry.Entry.{Entry}
use Rattle.machine.specs.Setups.{Setup}
use Rattle.machine.specs.States.{Core}
use Rattle.machine.specs.Runs.{along, log_along, IsPlayable}

abbrev pub IsNoExit : End → Type 0
IsNoExit (Exit code) = ⊥
IsNoExit _ = Unit {0}

-- ---- at a moment

-- a core that goes on is in no call, and one that has ended did so by no exit call
abbrev pub IsHeld : Phase → Option End → Type 0
IsHeld phase None = phase ≡ Running
IsHeld phase (Some end) = IsNoExit end

abbrev pub IsCalm : Core → Type 0
IsCalm core = IsSome core.tags.trap → IsHeld core.local.phase core.local.ending

abbrev pub TrapsHold : Type 0
TrapsHold = (s : Setup) (order : List ℕ) → IsPlayable s order → (core : ℕ) → IsCalm ((along s order).cores core)

-- ---- over a run

-- a unit with no access, or with one to a word of memory: the words up to that of the break are the devices
abbrev pub TouchesNoDevice : Entry → Type 0
TouchesNoDevice entry = IfSome entry.touch (λ access. BREAK_WORD < access.word)

-- the next unit is no store of a read call
abbrev pub IsNoStore : Phase → Type 0
IsNoStore (Reading (Storing index start count)) = ⊥
IsNoStore _ = Unit {0}

-- the core found the trap in its unit with the trap's number; from this unit on it makes no access to a device and no store of a read call, and it ends by no exit call
pub record IsHeldFrom (s : Setup) (order : List ℕ) (core : ℕ) (trap : Trap) : Type 0 where
  pub within : trap.step < length (log_along s order core)
  pub found : (before after : List ℕ) → order ≡ before ++ after
      → ((along s before).cores core).tags.trap ≡ (if nat_lt trap.step ((along s before).cores core).local.units then Some trap else None)
  pub accesses : All TouchesNoDevice (drop trap.step (log_along s order core))
  pub stores : (before after : List ℕ) → order ≡ before ++ core ∷ after → trap.step ≤ ((along s before).cores core).local.units
      → IsNoStore ((along s before).cores core).local.phase
  pub ending : IfSome ((along s order).cores core).local.ending IsNoExit

abbrev pub TrapsHoldOn : Type 0
TrapsHoldOn =
    (s : Setup) (order : List ℕ) → IsPlayable s order → (core : ℕ) (trap : Trap)
    → ((along s order).cores core).tags.trap ≡ Some trap → IsHeldFrom s order core trap
