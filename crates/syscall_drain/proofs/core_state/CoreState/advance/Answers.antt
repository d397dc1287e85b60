use Rattle.std.proofs.Common.{◌<◌}
use Rattle.syscall_drain.specs.Seen.{local_seen}
use Rattle.syscall_drain.specs.Sound.{IsSound}
use Rattle.syscall_drain.proofs.Units.{fits_running}
use Rattle.syscall_drain.proofs.Standing.{IsKept, kept}
use Rattle.syscall_drain.proofs.core_state.CoreState.advance.Goals as goal

pub invariant_of-self : goal.invariant_of-self
invariant_of-self c =
    let old = c.args.self.now in
    let asked = rw c.requires.unit.is at c.requires.asked in
    let below : old.local.units < old.budget = old.going (fits_running c.args.guest.now (local_seen old.local) c.args.given asked) in
    let was : IsSound (local_seen old.local) = record { phase = old.sound } in
    let is_kept : IsKept old.budget (local_seen c.unit.new.self) = kept c.args.guest.now old.budget (local_seen old.local) (local_seen c.unit.new.self) c.args.given c.unit.ensures below was in
    record { most = old.most; spent = is_kept.spent; going = is_kept.going; sound = is_kept.sound.phase }
