use Rattle.syscall_drain.specs.Sound.{IsSound}
use Rattle.syscall_drain.specs.Units.{placed}
use Rattle.syscall_drain.specs.Seen.{local_of, budget_of}
use Rattle.syscall_drain.proofs.Standing.{has_spent, places}
use Rattle.syscall_drain.proofs.core_state.CoreState.spend.Goals as goal

pub returns-clause-spent : goal.returns-clause-spent
returns-clause-spent c =
    let asked = rw c.requires.unit.is at c.requires.asked in
    has_spent c.args.guest.now c.args.self.now c.advance.new.self c.args.given c.advance.ensures.budget c.advance.ensures.core c.advance.ensures.step asked

pub returns-clause-placed : goal.returns-clause-placed
unfolding placed
returns-clause-placed c = rw c.requires.unit.is at c.place_claimed.ensures

pub returns-clause-output : goal.returns-clause-output
unfolding placed
returns-clause-output c =
    let asked = rw c.requires.unit.is at c.requires.asked in
    let was : IsSound (local_of c.args.self.now) = record { phase = c.args.self.now.sound } in
    places c.args.guest.now (budget_of c.args.self.now) (local_of c.args.self.now) (local_of c.advance.new.self) c.args.given c.place_claimed.result c.advance.ensures.step (rw c.requires.unit.is at c.place_claimed.ensures) asked was
