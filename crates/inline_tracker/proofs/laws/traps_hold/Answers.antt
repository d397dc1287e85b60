use Rattle.machine.proofs.TrapRuns.{traps_hold, traps_hold_on}
use Rattle.inline_tracker.proofs.laws.traps_hold.Goals as goal

pub returns-clause-at_each_moment : goal.returns-clause-at_each_moment
returns-clause-at_each_moment c = traps_hold

pub returns-clause-from_its_trap_on : goal.returns-clause-from_its_trap_on
returns-clause-from_its_trap_on c = traps_hold_on
