-- Local runs: one core as a list of answers, each to what its next unit asks (this project's own).
use Rattle.std.specs.Prelude.{ℕ, List, [], ◌∷◌}
use Rattle.syscall_drain.specs.Programs.{Program}
use Rattle.syscall_drain.specs.Locals.{Local}
use Rattle.syscall_drain.specs.Units.{FitsAsk, next_ask, answered}
use Rattle.syscall_drain.specs.declared.ask.Answer.{Answer}

-- the core after a list of answers
unfoldable pub local_after : Program → ℕ → Local → List Answer → Local
local_after program budget l [] = l
local_after program budget l (answer ∷ rest) = local_after program budget (answered program budget l answer) rest

-- the answers are a local run from this core on: each is of the kind that its unit asked for
unfoldable pub IsLocalRun : Program → ℕ → Local → List Answer → Type 0
IsLocalRun program budget l [] = Unit {0}
IsLocalRun program budget l (answer ∷ rest) =
    FitsAsk (next_ask program l) answer × IsLocalRun program budget (answered program budget l answer) rest
