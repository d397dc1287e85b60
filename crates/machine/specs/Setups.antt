-- What a run is a run of: a program with its input and its count of cores, a policy, the budget of units of each core, and the limit of accesses of each word (this project's own).
use Rattle.std.specs.Prelude.{ℕ, ◌+◌, ◌*◌, ◌≤◌, length}
use Rattle.elf_image.specs.ImageFault.{IsAccepted}
use Rattle.tag_policy.specs.Rules.{PolicySeen}
use Rattle.rv_execute.specs.declared.op.TheConstants.{MOST_NUMBERS}
use Rattle.syscall_drain.specs.declared.limits.TheConstants.{MOST_BUDGET, MOST_INPUT}
use Rattle.syscall_drain.specs.Programs.{Program}
use Rattle.machine.specs.declared.limits.TheConstants.{MOST_UNITS}

pub record Setup : Type 0 where
  pub program : Program
  pub policy : PolicySeen
  pub budget : ℕ
  pub limit : ℕ

abbrev pub core_count : Setup → ℕ
core_count s = s.program.layout.cores

-- the numbers of a setup are in their ranges
pub record IsSetup (s : Setup) : Type 0 where
  pub image : IsAccepted s.program.layout
  pub input : length s.program.input ≤ MOST_INPUT
  pub policies : length s.policy.rules ≤ 4
  pub some_budget : 1 ≤ s.budget
  pub most_budget : s.budget ≤ MOST_BUDGET
  pub most_units : core_count s * s.budget ≤ MOST_UNITS
  pub some_limit : 1 ≤ s.limit
  pub most_limit : s.limit + core_count s ≤ MOST_NUMBERS
