-- What a reading of a report answers (this project's own).
use Rattle.std.specs.Prelude.{◌≡◌, ◌<◌, ◌≤◌, All, Result, Ok, Err}
use Rattle.elf_image.specs.declared.limits.TheConstants.{MOST_STACK, MOST_HEAP}
use Rattle.syscall_drain.specs.declared.limits.TheConstants.{MOST_BUDGET}
use Rattle.trap_report.specs.declared.limits.TheConstants.{REPORTED_CORES, MOST_LIMIT}
use Rattle.trap_report.specs.Text.{Numbers}
use Rattle.trap_report.specs.Reading.{Reported, BadLine}
use Rattle.trap_report.specs.declared.saved.Saved.{Saved}
use Rattle.trap_report.specs.declared.saved.ReportFault.{ReportFault}
use Rattle.trap_report.specs.declared.saved.ReportFault.TheVariants.{Bad, NoMemory}

abbrev pub reported_by : Saved → Reported
reported_by saved = record {
  numbers = record { cores = saved.cores; budget = saved.budget; limit = saved.limit; stack = saved.stack; heap = saved.heap };
  order = saved.order.items;
}

-- what the bytes say, or their first bad line, or want of memory, which says nothing of them
abbrev pub IsReading : Result Reported BadLine → Result Saved ReportFault → Type 0
IsReading said (Ok saved) = said ≡ Ok (reported_by saved)
IsReading said (Err (Bad line kind)) = said ≡ Err (record { line = line; kind = kind })
IsReading said (Err NoMemory) = Unit {0}

-- the ranges of the numbers of a header
pub record HasRanges (numbers : Numbers) : Type 0 where
  pub cores : (1 ≤ numbers.cores) × (numbers.cores ≤ REPORTED_CORES)
  pub budget : (1 ≤ numbers.budget) × (numbers.budget ≤ MOST_BUDGET)
  pub limit : (1 ≤ numbers.limit) × (numbers.limit ≤ MOST_LIMIT)
  pub stack : (1 ≤ numbers.stack) × (numbers.stack ≤ MOST_STACK)
  pub heap : numbers.heap ≤ MOST_HEAP

-- those of all that is saved
pub record AreInRange (saved : Saved) : Type 0 where
  pub numbers : HasRanges (reported_by saved).numbers
  pub order : All (λ core. core < saved.cores) saved.order.items
