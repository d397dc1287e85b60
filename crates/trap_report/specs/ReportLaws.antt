-- What holds of all reports (this project's own).
use Rattle.std.specs.Prelude.{◌≡◌, ◌≢◌, ℕ, ◌^◌, ◌<◌, ◌≤◌, List, All, Ok, Err}
use Rattle.trap_report.specs.declared.limits.TheConstants.{REPORTED_CORES, MOST_LIMIT}
use Rattle.machine.specs.Setups.{Setup, core_count, IsSetup}
use Rattle.machine.specs.Runs.{IsPlayable}
use Rattle.trap_report.specs.Text.{text, numbers_of}
use Rattle.trap_report.specs.Reading.{BadLine, saved_of}
use Rattle.trap_report.specs.declared.saved.ReportKind.TheVariants.{Order}

-- a report tells its order: two orders that a setup can play have the same text only where they are the same
abbrev pub OneOrder : Type 0
OneOrder =
    (s : Setup) (order other : List ℕ) → core_count s ≤ 2 ^ 8 → IsPlayable s order → IsPlayable s other → text s order ≡ text s other → order ≡ other

-- a setup that a report can tell of: its numbers are in their ranges, its image is bytes, and its cores and its limit are no more than the header of a report has
pub record IsReportable (s : Setup) : Type 0 where
  pub setup : IsSetup s
  pub image : All (λ byte. byte < 2 ^ 8) s.program.layout.bytes
  pub cores : core_count s ≤ REPORTED_CORES
  pub limit : s.limit ≤ MOST_LIMIT

-- a report reads back as the numbers of its setup and its order
abbrev pub ReadsBack : Type 0
ReadsBack =
    (s : Setup) (order : List ℕ) → IsReportable s → IsPlayable s order → saved_of (text s order) ≡ Ok (record { numbers = numbers_of s; order = order })

-- reading a report finds no order bad: whether one is complete, a replay alone tells
abbrev pub NoBadOrder : Type 0
NoBadOrder = (bytes : List ℕ) (bad : BadLine) → saved_of bytes ≡ Err bad → bad.kind ≢ Order
