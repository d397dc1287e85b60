-- When a command is not refused but for want of memory (this project's own).
use Rattle.std.specs.Prelude.{◌≡◌, ℕ, ◌≤◌, ◌⊎◌, List, length, Option, None, Some, IsSome}
use Rattle.outside.specs.Faults.{Rose}
use Rattle.elf_image.specs.Layout.{Layout}
use Rattle.machine.specs.Setups.{Setup}
use Rattle.machine.specs.Runs.{IsComplete}
use Rattle.trap_report.specs.Text.{text, numbers_of}
use Rattle.trap_report.specs.ReportLaws.{IsReportable}
use Rattle.run_cli.specs.Seen.{FilesSeen, Seen}
use Rattle.run_cli.specs.Asked.{ImageAsked, SetupAsked, RunAsked, ReplayAsked, Run, Replay, Inspect}
use Rattle.run_cli.specs.Words.{Reads}
use Rattle.run_cli.specs.Work.{most_bytes, IsImage, IsSetupOf, setup_told}
use Rattle.run_cli.specs.declared.files.FileKind.TheVariants.{Report}

abbrev pub IsToldOf : FilesSeen → Option (List ℕ) → Type 0
IsToldOf files None = Unit {0}
IsToldOf files (Some name) = IsSome (files.held name)

-- the files are those of this setup, and their contents are told
pub record AreToldOf (files : FilesSeen) (o : SetupAsked) (s : Setup) : Type 0 where
  pub setup_is : IsSetupOf files o s
  pub image : IsSome (files.held o.image.name)
  pub policy : IsToldOf files o.policy
  pub input : IsToldOf files o.input

-- the words and the files are those of a run of this setup
pub record CanRun (words : List (List ℕ)) (files : FilesSeen) (s : Setup) : Type 0 where
  pub asked : RunAsked
  pub reads : Reads words (Run asked)
  pub told : AreToldOf files asked.setup s

-- they are those of a replay, and its report is that of a setup of these files along an order that is complete
pub record CanReplay (words : List (List ℕ)) (files : FilesSeen) : Type 0 where
  pub asked : ReplayAsked
  pub reads : Reads words (Replay asked)
  pub setup : Setup
  pub reportable : IsReportable setup
  pub told : AreToldOf files (setup_told asked (numbers_of setup)) setup
  pub order : List ℕ
  pub complete : IsComplete setup order
  pub report : files.held asked.report ≡ Some (text setup order)
  pub within : length (text setup order) ≤ most_bytes Report

-- they are those of the map of an image
pub record CanMap (words : List (List ℕ)) (files : FilesSeen) (image : Layout) : Type 0 where
  pub asked : ImageAsked
  pub reads : Reads words (Inspect asked)
  pub image_is : IsImage files asked image
  pub told : IsSome (files.held asked.name)

-- no count of faults rose
pub record NothingRose (old new : Seen) : Type 0 where
  pub files : (name : List ℕ) → Rose (old.files.faults name) (new.files.faults name) → ⊥
  pub out : Rose old.sinks.out.faults new.sinks.out.faults → ⊥
  pub report : Rose old.sinks.report.faults new.sinks.report.faults → ⊥

-- where no count rose, a run is answered by a class, a replay and a map by 0, or each by 71
abbrev pub Completes : List (List ℕ) → Seen → Seen → ℕ → Type 0
Completes words old new status = (s : Setup) → CanRun words old.files s → NothingRose old new → (status ≤ 5) ⊎ (status ≡ 71)

abbrev pub CompletesReplay : List (List ℕ) → Seen → Seen → ℕ → Type 0
CompletesReplay words old new status = CanReplay words old.files → NothingRose old new → (status ≡ 0) ⊎ (status ≡ 71)

abbrev pub CompletesMap : List (List ℕ) → Seen → Seen → ℕ → Type 0
CompletesMap words old new status = (image : Layout) → CanMap words old.files image → NothingRose old new → (status ≡ 0) ⊎ (status ≡ 71)
