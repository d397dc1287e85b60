-- What a command reads before its first unit, in order: the report, the image, the policy, the input (this project's own).
use Rattle.std.specs.Prelude.{◌≡◌, ℕ, ◌≤◌, ◌⊎◌, List, [], length, Option, None, Some, Ok}
use Rattle.outside.specs.Files.{IsTold}
use Rattle.elf_image.specs.Layout.{Layout, layout_of}
use Rattle.elf_image.specs.ImageFault.{IsAccepted}
use Rattle.tag_policy.specs.Rules.{PolicySeen}
use Rattle.tag_policy.specs.Policies.{standard_policy}
use Rattle.tag_policy.specs.Grammar.{policy_of}
use Rattle.machine.specs.Setups.{Setup}
use Rattle.trap_report.specs.Text.{Numbers}
use Rattle.trap_report.specs.Reading.{Reported, saved_of}
use Rattle.syscall_drain.specs.declared.limits.TheConstants.{MOST_INPUT}
use Rattle.run_cli.specs.declared.limits.TheConstants.{MOST_IMAGE, MOST_POLICY, MOST_REPORT}
use Rattle.run_cli.specs.Seen.{FilesSeen}
use Rattle.run_cli.specs.Asked.{ImageAsked, SetupAsked, ReplayAsked, Asked, Run, Replay, Inspect}
use Rattle.run_cli.specs.declared.files.FileKind.{FileKind}
use Rattle.run_cli.specs.declared.files.FileKind.TheVariants.{Image, Policy, Input, Report}

-- the most bytes of a file
abbrev pub most_bytes : FileKind → ℕ
most_bytes Image = MOST_IMAGE
most_bytes Policy = MOST_POLICY
most_bytes Input = MOST_INPUT
most_bytes Report = MOST_REPORT

-- the file with this name has these bytes, where its contents are told, and no more than such a file may have
pub record IsContents (files : FilesSeen) (kind : FileKind) (name bytes : List ℕ) : Type 0 where
  pub told : IsTold (files.held name) bytes
  pub within : length bytes ≤ most_bytes kind

-- ---- the files of a setup

abbrev pub layout_with : ImageAsked → List ℕ → Layout
layout_with asked bytes = layout_of bytes asked.cores asked.stack asked.heap

-- the image that is asked for is this one, and it is accepted
pub record IsImage (files : FilesSeen) (asked : ImageAsked) (image : Layout) : Type 0 where
  pub contents : IsContents files Image asked.name image.bytes
  pub numbers : image ≡ layout_with asked image.bytes
  pub accepted : IsAccepted image

-- the policy of a file is this one
pub record SaysPolicy (files : FilesSeen) (name : List ℕ) (policy : PolicySeen) : Type 0 where
  pub text : List ℕ
  pub contents : IsContents files Policy name text
  pub means : policy_of text ≡ Ok policy

-- without a file it is the standard policy
abbrev pub IsPolicy : FilesSeen → Option (List ℕ) → PolicySeen → Type 0
IsPolicy files None policy = policy ≡ standard_policy
IsPolicy files (Some name) policy = SaysPolicy files name policy

-- without a file the input has no bytes
abbrev pub IsInput : FilesSeen → Option (List ℕ) → List ℕ → Type 0
IsInput files None input = input ≡ []
IsInput files (Some name) input = IsContents files Input name input

abbrev pub setup_of : SetupAsked → Layout → PolicySeen → List ℕ → Setup
setup_of o image policy input = record { program = record { layout = image; input = input }; policy = policy; budget = o.budget; limit = o.limit }

-- the files are those of this setup
pub record IsSetupOf (files : FilesSeen) (o : SetupAsked) (s : Setup) : Type 0 where
  pub image_is : IsImage files o.image s.program.layout
  pub policy_is : IsPolicy files o.policy s.policy
  pub input_is : IsInput files o.input s.program.input
  pub setup_is : s ≡ setup_of o s.program.layout s.policy s.program.input

-- ---- what is asked for, once the report is read

-- the report of a file has these bytes, and they say this
pub record SaysReport (files : FilesSeen) (name bytes : List ℕ) (told : Reported) : Type 0 where
  pub contents : IsContents files Report name bytes
  pub says : saved_of bytes ≡ Ok told

abbrev pub image_told : ReplayAsked → Numbers → ImageAsked
image_told o numbers = record { name = o.image; cores = numbers.cores; stack = numbers.stack; heap = numbers.heap }

abbrev pub setup_told : ReplayAsked → Numbers → SetupAsked
setup_told o numbers = record { image = image_told o numbers; input = o.input; policy = o.policy; budget = numbers.budget; limit = numbers.limit }

-- a replay asks for the setup of its report's numbers
pub record AskedByReport (files : FilesSeen) (o : ReplayAsked) (setup : SetupAsked) : Type 0 where
  pub bytes : List ℕ
  pub told : Reported
  pub report : SaysReport files o.report bytes told
  pub setup_is : setup ≡ setup_told o told.numbers

abbrev pub AsksForSetup : FilesSeen → Asked → SetupAsked → Type 0
AsksForSetup files (Run o) setup = setup ≡ o.setup
AsksForSetup files (Replay o) setup = AskedByReport files o setup
AsksForSetup files (Inspect asked) setup = ⊥

pub record AsksWithSetup (files : FilesSeen) (asked : Asked) (image : ImageAsked) : Type 0 where
  pub setup : SetupAsked
  pub asks : AsksForSetup files asked setup
  pub image_is : setup.image ≡ image

abbrev pub AsksForImage : FilesSeen → Asked → ImageAsked → Type 0
AsksForImage files asked image = AsksWithSetup files asked image ⊎ (asked ≡ Inspect image)

-- a setup is asked for, and its image is read
pub record HasImage (files : FilesSeen) (asked : Asked) (o : SetupAsked) (image : Layout) : Type 0 where
  pub asks : AsksForSetup files asked o
  pub image_is : IsImage files o.image image

-- so is its policy
pub record HasPolicy (files : FilesSeen) (asked : Asked) (o : SetupAsked) (image : Layout) (policy : PolicySeen) : Type 0 where
  pub before : HasImage files asked o image
  pub policy_is : IsPolicy files o.policy policy

-- ---- the run of a report

-- the report says this, and the files are those of this setup of its numbers
pub record IsReplayOf (files : FilesSeen) (o : ReplayAsked) (bytes : List ℕ) (told : Reported) (s : Setup) : Type 0 where
  pub report : SaysReport files o.report bytes told
  pub setup_is : IsSetupOf files (setup_told o told.numbers) s
