-- When each refusal of what was asked for comes (this project's own).
use Rattle.std.specs.Prelude.{◌≡◌, ℕ, ◌+◌, ◌<◌, ◌⊎◌, List, length, take, slice_get, Some, Err, IfSome, IsSome}
use Rattle.outside.specs.Faults.{Rose}
use Rattle.elf_image.specs.Layout.{Layout}
use Rattle.elf_image.specs.ImageFault.{image_fault}
use Rattle.elf_image.specs.declared.fault.ImageFault.{ImageFault}
use Rattle.tag_policy.specs.Rules.{PolicySeen}
use Rattle.tag_policy.specs.Grammar.{policy_of}
use Rattle.tag_policy.specs.declared.fault.PolicyKind.{PolicyKind}
use Rattle.tag_policy.specs.declared.fault.PolicyFault.TheVariants.{Bad}
use Rattle.machine.specs.Setups.{Setup}
use Rattle.machine.specs.Runs.{along, IsPlayable, IsComplete}
use Rattle.trap_report.specs.Text.{text}
use Rattle.trap_report.specs.Reading.{Reported, saved_of}
use Rattle.trap_report.specs.Difference.{DifferFirstAt}
use Rattle.trap_report.specs.declared.saved.ReportKind.{ReportKind}
use Rattle.trap_report.specs.declared.saved.ReportKind.TheVariants.{Order}
use Rattle.run_cli.specs.Seen.{FilesSeen}
use Rattle.run_cli.specs.Asked.{ImageAsked, SetupAsked, ReplayAsked, Asked, Replay}
use Rattle.run_cli.specs.Work.{most_bytes, IsContents, IsReplayOf, AsksForImage, HasImage, HasPolicy}
use Rattle.run_cli.specs.declared.files.FileKind.{FileKind}
use Rattle.run_cli.specs.declared.files.FileKind.TheVariants.{Image as ImageFile, Policy as PolicyFile, Input as InputFile, Report as ReportFile}
use Rattle.run_cli.specs.declared.ending.Ending.{Ending}
use Rattle.run_cli.specs.declared.ending.Ending.TheVariants.{Image, Policy, Differs, Report, Long, Memory, Read}

-- no count of a file changed
abbrev pub IsCalm : FilesSeen → FilesSeen → Type 0
IsCalm old new = (name : List ℕ) → new.faults name ≡ old.faults name

-- the image has this fault
pub record HasImageFault (asked : Asked) (old new : FilesSeen) (fault : ImageFault) : Type 0 where
  pub image : ImageAsked
  pub asks : AsksForImage old asked image
  pub bytes : List ℕ
  pub contents : IsContents old ImageFile image.name bytes
  pub has : image_fault bytes image.cores image.stack image.heap ≡ Some fault
  pub calm : IsCalm old new

-- the image is accepted, and the policy's text has this fault
pub record HasPolicyFault (asked : Asked) (old new : FilesSeen) (kind : PolicyKind) (table key : ℕ) : Type 0 where
  pub options : SetupAsked
  pub image : Layout
  pub before : HasImage old asked options image
  pub name : List ℕ
  pub named : options.policy ≡ Some name
  pub bytes : List ℕ
  pub contents : IsContents old PolicyFile name bytes
  pub has : policy_of bytes ≡ Err (Bad kind table key)
  pub calm : IsCalm old new

-- the report is that of no run of its setup: it differs first at this place from the text of its own order, which is complete
pub record HasDifference (asked : Asked) (old new : FilesSeen) (place : ℕ) : Type 0 where
  pub options : ReplayAsked
  pub asks : asked ≡ Replay options
  pub bytes : List ℕ
  pub told : Reported
  pub setup : Setup
  pub replay_of : IsReplayOf old options bytes told setup
  pub complete : IsComplete setup told.order
  pub differs : DifferFirstAt place (text setup told.order) bytes
  pub calm : IsCalm old new

-- so many units of an order can be played, and the next one is of a core that has ended; or there is no next one, and some core has not ended
pub record EndedBefore (s : Setup) (order : List ℕ) (units : ℕ) : Type 0 where
  pub core : ℕ
  pub next : slice_get order units ≡ Some core
  pub over : IsSome ((along s (take units order)).cores core).local.ending

pub record GoesOn (s : Setup) (order : List ℕ) (units : ℕ) : Type 0 where
  pub all : units ≡ length order
  pub incomplete : IsComplete s order → ⊥

pub record StopsAt (s : Setup) (order : List ℕ) (units : ℕ) : Type 0 where
  pub playable : IsPlayable s (take units order)
  pub stops : EndedBefore s order units ⊎ GoesOn s order units

-- an order is not complete, as this line of its report tells: the first unit stands in line 8
pub record IsBadOrder (s : Setup) (order : List ℕ) (line : ℕ) (kind : ReportKind) : Type 0 where
  pub kind_is : kind ≡ Order
  pub units : ℕ
  pub stops : StopsAt s order units
  pub line_is : line ≡ units + 8

pub record HasBadOrder (options : ReplayAsked) (old : FilesSeen) (line : ℕ) (kind : ReportKind) : Type 0 where
  pub bytes : List ℕ
  pub told : Reported
  pub setup : Setup
  pub replay_of : IsReplayOf old options bytes told setup
  pub bad : IsBadOrder setup told.order line kind

-- this line of the report is the first bad one
pub record HasBadLine (options : ReplayAsked) (old : FilesSeen) (line : ℕ) (kind : ReportKind) : Type 0 where
  pub bytes : List ℕ
  pub contents : IsContents old ReportFile options.report bytes
  pub has : saved_of bytes ≡ Err (record { line = line; kind = kind })

pub record HasReportFault (asked : Asked) (old new : FilesSeen) (line : ℕ) (kind : ReportKind) : Type 0 where
  pub options : ReplayAsked
  pub asks : asked ≡ Replay options
  pub bad : HasBadLine options old line kind ⊎ HasBadOrder options old line kind
  pub calm : IsCalm old new

-- the file that is read next has this name
pub record ComesToImage (asked : Asked) (files : FilesSeen) (name : List ℕ) : Type 0 where
  pub image : ImageAsked
  pub asks : AsksForImage files asked image
  pub named : image.name ≡ name

pub record ComesToPolicy (asked : Asked) (files : FilesSeen) (name : List ℕ) : Type 0 where
  pub options : SetupAsked
  pub image : Layout
  pub before : HasImage files asked options image
  pub named : options.policy ≡ Some name

pub record ComesToInput (asked : Asked) (files : FilesSeen) (name : List ℕ) : Type 0 where
  pub options : SetupAsked
  pub image : Layout
  pub policy : PolicySeen
  pub before : HasPolicy files asked options image policy
  pub named : options.input ≡ Some name

pub record ComesToReport (asked : Asked) (name : List ℕ) : Type 0 where
  pub options : ReplayAsked
  pub asks : asked ≡ Replay options
  pub named : options.report ≡ name

abbrev pub ComesTo : Asked → FilesSeen → FileKind → List ℕ → Type 0
ComesTo asked files ImageFile name = ComesToImage asked files name
ComesTo asked files PolicyFile name = ComesToPolicy asked files name
ComesTo asked files InputFile name = ComesToInput asked files name
ComesTo asked files ReportFile name = ComesToReport asked name

-- this file is longer than such a file may be
pub record IsLong (asked : Asked) (old new : FilesSeen) (kind : FileKind) : Type 0 where
  pub name : List ℕ
  pub comes : ComesTo asked old kind name
  pub told : IfSome (old.held name) (λ bytes. most_bytes kind < length bytes)
  pub calm : IsCalm old new

-- the count of this file's name rose
pub record HasReadFault (asked : Asked) (old new : FilesSeen) (kind : FileKind) : Type 0 where
  pub name : List ℕ
  pub comes : ComesTo asked old kind name
  pub rose : Rose (old.faults name) (new.faults name)

-- the cause of each refusal of what was asked for
abbrev pub Caused : Asked → FilesSeen → FilesSeen → Ending → Type 0
Caused asked old new (Image fault) = HasImageFault asked old new fault
Caused asked old new (Policy kind table key) = HasPolicyFault asked old new kind table key
Caused asked old new (Differs place) = HasDifference asked old new place
Caused asked old new (Report line kind) = HasReportFault asked old new line kind
Caused asked old new (Long kind) = IsLong asked old new kind
Caused asked old new Memory = IsCalm old new
Caused asked old new (Read kind) = HasReadFault asked old new kind
Caused asked old new _ = ⊥
