-- Proof form: what private functions give.
use Rattle.std.specs.Prelude.{◌≡◌, ℕ, ◌≤◌, ◌⊎◌, List, Err}
use Rattle.elf_image.specs.declared.fault.ImageFault.{ImageFault}
use Rattle.elf_image.specs.declared.fault.ImageFault.TheVariants.{NoMemory as NoImageMemory}
use Rattle.command_options.specs.declared.options.WordsFault.{WordsFault}
use Rattle.command_options.specs.declared.options.WordsFault.TheVariants.{Other, NoMemory as NoWordsMemory}
use Rattle.tag_policy.specs.declared.fault.PolicyFault.{PolicyFault}
use Rattle.tag_policy.specs.declared.fault.PolicyFault.TheVariants.{Bad, NoMemory as NoPolicyMemory}
use Rattle.machine.specs.Setups.{Setup}
use Rattle.trap_report.specs.declared.saved.ReportFault.{ReportFault}
use Rattle.trap_report.specs.declared.saved.ReportFault.TheVariants.{Bad as BadLine, NoMemory as NoReportMemory}
use Rattle.machine.specs.Runs.{IsComplete}
use Rattle.trap_report.specs.Text.{text}
use Rattle.trap_report.specs.Reading.{saved_of}
use Rattle.trap_report.specs.Difference.{DifferFirstAt}
use Rattle.run_cli.specs.Seen.{SinksSeen, Seen}
use Rattle.run_cli.specs.Asked.{Asked}
use Rattle.run_cli.specs.Causes.{IsCalm, IsBadOrder, Caused}
use Rattle.run_cli.specs.Endings.{Answer, Answers, Written, OutputCut, ReportCut, WroteLine}
use Rattle.run_cli.specs.declared.ending.Ending.{Ending}
use Rattle.run_cli.specs.declared.ending.Ending.TheVariants.{Class, Words, Image, Policy, Differs, Report, Memory, Write}

-- the ending of a fault of the image, of one of the policy, of one of the report, and of words
abbrev pub image_ending : ImageFault → Ending
image_ending NoImageMemory = Memory
image_ending fault = Image fault

abbrev pub policy_ending : PolicyFault → Ending
policy_ending (Bad kind table key) = Policy kind table key
policy_ending NoPolicyMemory = Memory

abbrev pub report_ending : ReportFault → Ending
report_ending (BadLine line kind) = Report line kind
report_ending NoReportMemory = Memory

abbrev pub words_ending : WordsFault → Ending
words_ending Other = Words
words_ending NoWordsMemory = Memory

-- words that say nothing, by a reason, or want of memory
abbrev pub SaysNothing : Type 0 → Ending → Type 0
SaysNothing reason Words = reason
SaysNothing reason Memory = Unit {0}
SaysNothing reason _ = ⊥

-- an answer was written, or it was cut
abbrev pub Delivered : Answer → SinksSeen → SinksSeen → Ending → Type 0
Delivered answer old new (Class class) = (class ≡ answer.class) × (class ≤ 5) × Written answer old new
Delivered answer old new Write = OutputCut answer old new ⊎ ReportCut answer old new
Delivered answer old new _ = ⊥

-- what is asked for came to this ending
pub record HasAnswer (asked : Asked) (old new : Seen) (ending : Ending) : Type 0 where
  pub answer : Answer
  pub answers : Answers old.files asked answer
  pub calm : IsCalm old.files new.files
  pub delivered : Delivered answer old.sinks new.sinks ending

pub record IsRefused (asked : Asked) (old new : Seen) (ending : Ending) : Type 0 where
  pub caused : Caused asked old.files new.files ending
  pub line : WroteLine ending old.sinks new.sinks

abbrev pub Came : Asked → Seen → Seen → Ending → Type 0
Came asked old new ending = HasAnswer asked old new ending ⊎ IsRefused asked old new ending

-- the bytes are no report, by their first bad line, or memory is wanting
abbrev pub IsNoReport : List ℕ → Ending → Type 0
IsNoReport bytes (Report line kind) = saved_of bytes ≡ Err (record { line = line; kind = kind })
IsNoReport bytes Memory = Unit {0}
IsNoReport bytes _ = ⊥

-- the bytes are not the text of a complete order
pub record DifferAt (s : Setup) (order bytes : List ℕ) (place : ℕ) : Type 0 where
  pub complete : IsComplete s order
  pub differs : DifferFirstAt place (text s order) bytes

abbrev pub Disagrees : Setup → List ℕ → List ℕ → Ending → Type 0
Disagrees s order bytes (Report line kind) = IsBadOrder s order line kind
Disagrees s order bytes (Differs place) = DifferAt s order bytes place
Disagrees s order bytes Memory = Unit {0}
Disagrees s order bytes _ = ⊥

-- they are that text
pub record Agrees (s : Setup) (order bytes : List ℕ) : Type 0 where
  pub complete : IsComplete s order
  pub same : bytes ≡ text s order
