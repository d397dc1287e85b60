-- What each ending of a command means: its cause, and what was written (this project's own).
use Rattle.std.specs.Prelude.{◌≡◌, ℕ, ◌≤◌, ◌⊎◌, List, codes, Option, None, Some}
use Rattle.outside.specs.Sinks.{SinkSeen, Untouched, Wrote, Cut, Told}
use Rattle.elf_image.specs.Layout.{Layout}
use Rattle.record_lane.specs.declared.reply.Trap.{Trap}
use Rattle.order_core.specs.CanonicalMerge.{canonical}
use Rattle.machine.specs.Setups.{Setup}
use Rattle.machine.specs.Runs.{along, logs_along, IsComplete}
use Rattle.machine.specs.Outcomes.{output, status_class}
use Rattle.machine.specs.TrapLaws.{IsHeldFrom}
use Rattle.trap_report.specs.Text.{text}
use Rattle.trap_report.specs.Reading.{Reported}
use Rattle.run_cli.specs.Seen.{FilesSeen, SinksSeen, Seen}
use Rattle.run_cli.specs.Asked.{ImageAsked, RunAsked, ReplayAsked, Asked, Run, Replay, Inspect}
use Rattle.run_cli.specs.Work.{IsImage, IsSetupOf, IsReplayOf}
use Rattle.run_cli.specs.MapText.{map_text}
use Rattle.run_cli.specs.Lines.{line_of}
use Rattle.run_cli.specs.Causes.{IsCalm, Caused}
use Rattle.run_cli.specs.declared.ending.Ending.{Ending}
use Rattle.run_cli.specs.declared.ending.Ending.TheVariants.{Class, Words, Memory, Write}

-- ---- what a command answers that is not refused

-- its status, its output, and its report, if it writes one
pub record Answer : Type 0 where
  pub class : ℕ
  pub out : List ℕ
  pub report : Option (List ℕ)

-- a run: the guest's output along an order of its cores' units, and the report of this order
abbrev pub run_answer : Setup → List ℕ → Answer
run_answer s order = record { class = status_class s (along s order); out = output (along s order); report = Some (text s order) }

-- a replay and a map write one text alone
abbrev pub text_answer : List ℕ → Answer
text_answer text = record { class = 0; out = text; report = None }

-- this order of the cores' units is complete, it is the canonical merge of their logs, and a core is held from its trap on
pub record IsOrderOf (s : Setup) (order : List ℕ) : Type 0 where
  pub complete : IsComplete s order
  pub merged : order ≡ canonical (logs_along s order)
  pub held : (core : ℕ) (trap : Trap) → ((along s order).cores core).tags.trap ≡ Some trap → IsHeldFrom s order core trap

pub record AnswersRun (files : FilesSeen) (o : RunAsked) (answer : Answer) : Type 0 where
  pub setup : Setup
  pub setup_is : IsSetupOf files o.setup setup
  pub order : List ℕ
  pub order_of : IsOrderOf setup order
  pub answer_is : answer ≡ run_answer setup order

pub record AnswersReplay (files : FilesSeen) (o : ReplayAsked) (answer : Answer) : Type 0 where
  pub bytes : List ℕ
  pub told : Reported
  pub setup : Setup
  pub replay_of : IsReplayOf files o bytes told setup
  pub complete : IsComplete setup told.order
  pub same : bytes ≡ text setup told.order
  pub answer_is : answer ≡ text_answer (codes "same\n")

pub record AnswersMap (files : FilesSeen) (asked : ImageAsked) (answer : Answer) : Type 0 where
  pub image : Layout
  pub image_is : IsImage files asked image
  pub answer_is : answer ≡ text_answer (map_text image)

abbrev pub Answers : FilesSeen → Asked → Answer → Type 0
Answers files (Run o) answer = AnswersRun files o answer
Answers files (Replay o) answer = AnswersReplay files o answer
Answers files (Inspect asked) answer = AnswersMap files asked answer

-- ---- the endings

-- what is read of the words is answered so, and the files are as they were
pub record Answered (reads : List (List ℕ) → Asked → Type 0) (words : List (List ℕ)) (old new : FilesSeen) (answer : Answer) : Type 0 where
  pub asked : Asked
  pub read : reads words asked
  pub answers : Answers old asked answer
  pub calm : IsCalm old new

abbrev pub WroteReport : Option (List ℕ) → SinkSeen → SinkSeen → Type 0
WroteReport None old new = Untouched old new
WroteReport (Some report) old new = Wrote report old new

abbrev pub CutReport : Option (List ℕ) → SinkSeen → SinkSeen → Type 0
CutReport None old new = ⊥
CutReport (Some report) old new = Cut report old new

-- the output is written first, and then the report: both whole, or the output is cut, or the report
pub record Written (answer : Answer) (old new : SinksSeen) : Type 0 where
  pub out : Wrote answer.out old.out new.out
  pub report : WroteReport answer.report old.report new.report

pub record OutputCut (answer : Answer) (old new : SinksSeen) : Type 0 where
  pub out : Cut answer.out old.out new.out
  pub report : Untouched old.report new.report

pub record ReportCut (answer : Answer) (old new : SinksSeen) : Type 0 where
  pub out : Wrote answer.out old.out new.out
  pub report : CutReport answer.report old.report new.report

-- a refusal writes its one line to the report, or a prefix of it, and nothing to the output
pub record WroteLine (ending : Ending) (old new : SinksSeen) : Type 0 where
  pub out : Untouched old.out new.out
  pub report : Told (line_of ending) old.report new.report

pub record Completed (reads : List (List ℕ) → Asked → Type 0) (words : List (List ℕ)) (old new : Seen) (class : ℕ) : Type 0 where
  pub answer : Answer
  pub answered : Answered reads words old.files new.files answer
  pub class_is : class ≡ answer.class
  pub within : class ≤ 5
  pub written : Written answer old.sinks new.sinks

pub record NotWritten (reads : List (List ℕ) → Asked → Type 0) (words : List (List ℕ)) (old new : Seen) : Type 0 where
  pub answer : Answer
  pub answered : Answered reads words old.files new.files answer
  pub cut : OutputCut answer old.sinks new.sinks ⊎ ReportCut answer old.sinks new.sinks

pub record HasNoWords (reads : List (List ℕ) → Asked → Type 0) (words : List (List ℕ)) (old new : Seen) : Type 0 where
  pub nothing : (asked : Asked) → reads words asked → ⊥
  pub calm : IsCalm old.files new.files
  pub line : WroteLine Words old.sinks new.sinks

pub record HasNoMemory (old new : Seen) : Type 0 where
  pub calm : IsCalm old.files new.files
  pub line : WroteLine Memory old.sinks new.sinks

pub record Refused (reads : List (List ℕ) → Asked → Type 0) (words : List (List ℕ)) (old new : Seen) (ending : Ending) : Type 0 where
  pub asked : Asked
  pub read : reads words asked
  pub caused : Caused asked old.files new.files ending
  pub line : WroteLine ending old.sinks new.sinks

-- what each ending means, where words are read so: the class of an answer that was written, one that was cut, words that ask for
-- nothing, want of memory, and each other refusal
abbrev pub Ended : (List (List ℕ) → Asked → Type 0) → List (List ℕ) → Seen → Seen → Ending → Type 0
Ended reads words old new (Class class) = Completed reads words old new class
Ended reads words old new Write = NotWritten reads words old new
Ended reads words old new Words = HasNoWords reads words old new
Ended reads words old new Memory = HasNoMemory old new
Ended reads words old new ending = Refused reads words old new ending
