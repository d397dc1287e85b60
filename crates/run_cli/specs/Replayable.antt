-- The report that a run wrote can be replayed (this project's own).
use Rattle.std.specs.Prelude.{◌≡◌, ℕ, ◌^◌, ◌<◌, ◌≤◌, List, length, All, Option, None, Some, IsSome, IfSome}
use Rattle.outside.specs.Sinks.{Wrote}
use Rattle.run_cli.specs.Seen.{FilesSeen, Seen}
use Rattle.run_cli.specs.Asked.{SetupAsked, RunAsked, ReplayAsked, Run, Replay}
use Rattle.run_cli.specs.Words.{Reads}
use Rattle.run_cli.specs.Work.{most_bytes}
use Rattle.run_cli.specs.Completeness.{CanReplay}
use Rattle.run_cli.specs.declared.files.FileKind.TheVariants.{Report}

-- the contents of a file are told, and are what they were
abbrev pub IsKept : FilesSeen → FilesSeen → Option (List ℕ) → Type 0
IsKept old new None = Unit {0}
IsKept old new (Some name) = IsSome (new.held name) × (new.held name ≡ old.held name)

-- a replay names the files of a run, which are kept, and its image is bytes
pub record HasFilesOf (old new : FilesSeen) (run : SetupAsked) (replay : ReplayAsked) : Type 0 where
  pub image : replay.image ≡ run.image.name
  pub policy : replay.policy ≡ run.policy
  pub input : replay.input ≡ run.input
  pub image_kept : IsKept old new (Some run.image.name)
  pub policy_kept : IsKept old new run.policy
  pub input_kept : IsKept old new run.input
  pub bytes : IfSome (new.held run.image.name) (All (λ byte. byte < 2 ^ 8))

-- wherever a file that is not too long for a report has this text, and the files of the run are kept, the words of a replay can be replayed
abbrev pub CanBeReplayed : FilesSeen → SetupAsked → List ℕ → Type 0
CanBeReplayed old run report =
    (words : List (List ℕ)) (replay : ReplayAsked) (files : FilesSeen) → Reads words (Replay replay) → HasFilesOf old files run replay
    → files.held replay.report ≡ Some report → length report ≤ most_bytes Report → CanReplay words files

-- a run wrote this report, and it can be replayed
pub record WroteReplayable (old new : Seen) (run : SetupAsked) : Type 0 where
  pub text : List ℕ
  pub wrote : Wrote text old.sinks.report new.sinks.report
  pub replays : CanBeReplayed old.files run text

-- so did each run that is answered by a class
abbrev pub Replayable : List (List ℕ) → Seen → Seen → ℕ → Type 0
Replayable words old new status = (run : RunAsked) → Reads words (Run run) → status ≤ 5 → WroteReplayable old new run.setup
