-- What the words of a command ask for, as a contract sees it (this project's own).
use Rattle.std.specs.Prelude.{ℕ, List, Option}
use Rattle.std.specs.Option.{option_map}
use Rattle.run_cli.specs.declared.options.ImageOptions.{ImageOptions}
use Rattle.run_cli.specs.declared.options.SetupOptions.{SetupOptions}
use Rattle.run_cli.specs.declared.options.RunOptions.{RunOptions}
use Rattle.run_cli.specs.declared.options.ReplayOptions.{ReplayOptions}
use Rattle.run_cli.specs.declared.options.OfflineCommand.{OfflineCommand}
use Rattle.run_cli.specs.declared.options.OfflineCommand.TheVariants.{Replay as ReplayOf, Inspect as InspectOf}

-- an image: its name, and the numbers of its map
pub record ImageAsked : Type 0 where
  pub name : List ℕ
  pub cores : ℕ
  pub stack : ℕ
  pub heap : ℕ

-- what a run is of: its image, the names of its other files, and its numbers
pub record SetupAsked : Type 0 where
  pub image : ImageAsked
  pub input : Option (List ℕ)
  pub policy : Option (List ℕ)
  pub budget : ℕ
  pub limit : ℕ

pub record RunAsked : Type 0 where
  pub setup : SetupAsked
  pub lane : ℕ
  pub quantum : ℕ

-- what a report is compared with: the numbers of this run are in the report
pub record ReplayAsked : Type 0 where
  pub image : List ℕ
  pub report : List ℕ
  pub input : Option (List ℕ)
  pub policy : Option (List ℕ)

pub data Asked : Type 0 where
  Run : RunAsked → Asked
  Replay : ReplayAsked → Asked
  Inspect : ImageAsked → Asked

-- ---- what the options of the code are

abbrev pub image_in : ImageOptions → ImageAsked
image_in o = record { name = o.name.now; cores = o.cores; stack = o.stack; heap = o.heap }

abbrev pub setup_in : SetupOptions → SetupAsked
setup_in o = record {
  image = image_in o.image;
  input = option_map (λ name. name.now) o.input;
  policy = option_map (λ name. name.now) o.policy;
  budget = o.budget;
  limit = o.limit;
}

abbrev pub run_in : RunOptions → RunAsked
run_in o = record { setup = setup_in o.setup; lane = o.lane; quantum = o.quantum }

abbrev pub replay_in : ReplayOptions → ReplayAsked
replay_in o = record {
  image = o.image.now;
  report = o.report.now;
  input = option_map (λ name. name.now) o.input;
  policy = option_map (λ name. name.now) o.policy;
}

abbrev pub asked_in : OfflineCommand → Asked
asked_in (ReplayOf options) = Replay (replay_in options)
asked_in (InspectOf options) = Inspect (image_in options)
