-- What the words of a command say: its options and their ranges (this project's own).
use Rattle.std.specs.Prelude.{◌≡◌, ℕ, List, [], ◌∷◌, Option, None, Some, codes}
use Rattle.command_options.specs.Given.{Known, GivenOption, IsRead, required_option, other_option, value_given}
use Rattle.command_options.specs.Numbers.{Tells}
use Rattle.elf_image.specs.declared.limits.TheConstants.{MOST_STACK, MOST_HEAP}
use Rattle.syscall_drain.specs.declared.limits.TheConstants.{MOST_BUDGET}
use Rattle.trap_report.specs.declared.limits.TheConstants.{REPORTED_CORES, MOST_LIMIT}
use Rattle.record_lane.specs.declared.limits.TheConstants.{MOST_LANE}
use Rattle.run_cli.specs.declared.limits.TheConstants.{USUAL_LANE, MOST_QUANTUM, USUAL_QUANTUM, USUAL_STACK, USUAL_HEAP}
use Rattle.run_cli.specs.Asked.{ImageAsked, SetupAsked, RunAsked, ReplayAsked, Asked, Run, Replay, Inspect}

abbrev pub run_table : List Known
run_table =
    required_option (codes "image")
    ∷ other_option (codes "input")
    ∷ other_option (codes "policy")
    ∷ other_option (codes "cores")
    ∷ other_option (codes "lane")
    ∷ other_option (codes "quantum")
    ∷ other_option (codes "budget")
    ∷ other_option (codes "limit")
    ∷ other_option (codes "stack")
    ∷ other_option (codes "heap")
    ∷ []

abbrev pub replay_table : List Known
replay_table =
    required_option (codes "image")
    ∷ required_option (codes "report")
    ∷ other_option (codes "input")
    ∷ other_option (codes "policy")
    ∷ []

abbrev pub map_table : List Known
map_table =
    required_option (codes "image")
    ∷ other_option (codes "cores")
    ∷ other_option (codes "stack")
    ∷ other_option (codes "heap")
    ∷ []

-- a number in its range, which is the usual one where the option is not given
abbrev pub IsNumber : ℕ → ℕ → ℕ → Option (List ℕ) → ℕ → Type 0
IsNumber low high usual None n = n ≡ usual
IsNumber low high usual (Some text) n = Tells text low high n

-- what options that are given ask for: an image, a setup, a run, a replay
pub record AskForImage (given : List GivenOption) (asked : ImageAsked) : Type 0 where
  pub name : value_given given (codes "image") ≡ Some asked.name
  pub cores : IsNumber 1 REPORTED_CORES 1 (value_given given (codes "cores")) asked.cores
  pub stack : IsNumber 1 MOST_STACK USUAL_STACK (value_given given (codes "stack")) asked.stack
  pub heap : IsNumber 0 MOST_HEAP USUAL_HEAP (value_given given (codes "heap")) asked.heap

pub record AskForSetup (given : List GivenOption) (o : SetupAsked) : Type 0 where
  pub image : AskForImage given o.image
  pub input : value_given given (codes "input") ≡ o.input
  pub policy : value_given given (codes "policy") ≡ o.policy
  pub budget : IsNumber 1 MOST_BUDGET MOST_BUDGET (value_given given (codes "budget")) o.budget
  pub limit : IsNumber 1 MOST_LIMIT MOST_LIMIT (value_given given (codes "limit")) o.limit

pub record AskForRun (given : List GivenOption) (o : RunAsked) : Type 0 where
  pub setup : AskForSetup given o.setup
  pub lane : IsNumber 1 MOST_LANE USUAL_LANE (value_given given (codes "lane")) o.lane
  pub quantum : IsNumber 1 MOST_QUANTUM USUAL_QUANTUM (value_given given (codes "quantum")) o.quantum

pub record AskForReplay (given : List GivenOption) (o : ReplayAsked) : Type 0 where
  pub image : value_given given (codes "image") ≡ Some o.image
  pub report : value_given given (codes "report") ≡ Some o.report
  pub input : value_given given (codes "input") ≡ o.input
  pub policy : value_given given (codes "policy") ≡ o.policy

-- the words after a command's name
pub record AreOptions {O : Type 0} (table : List Known) (AskFor : List GivenOption → O → Type 0) (rest : List (List ℕ)) (o : O) : Type 0 where
  pub given : List GivenOption
  pub read : IsRead table rest given
  pub asks : AskFor given o

-- the words are a command's name, and its options
pub record Says {O : Type 0} (name : List ℕ) (table : List Known) (AskFor : List GivenOption → O → Type 0) (words : List (List ℕ)) (o : O) : Type 0 where
  pub rest : List (List ℕ)
  pub words_are : words ≡ name ∷ rest
  pub options : AreOptions table AskFor rest o

-- the words ask for this
abbrev pub Reads : List (List ℕ) → Asked → Type 0
Reads words (Run o) = Says (codes "run") run_table AskForRun words o
Reads words (Replay o) = Says (codes "replay") replay_table AskForReplay words o
Reads words (Inspect asked) = Says (codes "inspect") map_table AskForImage words asked

-- so without `run`
abbrev pub ReadsOffline : List (List ℕ) → Asked → Type 0
ReadsOffline words (Run o) = ⊥
ReadsOffline words (Replay o) = Reads words (Replay o)
ReadsOffline words (Inspect asked) = Reads words (Inspect asked)
