-- What a contract sees of a tracker and of a finished run, and what a step of the tracker answers, by the state along its order (this project's own).
use Rattle.std.specs.Prelude.{ℕ, Bool, Option, List, ◌∷◌, [], ◌++◌, nat_lt, not, ◌&&◌, is_some, slice_get, if◌then◌else◌}
use Rattle.machine.specs.Setups.{Setup, core_count}
use Rattle.machine.specs.Runs.{along}
use Rattle.machine.specs.Outcomes.{Summary, summary_of}
use Rattle.machine.specs.FinishedRuns.{FinishedRun}
use Rattle.inline_tracker.specs.declared.step.Stepped.{Stepped}
use Rattle.inline_tracker.specs.declared.step.Stepped.TheVariants.{Went, Refused}
use Rattle.inline_tracker.specs.declared.step.StepFault.TheVariants.{Ended, NoSuchCore}

-- a tracker: its setup, and the order of the steps that went
pub record TrackerSeen : Type 0 where
  pub setup : Setup
  pub order : List ℕ

-- whether a core has ended, and how, at the end of the order so far
abbrev pub is_over : TrackerSeen → ℕ → Bool
is_over t c = is_some ((along t.setup t.order).cores c).local.ending

abbrev pub summary_at : TrackerSeen → ℕ → Summary
summary_at t c = summary_of ((along t.setup t.order).cores c)

abbrev pub step_answer : TrackerSeen → ℕ → Stepped
step_answer t c =
    if not (nat_lt c (core_count t.setup)) then Refused NoSuchCore else
    if is_over t c then Refused Ended else
    Went

-- a step that went is in the order, and a refusal changes nothing
abbrev pub order_after : Stepped → List ℕ → ℕ → List ℕ
order_after Went order c = order ++ c ∷ []
order_after (Refused fault) order c = order

-- whether there is a core with this number and it has ended
abbrev pub has_ended : TrackerSeen → ℕ → Bool
has_ended t c = nat_lt c (core_count t.setup) && is_over t c

-- a finished run, and how many places of its order have been given since it was made or rewound
pub record FinishedSeen : Type 0 where
  pub run : FinishedRun
  pub given : ℕ

-- the core at the next place of the order
abbrev pub next_core : FinishedSeen → Option ℕ
next_core f = slice_get f.run.order f.given
