-- From what was asked for, and what it came to, to the ending of a command.
use Rattle.std.proofs.Common.{◌≡◌, ℕ, List, ◌∷◌, inl, inr, codes}
use Rattle.run_cli.specs.Seen.{Seen}
use Rattle.run_cli.specs.Asked.{Asked, Run, Replay, Inspect}
use Rattle.run_cli.specs.Words.{Reads, ReadsOffline}
use Rattle.run_cli.specs.Endings.{Ended, WroteLine}
use Rattle.run_cli.specs.Forms.{Came, SaysNothing}
use Rattle.run_cli.specs.Causes.{IsCalm}
use Rattle.run_cli.specs.declared.ending.Ending.{Ending}
use Rattle.run_cli.specs.declared.ending.Ending.TheVariants.{Class, Words, Image, Policy, Differs, Report, Long, Memory, Read, Write}

pub came_ended : (reads : List (List ℕ) → Asked → Type 0) (words : List (List ℕ)) (asked : Asked) (old new : Seen) (ending : Ending) → reads words asked → Came asked old new ending → Ended reads words old new ending
came_ended reads words asked old new (Class class) read (inl came) = record {
  answer = came.answer;
  answered = record { asked = asked; read = read; answers = came.answers; calm = came.calm };
  class_is = came.delivered.0;
  within = came.delivered.1;
  written = came.delivered.2;
}
came_ended reads words asked old new Write read (inl came) = record {
  answer = came.answer;
  answered = record { asked = asked; read = read; answers = came.answers; calm = came.calm };
  cut = came.delivered;
}
came_ended reads words asked old new Words read (inl came) = absurd came.delivered
came_ended reads words asked old new (Image fault) read (inl came) = absurd came.delivered
came_ended reads words asked old new (Policy kind table key) read (inl came) = absurd came.delivered
came_ended reads words asked old new (Differs place) read (inl came) = absurd came.delivered
came_ended reads words asked old new (Report line kind) read (inl came) = absurd came.delivered
came_ended reads words asked old new (Long kind) read (inl came) = absurd came.delivered
came_ended reads words asked old new Memory read (inl came) = absurd came.delivered
came_ended reads words asked old new (Read kind) read (inl came) = absurd came.delivered
came_ended reads words asked old new (Class class) read (inr came) = absurd came.caused
came_ended reads words asked old new Write read (inr came) = absurd came.caused
came_ended reads words asked old new Words read (inr came) = absurd came.caused
came_ended reads words asked old new Memory read (inr came) = record { calm = came.caused; line = came.line }
came_ended reads words asked old new (Image fault) read (inr came) = record { asked = asked; read = read; caused = came.caused; line = came.line }
came_ended reads words asked old new (Policy kind table key) read (inr came) = record { asked = asked; read = read; caused = came.caused; line = came.line }
came_ended reads words asked old new (Differs place) read (inr came) = record { asked = asked; read = read; caused = came.caused; line = came.line }
came_ended reads words asked old new (Report line kind) read (inr came) = record { asked = asked; read = read; caused = came.caused; line = came.line }
came_ended reads words asked old new (Long kind) read (inr came) = record { asked = asked; read = read; caused = came.caused; line = came.line }
came_ended reads words asked old new (Read kind) read (inr came) = record { asked = asked; read = read; caused = came.caused; line = came.line }

-- words that say nothing end so
pub unsaid_ended : (reads : List (List ℕ) → Asked → Type 0) (words : List (List ℕ)) (old new : Seen) (ending : Ending) → SaysNothing ((asked : Asked) → reads words asked → ⊥) ending
    → IsCalm old.files new.files → WroteLine ending old.sinks new.sinks → Ended reads words old new ending
unsaid_ended reads words old new Words nothing calm wrote = record { nothing = nothing; calm = calm; line = wrote }
unsaid_ended reads words old new Memory nothing calm wrote = record { calm = calm; line = wrote }
unsaid_ended reads words old new (Class class) nothing calm wrote = absurd nothing
unsaid_ended reads words old new (Image fault) nothing calm wrote = absurd nothing
unsaid_ended reads words old new (Policy kind table key) nothing calm wrote = absurd nothing
unsaid_ended reads words old new (Differs place) nothing calm wrote = absurd nothing
unsaid_ended reads words old new (Report line kind) nothing calm wrote = absurd nothing
unsaid_ended reads words old new (Long kind) nothing calm wrote = absurd nothing
unsaid_ended reads words old new (Read kind) nothing calm wrote = absurd nothing
unsaid_ended reads words old new Write nothing calm wrote = absurd nothing

-- ---- where the words are not those of a run, what is read without `run` is what is read with it

pub with_run : (words : List (List ℕ)) (asked : Asked) → ReadsOffline words asked → Reads words asked
with_run words (Run o) read = absurd read
with_run words (Replay o) read = read
with_run words (Inspect asked) read = read

without_run : (words : List (List ℕ)) (asked : Asked) → ((rest : List (List ℕ)) → words ≡ codes "run" ∷ rest → ⊥) → Reads words asked → ReadsOffline words asked
without_run words (Run o) apart read = apart read.rest read.words_are
without_run words (Replay o) apart read = read
without_run words (Inspect asked) apart read = read

pub offline_ended : (words : List (List ℕ)) (old new : Seen) (ending : Ending) → ((rest : List (List ℕ)) → words ≡ codes "run" ∷ rest → ⊥) → Ended ReadsOffline words old new ending → Ended Reads words old new ending
offline_ended words old new (Class class) apart ended = record {
  answer = ended.answer;
  answered = record { asked = ended.answered.asked; read = with_run words ended.answered.asked ended.answered.read; answers = ended.answered.answers; calm = ended.answered.calm };
  class_is = ended.class_is;
  within = ended.within;
  written = ended.written;
}
offline_ended words old new Write apart ended = record {
  answer = ended.answer;
  answered = record { asked = ended.answered.asked; read = with_run words ended.answered.asked ended.answered.read; answers = ended.answered.answers; calm = ended.answered.calm };
  cut = ended.cut;
}
offline_ended words old new Words apart ended = record { nothing = λ asked read. ended.nothing asked (without_run words asked apart read); calm = ended.calm; line = ended.line }
offline_ended words old new Memory apart ended = ended
offline_ended words old new (Image fault) apart ended = record { asked = ended.asked; read = with_run words ended.asked ended.read; caused = ended.caused; line = ended.line }
offline_ended words old new (Policy kind table key) apart ended = record { asked = ended.asked; read = with_run words ended.asked ended.read; caused = ended.caused; line = ended.line }
offline_ended words old new (Differs place) apart ended = record { asked = ended.asked; read = with_run words ended.asked ended.read; caused = ended.caused; line = ended.line }
offline_ended words old new (Report line kind) apart ended = record { asked = ended.asked; read = with_run words ended.asked ended.read; caused = ended.caused; line = ended.line }
offline_ended words old new (Long kind) apart ended = record { asked = ended.asked; read = with_run words ended.asked ended.read; caused = ended.caused; line = ended.line }
offline_ended words old new (Read kind) apart ended = record { asked = ended.asked; read = with_run words ended.asked ended.read; caused = ended.caused; line = ended.line }
