use Rattle.std.proofs.Common.{refl}
use Rattle.run_cli.specs.Asked.{Run, run_in}
use Rattle.run_cli.specs.Words.{Reads}
use Rattle.run_cli.proofs.Concluding.{came_ended, unsaid_ended}
use Rattle.run_cli.proofs.ReadsOnce.{no_run_words, says_nothing}
use Rattle.run_cli.proofs.dispatch.run_words.Goals as goal

pub returns-in-Ok : goal.returns-in-Ok
returns-in-Ok g c words are =
    came_ended Reads words (Run (run_in c.in-Ok.options)) _ _ _ (record { rest = _; words_are = are; options = c.in-Ok.ensures.read }) c.run.ensures

pub returns-in-Err : goal.returns-in-Err
returns-in-Err g c words are =
    rw c.refused.ensures.same (unsaid_ended Reads words _ _ _ (says_nothing _ _ _ (no_run_words words _ are) c.in-Err.ensures.refused) (λ name. refl)
    (record { out = record { same = refl; count = refl }; report = c.refused.ensures.told }))
