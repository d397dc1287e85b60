use Rattle.std.proofs.Common.{refl}
use Rattle.run_cli.specs.Words.{run_table, AskForRun}
use Rattle.run_cli.proofs.ReadsOnce.{no_options, unsaid}
use Rattle.run_cli.proofs.words.run_options.Goals as goal

pub returns-in-Ok-clause-refused : goal.returns-in-Ok-clause-refused
returns-in-Ok-clause-refused c =
    unsaid _ _ _ c.run_asked.result c.ok_or.result c.ok_or.ensures.value c.run_asked.ensures (no_options run_table AskForRun refl _ c.in-Ok.options c.in-Ok.ensures.read)
