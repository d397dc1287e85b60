use Rattle.std.proofs.Common.{refl}
use Rattle.run_cli.specs.Words.{replay_table, AskForReplay}
use Rattle.run_cli.proofs.ReadsOnce.{no_options, unsaid}
use Rattle.run_cli.proofs.words.replay_options.Goals as goal

pub returns-in-Ok-clause-refused : goal.returns-in-Ok-clause-refused
returns-in-Ok-clause-refused c =
    unsaid _ _ _ c.replay_asked.result c.ok_or.result c.ok_or.ensures.value c.replay_asked.ensures (no_options replay_table AskForReplay refl _ c.in-Ok.options c.in-Ok.ensures.read)
