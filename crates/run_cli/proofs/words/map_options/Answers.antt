use Rattle.std.proofs.Common.{refl}
use Rattle.run_cli.specs.Words.{map_table, AskForImage}
use Rattle.run_cli.proofs.ReadsOnce.{no_options, unsaid}
use Rattle.run_cli.proofs.words.map_options.Goals as goal

pub returns-in-Ok-clause-refused : goal.returns-in-Ok-clause-refused
returns-in-Ok-clause-refused c =
    unsaid _ _ _ c.image_asked.result c.ok_or.result c.ok_or.ensures.value c.image_asked.ensures (no_options map_table AskForImage refl _ c.in-Ok.options c.in-Ok.ensures.read)
