use Rattle.std.proofs.Common.{◌≡◌, take}
use Rattle.clap.specs.Words.{app_of}
use Rattle.command_options.specs.Given.{known_in}
use Rattle.command_options.specs.Words.{app_for}
use Rattle.command_options.proofs.command.command.Given as goal

abbrev pub invariant-loop-row : goal.invariant-loop-row
invariant-loop-row l = app_of l.command ≡ app_for (known_in (take l.row-index l.table))
