-- One row more is one option more.
use Rattle.std.proofs.Common.{◌∙◌, ap₂, arith}
use Rattle.clap.specs.Words.{with_rule}
use Rattle.command_options.proofs.TableLemmas.{app_taken}
use Rattle.command_options.proofs.command.command.Goals as goal

pub loop-row-preserved : goal.loop-row-preserved
loop-row-preserved c =
    let now = c.in_ok-command.ensures.shape c.argument.ensures.local in
    let rule = c.argument.ensures.rule in
    now ∙ (ap₂ with_rule c.loop-row.invariant rule ∙ app_taken c.args.table.now c.loop-row.row-index _ (omega arith))
