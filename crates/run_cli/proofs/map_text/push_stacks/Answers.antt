use Rattle.std.proofs.Common.{◌++◌, ◌∙◌, List, ℕ, ap, sym, arith}
use Rattle.run_cli.proofs.MapLemmas.{appended, stacks_more}
use Rattle.run_cli.proofs.map_text.push_stacks.Goals as goal

pub loop-core-preserved : goal.loop-core-preserved
loop-core-preserved c = (
  appended _ _ c.args.block.now _ _ c.push_stack.ensures.text c.loop-core.invariant.0
      ∙ ap (λ (text : List ℕ). c.args.block.now ++ text) (sym (stacks_more c.args.pages c.loop-core.core)),
  omega (arith, c.loop-core.invariant.1, c.push_stack.ensures.len),
)
