use Rattle.std.proofs.Common.{◌≡◌, ◌+◌, ◌*◌, ◌≤◌, ◌++◌, length}
use Rattle.run_cli.specs.MapText.{stack_lines}
use Rattle.run_cli.proofs.map_text.push_stacks.Given as goal

abbrev pub invariant-loop-core : goal.invariant-loop-core
invariant-loop-core l =
    (l.block ≡ l.fn.block ++ stack_lines l.pages l.core) × (length l.block ≤ 2048 + 28 * l.core)
