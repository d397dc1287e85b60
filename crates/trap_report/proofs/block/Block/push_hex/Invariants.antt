use Rattle.std.proofs.Common.{◌≡◌, ◌+◌, ◌++◌, ◌≤◌, length}
use Rattle.trap_report.specs.Digits.{hex}
use Rattle.trap_report.proofs.block.Block.push_hex.Given as goal

-- the digits that are left complete the text
abbrev pub invariant-loop-left : goal.invariant-loop-left
invariant-loop-left l = record {
  text : l.self ++ hex l.left l.number ≡ l.initial.self ++ hex l.digits l.number;
  within : l.left ≤ l.digits;
  len : length l.self + l.left ≡ length l.initial.self + l.digits;
}

abbrev pub decreases-loop-left : goal.decreases-loop-left
decreases-loop-left l = l.left
