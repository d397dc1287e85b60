use Rattle.std.proofs.Common.{sym, ◌∙◌, arith, append-nil}
use Rattle.trap_report.proofs.DigitLemmas.{hex_zero, next_digit}
use Rattle.trap_report.proofs.block.Block.push_hex.Goals as goal

pub loop-left-preserved : goal.loop-left-preserved
loop-left-preserved c = record {
  text =
      next_digit c.loop-left.self c.push.new.self c.loop-left.left c.args.number c.hex_digit.result (omega arith) c.push.ensures.text c.hex_digit.ensures
      ∙ c.loop-left.invariant.text;
  within = omega arith;
  len = omega (arith, c.push.ensures.len);
}

pub returns-clause-text : goal.returns-clause-text
returns-clause-text c = sym (append-nil _) ∙ (rw (← hex_zero c.loop-left.left c.args.number (omega arith)) c.loop-left.invariant.text)
