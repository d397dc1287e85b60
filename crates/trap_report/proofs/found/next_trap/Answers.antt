use Rattle.std.proofs.Common.{◌∙◌, arith}
use Rattle.inline_tracker.specs.Outcomes.{outcome_summary}
use Rattle.trap_report.proofs.LeftLemmas.{trap_found, no_trap}
use Rattle.trap_report.proofs.found.next_trap.Goals as goal

pub returns-in-Some : goal.returns-in-Some
returns-in-Some c = (
  omega arith,
  c.loop-number.invariant ∙ trap_found c.args.finished.now.run.cores c.loop-number.number (outcome_summary c.core.result.now) c.in-Some.trap c.core.ensures c.in-Some.is,
)

pub loop-number-preserved : goal.loop-number-preserved
loop-number-preserved c =
    c.loop-number.invariant ∙ no_trap c.args.finished.now.run.cores c.loop-number.number (outcome_summary c.core.result.now) c.core.ensures c.in_default.is
