use Rattle.std.proofs.Common.{cond, arith}
use Rattle.std.specs.Prelude.{is_some}
use Rattle.inline_tracker.specs.Outcomes.{outcome_summary}
use Rattle.trap_report.proofs.RunLemmas.{sum_by_next}
use Rattle.trap_report.proofs.found.count_traps.Goals as goal

pub loop-number-preserved : goal.loop-number-preserved
loop-number-preserved c =
    let more = sum_by_next (λ core. cond (is_some core.trap) 1 0) c.args.finished.now.run.cores c.loop-number.number (outcome_summary c.core.result.now) c.core.ensures in
    (omega (arith, more, c.traps_of-count.ensures.count), omega (arith, c.traps_of-count.ensures.small))
