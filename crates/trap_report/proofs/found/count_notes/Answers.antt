use Rattle.std.proofs.Common.{length, arith}
use Rattle.inline_tracker.specs.Outcomes.{outcome_summary}
use Rattle.trap_report.proofs.RunLemmas.{sum_by_next}
use Rattle.trap_report.proofs.found.count_notes.Goals as goal

pub loop-number-preserved : goal.loop-number-preserved
loop-number-preserved c =
    let more = sum_by_next (λ core. length core.notes) c.args.finished.now.run.cores c.loop-number.number (outcome_summary c.core.result.now) c.core.ensures in
    (omega (arith, more, c.len.ensures.count), omega (arith, c.len.ensures.small))
