use Rattle.std.proofs.Common.{sym, ◌∙◌, arith}
use Rattle.std.proofs.lemmas.Option.{slice_get_within}
use Rattle.inline_tracker.specs.Outcomes.{outcome_summary}
use Rattle.trap_report.proofs.LeftLemmas.{note_found, no_note}
use Rattle.trap_report.proofs.found.next_note.Goals as goal

pub returns-in-Some : goal.returns-in-Some
returns-in-Some c =
    let is = sym c.in-Some.ensures.value in (
      omega (arith, slice_get_within c.core.result.now.notes.items c.loop-number.place c.in-Some.note is, c.note_at.ensures.small),
      c.loop-number.invariant ∙ note_found c.args.finished.now.run.cores c.loop-number.place c.loop-number.number (outcome_summary c.core.result.now) c.in-Some.note c.core.ensures is,
    )

pub loop-number-preserved : goal.loop-number-preserved
loop-number-preserved c =
    c.loop-number.invariant ∙ no_note c.args.finished.now.run.cores c.loop-number.place c.loop-number.number (outcome_summary c.core.result.now) c.core.ensures (sym c.note_at.ensures.value ∙ c.in_default.is)
