-- The outcome of one core, as the machine's summaries tell it (this project's own).
use Rattle.std.specs.Prelude.{Some}
use Rattle.machine.specs.Outcomes.{Summary}
use Rattle.inline_tracker.specs.declared.finished.CoreOutcome.{CoreOutcome}

abbrev pub outcome_summary : CoreOutcome → Summary
outcome_summary core = record { ending = Some core.end; units = core.units; trap = core.trap; notes = core.notes.items }
