use Rattle.std.proofs.Common.{[], sym, ◌∙◌}
use Rattle.std.proofs.lemmas.Option.{get_or_from_slice_get}
use Rattle.trap_report.proofs.found.entries_of.Goals as goal

pub returns-clause-entries : goal.returns-clause-entries
returns-clause-entries c = c.as_slice.ensures.items ∙ sym (get_or_from_slice_get c.args.finished.now.run.logs c.args.core c.log.result.now.items [] c.log.ensures)
