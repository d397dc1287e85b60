use Rattle.std.proofs.Common.{[], sym, ◌∙◌}
use Rattle.trap_report.proofs.KindLemmas.{no_form, line_read_last}
use Rattle.trap_report.proofs.kinds.last_line.Goals as goal

pub returns : goal.returns
returns c = λ numbers. c.read_or.ensures.read [] (no_form _) ∙ sym (line_read_last numbers _)
