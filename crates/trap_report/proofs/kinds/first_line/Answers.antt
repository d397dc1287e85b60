use Rattle.std.proofs.Common.{sym, ◌∙◌}
use Rattle.trap_report.proofs.KindLemmas.{is_first, not_first}
use Rattle.trap_report.proofs.kinds.first_line.Goals as goal

pub returns-in-Some : goal.returns-in-Some
returns-in-Some c = λ numbers. is_first numbers _ _ (sym c.in-Some.is ∙ c.form_read.ensures.read)

pub returns-in-None : goal.returns-in-None
returns-in-None c = λ numbers. not_first numbers _ (sym c.in-None.is ∙ c.form_read.ensures.read)
