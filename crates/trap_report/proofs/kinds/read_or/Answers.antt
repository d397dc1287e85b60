use Rattle.std.proofs.Common.{sym, ◌∙◌}
use Rattle.trap_report.proofs.KindLemmas.{this_form, other_form}
use Rattle.trap_report.proofs.kinds.read_or.Goals as goal

pub returns-in-Some-clause-read : goal.returns-in-Some-clause-read
returns-in-Some-clause-read c = λ forms h. c.narrowed.ensures ∙ this_form c.args.form.now forms _ c.in-Some.read (sym c.in-Some.is ∙ c.form_read.ensures.read)

pub returns-in-None-clause-read : goal.returns-in-None-clause-read
returns-in-None-clause-read c = λ forms h. h ∙ other_form c.args.form.now forms _ (sym c.in-None.is ∙ c.form_read.ensures.read)
