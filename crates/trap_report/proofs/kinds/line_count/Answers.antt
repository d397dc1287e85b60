use Rattle.std.proofs.Common.{[], ◌∷◌, ap, sym, ◌∙◌}
use Rattle.trap_report.specs.Forms.{forms_read}
use Rattle.trap_report.specs.Reading.{fields_of}
use Rattle.trap_report.specs.declared.form.ReportWord.TheVariants.{CountOf}
use Rattle.trap_report.specs.declared.form.Field.{Field}
use Rattle.trap_report.specs.declared.form.Field.TheVariants.{Exactly}
use Rattle.trap_report.proofs.KindLemmas.{no_form, line_read_counted}
use Rattle.trap_report.proofs.kinds.line_count.Goals as goal

pub returns-clause-read : goal.returns-clause-read
returns-clause-read c = λ numbers h.
    c.read_or.ensures.read [] (no_form _)
    ∙ ap (λ (range : Field). forms_read ((Exactly (CountOf c.args.section) ∷ range ∷ []) ∷ []) (fields_of c.args.line.now)) (sym h)
    ∙ sym (line_read_counted numbers c.args.section _)
