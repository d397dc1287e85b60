use Rattle.std.proofs.Common.{[], ◌∷◌, ap, sym, ◌∙◌}
use Rattle.trap_report.specs.Forms.{forms_read}
use Rattle.trap_report.specs.Reading.{fields_of}
use Rattle.trap_report.specs.declared.form.ReportWord.TheVariants.{NameOf}
use Rattle.trap_report.specs.declared.form.Field.{Field}
use Rattle.trap_report.specs.declared.form.Field.TheVariants.{Exactly}
use Rattle.trap_report.proofs.KindLemmas.{no_form, line_read_numbered}
use Rattle.trap_report.proofs.kinds.header_number.Goals as goal

pub returns-clause-read : goal.returns-clause-read
returns-clause-read c = λ numbers.
    c.read_or.ensures.read [] (no_form _)
    ∙ ap (λ (range : Field). forms_read ((Exactly (NameOf c.args.name) ∷ range ∷ []) ∷ []) (fields_of c.args.line.now)) c.header_range.ensures.range
    ∙ sym (line_read_numbered numbers c.args.name _)
