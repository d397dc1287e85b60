use Rattle.std.proofs.Common.{◌∷◌, [], List, refl, ◌∙◌}
use Rattle.std.proofs.lemmas.Result.{err_from_is_err_and}
use Rattle.trap_report.specs.Reading.{LineKind, Counted, LastLine}
use Rattle.trap_report.specs.declared.report_line.Section.TheVariants.{Traps, Ends}
use Rattle.trap_report.proofs.ReadLemmas.{exit_goes, goes_wrong, goes_after}
use Rattle.trap_report.proofs.reader.read_rest.Goals as goal

abbrev after_calls : List LineKind
after_calls = Counted Traps ∷ Counted Ends ∷ LastLine ∷ []

abbrev after_traps : List LineKind
after_traps = Counted Ends ∷ LastLine ∷ []

pub returns-in_err-skip_section : goal.returns-in_err-skip_section
returns-in_err-skip_section c = λ told range.
    let p = err_from_is_err_and c.from_residual.result c.from_residual.ensures.1 in
    exit_goes _ _ c.from_residual.result p.0 _ p.1 p.2 (goes_wrong _ _ _ _ _ refl (c.in_err-skip_section.ensures told after_calls range))

pub returns-in_err-skip_section-2 : goal.returns-in_err-skip_section-2
returns-in_err-skip_section-2 c = λ told range.
    let p = err_from_is_err_and c.from_residual-in_err-skip_section-2.result c.from_residual-in_err-skip_section-2.ensures.1 in
    let calls = (c.in_ok-skip_section.ensures told after_calls range).leads in
    exit_goes _ _ c.from_residual-in_err-skip_section-2.result p.0 _ p.1 p.2 (goes_wrong _ _ _ _ _ calls (c.in_err-skip_section-2.ensures told after_traps range))

pub returns-in_err-skip_section-3 : goal.returns-in_err-skip_section-3
returns-in_err-skip_section-3 c = λ told range.
    let p = err_from_is_err_and c.from_residual-in_err-skip_section-3.result c.from_residual-in_err-skip_section-3.ensures.1 in
    let calls = (c.in_ok-skip_section.ensures told after_calls range).leads in
    let traps = (c.in_ok-skip_section-2.ensures told after_traps range).leads in
    exit_goes _ _ c.from_residual-in_err-skip_section-3.result p.0 _ p.1 p.2 (goes_wrong _ _ _ _ _ (calls ∙ traps) (c.in_err-skip_section-3.ensures told (LastLine ∷ []) range))

pub returns : goal.returns
returns c = λ told range.
    let calls = (c.in_ok-skip_section.ensures told after_calls range).leads in
    let traps = (c.in_ok-skip_section-2.ensures told after_traps range).leads in
    let ends = (c.in_ok-skip_section-3.ensures told (LastLine ∷ []) range).leads in
    goes_after _ _ _ c.read_last.result (calls ∙ traps ∙ ends) (c.read_last.ensures told)
