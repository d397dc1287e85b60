use Rattle.std.proofs.Common.{ℕ, ◌≤◌, get_or, subst, sym, ap, ◌∙◌, add-one, drop-cons}
use Rattle.std.proofs.lemmas.List.{drop_all}
use Rattle.std.specs.Option.{option_map}
use Rattle.trap_report.specs.Matching.{ReadsWithin, greatest, parts_left}
use Rattle.trap_report.specs.declared.form.Field.TheVariants.{Meeting}
use Rattle.trap_report.proofs.MatchLemmas.{next_matched, other_form, too_few, some_left, none_left, all_good, not_good, matched_within, left_now}
use Rattle.trap_report.proofs.match_line.form_read.Goals as goal

pub loop-field-preserved : goal.loop-field-preserved
loop-field-preserved c =
    next_matched _ _ c.loop-field.field-index _ _ _ _ c.loop-field.invariant (rw add-one (drop-cons c.args.form.now c.loop-field.field-index _ c.loop-field-test.true))
    c.cut_at.result.0.now _ c.is_good_too-good.result c.number_or-first.result (left_now c.loop-field.rest (λ rest. rest.now) c.in-Some.fields c.in-Some.is ∙ c.cut_at.ensures.parts)
    (sym c.has_form.ensures ∙ c.if-not-has_form.false) c.is_good_too-good.ensures c.number_or-first.ensures

pub returns-then-not-has_form-clause-read : goal.returns-then-not-has_form-clause-read
returns-then-not-has_form-clause-read c =
    other_form _ _ c.loop-field.field-index _ _ _ _ c.loop-field.invariant (rw add-one (drop-cons c.args.form.now c.loop-field.field-index _ c.loop-field-test.true))
    c.cut_at.result.0.now _ (left_now c.loop-field.rest (λ rest. rest.now) c.in-Some.fields c.in-Some.is ∙ c.cut_at.ensures.parts)
    (sym c.has_form.ensures ∙ c.if-not-has_form.true)

pub returns-then-is_some-clause-read : goal.returns-then-is_some-clause-read
returns-then-is_some-clause-read c =
    some_left _ _ _ c.loop-field.rest (λ rest. rest.now) _ _ c.loop-field.invariant (drop_all c.loop-field.field-index c.args.form.now c.loop-field-test.false) (sym c.is_some.ensures ∙ c.if-is_some.true)

pub returns-in_default-clause-read : goal.returns-in_default-clause-read
returns-in_default-clause-read c =
    too_few c.args.form.now _ c.loop-field.field-index (get_or c.args.form.now c.loop-field.field-index Meeting) _ _ _ c.loop-field.invariant (rw add-one (drop-cons c.args.form.now c.loop-field.field-index Meeting c.loop-field-test.true)) (ap (λ left. parts_left 32 (option_map (λ rest. rest.now) left)) c.in_default.is)

pub returns-then-good-clause-read : goal.returns-then-good-clause-read
returns-then-good-clause-read c =
    all_good _ _ _ _ _ _ c.loop-field.invariant (drop_all c.loop-field.field-index c.args.form.now c.loop-field-test.false) (none_left c.loop-field.rest (λ rest. rest.now) (sym c.is_some.ensures ∙ c.if-is_some.false))
    c.unwrap_or.result c.if-good.true c.unwrap_or.ensures

pub returns-then-good-clause-small : goal.returns-then-good-clause-small
returns-then-good-clause-small c =
    let within = matched_within _ _ _ _ _ _ c.loop-field.invariant (drop_all c.loop-field.field-index c.args.form.now c.loop-field-test.false) (none_left c.loop-field.rest (λ rest. rest.now) (sym c.is_some.ensures ∙ c.if-is_some.false)) c.if-good.true in
    subst (λ (n : ℕ). n ≤ greatest c.args.form.now) (sym c.unwrap_or.ensures) within.0

pub returns-then-good-clause-within : goal.returns-then-good-clause-within
returns-then-good-clause-within c =
    let within = matched_within _ _ _ _ _ _ c.loop-field.invariant (drop_all c.loop-field.field-index c.args.form.now c.loop-field-test.false) (none_left c.loop-field.rest (λ rest. rest.now) (sym c.is_some.ensures ∙ c.if-is_some.false)) c.if-good.true in
    subst (λ (n : ℕ). ReadsWithin c.args.form.now n) (sym c.unwrap_or.ensures) within.1

pub returns-else-good-clause-read : goal.returns-else-good-clause-read
returns-else-good-clause-read c =
    not_good _ _ _ _ _ _ c.loop-field.invariant (drop_all c.loop-field.field-index c.args.form.now c.loop-field-test.false) (none_left c.loop-field.rest (λ rest. rest.now) (sym c.is_some.ensures ∙ c.if-is_some.false)) c.if-good.false
