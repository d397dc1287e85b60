-- A text tells a number exactly where `parse` reads one and it is plain.
use Rattle.std.proofs.Common.{◌≡◌, ◌∙◌, sym, ap, true}
use Rattle.command_options.specs.Numbers.{is_plain}
use Rattle.command_options.proofs.NumberLemmas.{err_tells, ok_tells, unplain_tells}
use Rattle.command_options.proofs.number.decimal_number.Goals as goal

pub returns-then-not-is_plain : goal.returns-then-not-is_plain
returns-then-not-is_plain c =
    unplain_tells c.args.text.now (ap is_plain (sym c.as_bytes.ensures.value) ∙ (sym c.is_plain.ensures ∙ c.if-not-is_plain.true))

pub returns-in-Ok : goal.returns-in-Ok
returns-in-Ok c =
    let plain : is_plain c.args.text.now ≡ true = ap is_plain (sym c.as_bytes.ensures.value) ∙ (sym c.is_plain.ensures ∙ c.if-not-is_plain.false) in
    ok_tells _ c.args.text.now c.parse.result c.in-Ok.number plain c.parse.ensures.value.0 c.in-Ok.is

pub returns-in-Err : goal.returns-in-Err
returns-in-Err c = err_tells _ c.args.text.now c.parse.result _ c.parse.ensures.value.0 c.in-Err.is
