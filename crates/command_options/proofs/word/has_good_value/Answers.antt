-- The cut at the first `=`.
use Rattle.std.proofs.Common.{◌∙◌, Some, None, arith, ap, sym, not}
use Rattle.std.proofs.lemmas.Str.Pattern.{split_parts}
use Rattle.clap.specs.Lexer.{long_of_rest}
use Rattle.command_options.specs.Given.{Text}
use Rattle.command_options.specs.Words.{has_good_value}
use Rattle.command_options.proofs.TokenLemmas.{good_with_value, good_without_value}
use Rattle.command_options.proofs.word.has_good_value.Goals as goal

pub returns-in-Some : goal.returns-in-Some
returns-in-Some c =
    let parts = split_parts 61 c.args.long.now (Some (c.in-Some.field-0-0, c.in-Some.value)) c.in-Some.ensures.cases (omega arith) in
    c.is_value.ensures ∙ sym (ap (λ (t : Text). has_good_value (long_of_rest t)) parts.0 ∙ good_with_value c.in-Some.field-0-0.now c.in-Some.value.now parts.1)

pub returns-in-None : goal.returns-in-None
returns-in-None c =
    let lacks = split_parts 61 c.args.long.now None c.in-None.ensures.cases (omega arith) in
    ap not c.is_empty.ensures ∙ sym (good_without_value c.args.long.now lacks)
