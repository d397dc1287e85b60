use Rattle.std.proofs.Common.{◌≡◌, Err, Some, None, sym, ◌∙◌, ap}
use Rattle.std.proofs.lemmas.Bool.{iff_false}
use Rattle.toml.specs.View.{table_view}
use Rattle.tag_policy.specs.Grammar.{policy_of}
use Rattle.tag_policy.specs.ReadForms.{policy_result}
use Rattle.tag_policy.proofs.Texts.{of_text, of_no_text, if_read, if_refused}
use Rattle.tag_policy.proofs.reading.read_policy.Goals as goal

pub returns-in_default-clause-refused : goal.returns-in_default-clause-refused
returns-in_default-clause-refused c = λ other. of_no_text c.args.bytes.now _ c.in_default.ensures.cases.1 ∙ ap Err (sym c.bad.ensures)

meant : (c : goal.After-drop-table) → policy_of c.args.bytes.now ≡ policy_result c.read_document.result
meant c =
    of_text c.args.bytes.now c.in-Ok.text.now c.in-Ok.ensures.cases.0 c.in-Ok.ensures.cases.1 (Some (table_view c.in-Ok-table_from_str.table)) c.in-Ok-table_from_str.ensures.ok
    ∙ sym c.read_document.ensures

pub returns-in-Ok-table_from_str-clause-accepted :
    goal.returns-in-Ok-table_from_str-clause-accepted
returns-in-Ok-table_from_str-clause-accepted c = if_read c.read_document.result (policy_of c.args.bytes.now) (meant c)

pub returns-in-Ok-table_from_str-clause-refused : goal.returns-in-Ok-table_from_str-clause-refused
returns-in-Ok-table_from_str-clause-refused c = if_refused c.read_document.result (policy_of c.args.bytes.now) (meant c)

pub returns-else-is_memory-clause-refused : goal.returns-else-is_memory-clause-refused
returns-else-is_memory-clause-refused c =
    λ other.
    of_text c.args.bytes.now c.in-Ok.text.now c.in-Ok.ensures.cases.0 c.in-Ok.ensures.cases.1 None
    (c.in-Err.ensures.refused (iff_false c.is_memory.ensures c.if-is_memory.false))
    ∙ ap Err (sym c.bad-else-is_memory.ensures)
