use Rattle.std.proofs.Common.{◌≡◌, Err, true, false, map, sym, ◌∙◌, ap, rules}
use Rattle.toml.specs.View.{view, table_view}
use Rattle.tag_policy.specs.Keys.{top_keys}
use Rattle.tag_policy.specs.Grammar.{judged, has_other_key, policy_of_document}
use Rattle.tag_policy.specs.ReadForms.{policy_result}
use Rattle.tag_policy.proofs.Documents.{judged_err, judged_ok, other_found, document_unknown, document_version, document_array, document_read}
use Rattle.tag_policy.proofs.reading.read_document.Goals as goal

pub returns-then-has_unknown_top_key : goal.returns-then-has_unknown_top_key
returns-then-has_unknown_top_key c =
    let other : has_other_key top_keys (table_view c.args.table.now) ≡ true =
    other_found c.args.table.now.entries _ true c.has_unknown_top_key.ensures c.if-has_unknown_top_key.true in
    ap Err c.bad.ensures ∙ sym (ap (λ fault. judged fault (policy_of_document (table_view c.args.table.now))) (document_unknown (table_view c.args.table.now) other))

pub returns-in_err-version : goal.returns-in_err-version
returns-in_err-version c =
    let other : has_other_key top_keys (table_view c.args.table.now) ≡ false =
    other_found c.args.table.now.entries _ false c.has_unknown_top_key.ensures c.if-has_unknown_top_key.false in
    let told : c.from_residual.result ≡ Err c.in_err-version.field-0.0 = search rules in
    ap policy_result told
    ∙ sym (ap (λ fault. judged fault (policy_of_document (table_view c.args.table.now)))
    (document_version (table_view c.args.table.now) _ _ other c.lookup.ensures (judged_err _ _ _ c.in_err-version.ensures)))

pub returns-in_err-items : goal.returns-in_err-items
returns-in_err-items c =
    let other : has_other_key top_keys (table_view c.args.table.now) ≡ false =
    other_found c.args.table.now.entries _ false c.has_unknown_top_key.ensures c.if-has_unknown_top_key.false in
    let told : c.from_residual-in_err-items.result ≡ Err c.in_err-items.field-0.0 = search rules in
    let (passes, says) = judged_ok _ _ c.in_ok-version.version c.in_ok-version.ensures in
    ap policy_result told
    ∙ sym (ap (λ fault. judged fault (policy_of_document (table_view c.args.table.now)))
    (document_array (table_view c.args.table.now) _ _ _ other c.lookup.ensures passes c.lookup-2.ensures (sym c.in_err-items.ensures.fault)))

pub returns : goal.returns
returns c =
    let other : has_other_key top_keys (table_view c.args.table.now) ≡ false =
    other_found c.args.table.now.entries _ false c.has_unknown_top_key.ensures c.if-has_unknown_top_key.false in
    let (passes, says) = judged_ok _ _ c.in_ok-version.version c.in_ok-version.ensures in
    document_read (table_view c.args.table.now) _ _ c.in_ok-version.version (map view c.in_ok-items.items.now) _
    other c.lookup.ensures passes says c.lookup-2.ensures (sym c.in_ok-items.ensures.fault) c.in_ok-items.ensures.items c.read_items.ensures
