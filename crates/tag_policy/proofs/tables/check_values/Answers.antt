use Rattle.std.proofs.Common.{◌≡◌, Some, sym, ◌∙◌, rules}
use Rattle.std.specs.Result.{result_err}
use Rattle.toml.specs.View.{table_view}
use Rattle.tag_policy.proofs.KeyTests.{keys_pass, keys_fail, keys_end}
use Rattle.tag_policy.proofs.tables.check_values.Goals as goal

pub loop-index-preserved : goal.loop-index-preserved
loop-index-preserved c =
    c.loop-index.invariant
    ∙ keys_pass c.args.place (table_view c.args.table.now) c.args.keys.now c.loop-index.index _ _ c.loop-index-test.true c.lookup.ensures c.in_ok-check_value.ensures

pub returns-in_err-check_value : goal.returns-in_err-check_value
returns-in_err-check_value c =
    let told : result_err c.from_residual.result ≡ Some c.in_err-check_value.field-0.0 = search rules in
    told
    ∙ sym (c.loop-index.invariant
    ∙ keys_fail c.args.place (table_view c.args.table.now) c.args.keys.now c.loop-index.index _ _ _ c.loop-index-test.true c.lookup.ensures c.in_err-check_value.ensures)

pub returns : goal.returns
returns c =
    sym (c.loop-index.invariant ∙ keys_end c.args.place (table_view c.args.table.now) c.args.keys.now c.loop-index.index c.loop-index-test.false)
