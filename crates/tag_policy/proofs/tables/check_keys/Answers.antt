use Rattle.std.proofs.Common.{◌≡◌, Some, true, false, ap}
use Rattle.toml.specs.View.{table_view}
use Rattle.tag_policy.specs.Grammar.{has_other_key}
use Rattle.tag_policy.specs.ReadForms.{names_of}
use Rattle.tag_policy.proofs.KeyTests.{other_known}
use Rattle.tag_policy.proofs.tables.check_keys.Goals as goal

pub returns-then-has_unknown_key : goal.returns-then-has_unknown_key
returns-then-has_unknown_key c =
    let other : has_other_key (names_of c.args.keys.now) (table_view c.args.table.now) ≡ true =
    other_known c.args.keys.now c.args.table.now.entries _ true c.has_unknown_key.ensures c.if-has_unknown_key.true in
    rw other (ap Some c.bad.ensures)

pub returns : goal.returns
returns c =
    let other : has_other_key (names_of c.args.keys.now) (table_view c.args.table.now) ≡ false =
    other_known c.args.keys.now c.args.table.now.entries _ false c.has_unknown_key.ensures c.if-has_unknown_key.false in
    rw other c.check_values.ensures
