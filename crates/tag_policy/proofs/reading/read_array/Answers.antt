use Rattle.std.proofs.Common.{Some, map, sym, ◌∙◌, ap, arith}
use Rattle.toml.specs.View.{view}
use Rattle.tag_policy.proofs.Documents.{items_found, array_many, array_few}
use Rattle.tag_policy.proofs.reading.read_array.Goals as goal

pub returns-then-len-gt4-clause-fault : goal.returns-then-len-gt4-clause-fault
returns-then-len-gt4-clause-fault c =
    ap Some c.bad-then-len-gt4.ensures
    ∙ sym (array_many c.args.found c.in-Some.value c.in-Some-as_array.items.now c.in-Some.is c.in-Some-as_array.ensures (omega (arith, c.len.ensures, c.if-len-gt4.true)))

pub returns-clause-fault : goal.returns-clause-fault
returns-clause-fault c =
    sym (array_few c.args.found c.in-Some.value c.in-Some-as_array.items.now c.in-Some.is c.in-Some-as_array.ensures (omega (arith, c.len.ensures, c.if-len-gt4.false)))

pub returns-clause-items : goal.returns-clause-items
returns-clause-items c =
    ap (map view) c.as_slice.ensures.value
    ∙ items_found c.args.found c.in-Some.value c.in-Some-as_array.items.now c.in-Some.is c.in-Some-as_array.ensures
