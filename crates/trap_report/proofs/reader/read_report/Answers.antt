use Rattle.std.proofs.Common.{◌∷◌, ◌++◌, [], List, ◌∙◌, arith}
use Rattle.std.proofs.lemmas.Result.{err_from_is_err_and}
use Rattle.trap_report.specs.Reading.{LineKind, Counted, LastLine, Reported, header_kinds, section_kinds, nothing}
use Rattle.trap_report.specs.Walking.{numbers_in}
use Rattle.trap_report.specs.declared.report_line.Section.TheVariants.{Calls, Traps, Ends}
use Rattle.trap_report.proofs.ReadLemmas.{at_first, read_wrong}
use Rattle.trap_report.proofs.reader.read_report.Goals as goal

abbrev after_units : List LineKind
after_units = Counted Calls ∷ Counted Traps ∷ Counted Ends ∷ LastLine ∷ []

pub returns-in_err-read_first-clause-read : goal.returns-in_err-read_first-clause-read
returns-in_err-read_first-clause-read c =
    let p = err_from_is_err_and c.from_residual.result c.from_residual.ensures.1 in
    let start = at_first c.args.bytes.now c.new-lines.result.rest.now c.new-lines.result.taken c.new-lines.ensures.rest c.new-lines.ensures.taken in
    read_wrong _ _ _ c.from_residual.result p.0 _ p.1 p.2 (start) (c.in_err-read_first.ensures nothing (header_kinds ++ section_kinds))

pub returns-in_err-header-clause-read : goal.returns-in_err-header-clause-read
returns-in_err-header-clause-read c =
    let p = err_from_is_err_and c.from_residual-in_err-header.result c.from_residual-in_err-header.ensures.1 in
    let start = at_first c.args.bytes.now c.new-lines.result.rest.now c.new-lines.result.taken c.new-lines.ensures.rest c.new-lines.ensures.taken in
    let first = (c.in_ok-read_first.ensures nothing (header_kinds ++ section_kinds)).leads in
    read_wrong _ _ _ c.from_residual-in_err-header.result p.0 _ p.1 p.2 (start ∙ first) (c.in_err-header.ensures.goes nothing section_kinds)

pub returns-in_err-order-clause-read : goal.returns-in_err-order-clause-read
returns-in_err-order-clause-read c =
    let p = err_from_is_err_and c.from_residual-in_err-order.result c.from_residual-in_err-order.ensures.1 in
    let start = at_first c.args.bytes.now c.new-lines.result.rest.now c.new-lines.result.taken c.new-lines.ensures.rest c.new-lines.ensures.taken in
    let first = (c.in_ok-read_first.ensures nothing (header_kinds ++ section_kinds)).leads in
    let header = (c.in_ok-header.ensures.goes nothing section_kinds).leads in
    read_wrong _ _ _ c.from_residual-in_err-order.result p.0 _ p.1 p.2 (start ∙ first ∙ header) (c.in_err-order.ensures.goes after_units)

pub returns-in_err-read_rest-clause-read : goal.returns-in_err-read_rest-clause-read
returns-in_err-read_rest-clause-read c =
    let p = err_from_is_err_and c.from_residual-in_err-read_rest.result c.from_residual-in_err-read_rest.ensures.1 in
    let start = at_first c.args.bytes.now c.new-lines.result.rest.now c.new-lines.result.taken c.new-lines.ensures.rest c.new-lines.ensures.taken in
    let first = (c.in_ok-read_first.ensures nothing (header_kinds ++ section_kinds)).leads in
    let header = (c.in_ok-header.ensures.goes nothing section_kinds).leads in
    let units = (c.in_ok-order.ensures.goes after_units).leads in
    let told : Reported = record { numbers = numbers_in c.in_ok-header.header; order = c.in_ok-order.order.items } in
    read_wrong _ _ _ c.from_residual-in_err-read_rest.result p.0 _ p.1 p.2 (start ∙ first ∙ header ∙ units) (c.in_err-read_rest.ensures told (omega (arith, c.from.ensures)))

pub returns-clause-read : goal.returns-clause-read
returns-clause-read c =
    let start = at_first c.args.bytes.now c.new-lines.result.rest.now c.new-lines.result.taken c.new-lines.ensures.rest c.new-lines.ensures.taken in
    let first = (c.in_ok-read_first.ensures nothing (header_kinds ++ section_kinds)).leads in
    let header = (c.in_ok-header.ensures.goes nothing section_kinds).leads in
    let units = (c.in_ok-order.ensures.goes after_units).leads in
    let told : Reported = record { numbers = numbers_in c.in_ok-header.header; order = c.in_ok-order.order.items } in
    start ∙ first ∙ header ∙ units ∙ (c.in_ok-read_rest.ensures told (omega (arith, c.from.ensures))).leads
