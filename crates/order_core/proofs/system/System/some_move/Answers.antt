use Rattle.std.proofs.Common.{sym, ◌∙◌, arith}
use Rattle.order_core.proofs.Rest.{protocol_few, none_rest, none_settled}
use Rattle.order_core.proofs.Made.{find_more, some_move_found, some_move_none, value_protocol}
use Rattle.order_core.proofs.system.System.some_move.Goals as goal

pub overflow_cast-core : goal.overflow_cast-core
overflow_cast-core c = omega (arith, protocol_few _ c.self.invariant)

pub returns-in-Some-clause-first : goal.returns-in-Some-clause-first
returns-in-Some-clause-first c =
    some_move_found _ _ _ _ c.self.view_is c.loop-core.core c.in-Some.step c.loop-core.invariant c.in-Some.ensures (omega arith)

pub returns-in-Some-clause-none : goal.returns-in-Some-clause-none
returns-in-Some-clause-none c =
    let found = some_move_found _ _ _ _ c.self.view_is c.loop-core.core c.in-Some.step c.loop-core.invariant c.in-Some.ensures (omega arith) in
    let protocol = value_protocol _ _ _ _ c.self.view_is c.self.invariant in
    (λ e. (none_rest c.args.self.now protocol).0 (sym found ∙ e), λ h. found ∙ (none_rest c.args.self.now protocol).1 h)

pub loop-core-preserved : goal.loop-core-preserved
loop-core-preserved c = find_more c.args.self.now c.loop-core.core c.loop-core.invariant (sym c.in_default.ensures)

pub returns-clause-first : goal.returns-clause-first
returns-clause-first c = some_move_none _ _ _ _ c.self.view_is c.loop-core.core c.loop-core.invariant (omega arith)

pub returns-clause-none : goal.returns-clause-none
returns-clause-none c =
    let none = some_move_none _ _ _ _ c.self.view_is c.loop-core.core c.loop-core.invariant (omega arith) in
    let protocol = value_protocol _ _ _ _ c.self.view_is c.self.invariant in
    (λ e. (none_rest c.args.self.now protocol).0 (sym none), λ h. none ∙ (none_rest c.args.self.now protocol).1 h)

pub returns-clause-settled : goal.returns-clause-settled
returns-clause-settled c =
    let none = some_move_none _ _ _ _ c.self.view_is c.loop-core.core c.loop-core.invariant (omega arith) in
    let protocol = value_protocol _ _ _ _ c.self.view_is c.self.invariant in
    λ e. none_settled c.args.self.now protocol (sym none)
