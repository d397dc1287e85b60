use Rattle.std.proofs.Common.{ℕ, List, ap, sym, subst}
use Rattle.bounded_list.specs.Bounded.{Bounded}
use Rattle.order_core.specs.Logs.{logs_of}
use Rattle.order_core.specs.LegalMerge.{IsLegalOrder}
use Rattle.order_core.specs.CanonicalMerge.{IsCanonicalMerge}
use Rattle.order_core.proofs.CanonicalLaws.{canonical_legal, canonical_least}
use Rattle.order_core.proofs.merge_room.merge.Goals as goal

pub returns-clause-legal : goal.returns-clause-legal
returns-clause-legal c =
    let items = ap (λ (order : Bounded ℕ). order.items) c.fill_order.ensures.order in
    let P : List ℕ → Type 0 = IsLegalOrder (logs_of c.args.logs.now) in
    λ legal. subst P (sym items) (canonical_legal (logs_of c.args.logs.now) legal)

pub returns-clause-least : goal.returns-clause-least
returns-clause-least c =
    let items = ap (λ (order : Bounded ℕ). order.items) c.fill_order.ensures.order in
    let P : List ℕ → Type 0 = IsCanonicalMerge (logs_of c.args.logs.now) in
    λ legal. subst P (sym items) (canonical_least (logs_of c.args.logs.now) legal)
