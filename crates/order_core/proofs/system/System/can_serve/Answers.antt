use Rattle.std.proofs.Common.{ℕ, List, length, IfSome, sym, subst, arith}
use Rattle.order_core.specs.WordBelow.{IsWordBelow}
use Rattle.order_core.specs.Protocol.{first_of}
use Rattle.order_core.proofs.Made.{first_below}
use Rattle.order_core.proofs.system.System.can_serve.Goals as goal

pub can_serve-requires : goal.can_serve-requires
can_serve-requires c =
    let P : List ℕ → Type 0 = λ served. IfSome (first_of c.index.result.now) (λ queued. IsWordBelow (length served) queued.shape) in
    subst P (sym c.deref.ensures.value) (first_below _ _ _ _ c.self.view_is _ _ c.index.ensures c.self.invariant (omega arith))
