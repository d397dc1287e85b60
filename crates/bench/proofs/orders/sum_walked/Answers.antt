use Rattle.std.proofs.Common.{[], sym, ◌∙◌, subst, ℕ}
use Rattle.std.proofs.lemmas.List.{length-map}
use Rattle.order_core.specs.Bounded.{Bounded}
use Rattle.order_core.specs.declared.entry.Entry.{Entry}
use Rattle.order_core.specs.Logs.{logs_of, AllTouchBelow}
use Rattle.bench.proofs.orders.sum_walked.Goals as goal

pub sum_walk-requires : goal.sum_walk-requires
sum_walk-requires c =
    let logs = logs_of c.args.logs.now in
    let size = c.in-Ok.ensures.size in
    let P : ℕ → Type 0 = λ words. AllTouchBelow words logs in
    ([], c.in-Ok.ensures.start logs (record { count = length-map c.args.logs.now (λ (log : Bounded Entry). log.items) ∙ sym size.0; words = subst P (sym size.1) c.requires.words }))
