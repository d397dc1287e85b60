use Rattle.std.proofs.Common.{ℕ, List, sym, subst}
use Rattle.order_core.specs.declared.entry.Entry.{Entry}
use Rattle.order_core.specs.Logs.{logs_of}
use Rattle.order_core.specs.CanonicalMerge.{left_after}
use Rattle.order_core.specs.Places.{left_at, reached_at}
use Rattle.order_core.specs.Walking.{OthersWait}
use Rattle.order_core.proofs.walk.look_at.Goals as goal

pub returns-in-None-clause-left : goal.returns-in-None-clause-left
returns-in-None-clause-left c = λ _. c.give.ensures.left (logs_of c.args.logs.now)

pub returns-in-None-clause-waits : goal.returns-in-None-clause-waits
returns-in-None-clause-waits c =
    let after = c.give.new.waiting in
    let left : ℕ → List Entry = left_at (logs_of c.args.logs.now) c.args.places.now.items in
    let P : (ℕ → List Entry) → Type 0 = λ left. OthersWait left (reached_at c.give.new.counts.items) after.awake after.sets.items in
    let Q : (ℕ → ℕ) → Type 0 = λ reached. OthersWait (left_after left c.args.core) reached after.awake after.sets.items in
    subst P (sym (c.give.ensures.left (logs_of c.args.logs.now))) (subst Q (sym c.give.ensures.reached) (c.give.ensures.waits left c.requires.waits c.requires.core.1))
