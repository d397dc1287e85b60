use Rattle.std.proofs.Common.{◌≡◌, ℕ, ◌+◌, ◌<◌, arith, set, ap, ◌∙◌, length, get_or}
use Rattle.std.proofs.lemmas.List.{get_or_read}
use Rattle.order_core.specs.Logs.{logs_of}
use Rattle.order_core.specs.Places.{left_at}
use Rattle.order_core.proofs.Merging.{touches_below_item, left_at_set}
use Rattle.order_core.proofs.merge_room.give_next.Goals as goal

pub raise_count-requires-clause-below : goal.raise_count-requires-clause-below
raise_count-requires-clause-below c =
    c.next_entry-entry.ensures.touches _ (touches_below_item _ c.args.logs.now _ _ c.requires.words c.in_ok-core.ensures.within c.index-logs-core.is)

pub returns-clause-left : goal.returns-clause-left
returns-clause-left c =
    let places = c.args.places.now.items in
    let core = c.in_ok-core.core in
    let within : core < length places = omega (arith, c.in_ok-core.ensures.within) in
    let place : c.index_mut.result.now ≡ get_or places core 0 = get_or_read places core _ within c.index_mut.ensures.value 0 in
    ap (λ (n : ℕ). left_at (logs_of c.args.logs.now) (set places core (n + 1))) place ∙ left_at_set (logs_of c.args.logs.now) places core within
