use Rattle.std.proofs.Common.{◌≡◌, ℕ, ◌+◌, ◌<◌, arith, length, set, get_or, ap, ◌∙◌}
use Rattle.std.proofs.lemmas.List.{get_or_read}
use Rattle.order_core.specs.Places.{left_at}
use Rattle.order_core.proofs.Merging.{left_at_set}
use Rattle.order_core.proofs.walk.pass_entry.Goals as goal

pub returns-clause-left : goal.returns-clause-left
returns-clause-left c = λ logs.
    let places = c.args.places.now.items in
    let within : c.args.core < length places = omega (arith, c.requires.within) in
    let place : c.index_mut.result.now ≡ get_or places c.args.core 0 = get_or_read places c.args.core _ within c.index_mut.ensures.value 0 in
    ap (λ (n : ℕ). left_at logs (set places c.args.core (n + 1))) place ∙ left_at_set logs places c.args.core within
