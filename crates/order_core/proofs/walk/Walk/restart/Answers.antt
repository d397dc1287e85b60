use Rattle.std.proofs.Common.{vec_len, length, ◌≤◌, ap, ◌∙◌, arith}
use Rattle.std.proofs.lemmas.List.{length-replicate}
use Rattle.order_core.specs.Walk.{WalkSeen}
use Rattle.order_core.proofs.Stepping.{starts}
use Rattle.order_core.proofs.walk.Walk.restart.Goals as goal

pub returns-clause-start : goal.returns-clause-start
returns-clause-start c =
    let places = c.set_to_zero.new.numbers in
    let counts = c.clear.new.counts in
    let waiting = c.wake_all.new.self in
    let seen : WalkSeen = record { cores = vec_len places; words = vec_len counts; places = places.items; counts = counts.items; awake = waiting.awake; sets = waiting.sets.items } in
    let few : vec_len places ≤ 32 = (let long = ap length c.set_to_zero.ensures ∙ length-replicate (vec_len c.self.inside.places) 0 in omega (arith, places.ok, c.self.invariant.few)) in
    starts seen (vec_len c.self.inside.places) (vec_len c.self.inside.counts) few c.set_to_zero.ensures c.clear.ensures.items c.wake_all.ensures.awake
