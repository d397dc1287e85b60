use Rattle.std.proofs.Common.{vec_len, length, ◌≤◌, ap, ◌∙◌, arith}
use Rattle.std.proofs.lemmas.List.{length-replicate}
use Rattle.order_core.specs.Walk.{WalkSeen}
use Rattle.order_core.proofs.Stepping.{starts}
use Rattle.order_core.proofs.walk.Walk.create.Goals as goal

pub returns-clause-start : goal.returns-clause-start
returns-clause-start c =
    let places = c.in_ok-places.places in
    let counts = c.in_ok-counts.counts in
    let waiting = c.in_ok-waiting.waiting in
    let seen : WalkSeen = record { cores = vec_len places; words = vec_len counts; places = places.items; counts = counts.items; awake = waiting.awake; sets = waiting.sets.items } in
    let few : vec_len places ≤ 32 = (let long = ap length c.in_ok-places.ensures ∙ length-replicate c.args.cores 0 in omega (arith, places.ok, c.requires)) in
    starts seen c.args.cores c.args.words few c.in_ok-places.ensures c.in_ok-counts.ensures c.in_ok-waiting.ensures.awake
