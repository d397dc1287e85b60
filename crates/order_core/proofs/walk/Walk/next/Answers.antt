use Rattle.std.proofs.Common.{◌++◌, option_to_list, sym, ap, subst, vec_len}
use Rattle.order_core.specs.Logs.{logs_of}
use Rattle.order_core.specs.Walk.{WalkSeen}
use Rattle.order_core.specs.Walking.{HasGiven}
use Rattle.order_core.proofs.Stepping.{is_next, given_then}
use Rattle.order_core.proofs.walk.Walk.next.Goals as goal

pub returns-clause-core : goal.returns-clause-core
returns-clause-core c = λ given has.
    let walk = c.self.inside in
    let seen : WalkSeen = record { cores = vec_len walk.places; words = vec_len walk.counts; places = walk.places.items; counts = walk.counts.items; awake = walk.waiting.awake; sets = walk.waiting.sets.items } in
    let P : WalkSeen → Type 0 = λ w. HasGiven w (logs_of c.args.logs.now) given in
    is_next c.args.logs.now seen given (subst P (sym c.self.view_is) has) c.walk_on.result c.walk_on.ensures.least

pub returns-clause-given : goal.returns-clause-given
returns-clause-given c = λ given has.
    let walk = c.self.inside in
    let seen : WalkSeen = record { cores = vec_len walk.places; words = vec_len walk.counts; places = walk.places.items; counts = walk.counts.items; awake = walk.waiting.awake; sets = walk.waiting.sets.items } in
    let new = c.walk_on.new in
    let after : WalkSeen = record { cores = vec_len new.places; words = vec_len new.counts; places = new.places.items; counts = new.counts.items; awake = new.waiting.awake; sets = new.waiting.sets.items } in
    let P : WalkSeen → Type 0 = λ w. HasGiven w (logs_of c.args.logs.now) given in
    let e = c.walk_on.ensures in
    given_then c.args.logs.now seen given (subst P (sym c.self.view_is) has) c.walk_on.result after e.least e.cores e.words e.left e.reached (λ none. let same = e.same none in (ap (λ v. v.items) same.0, ap (λ v. v.items) same.1)) e.waits

pub returns-clause-walking : goal.returns-clause-walking
returns-clause-walking c = (c.requires.0 ++ option_to_list c.walk_on.result, returns-clause-given c c.requires.0 c.requires.1)
