use Rattle.std.proofs.Common.{◌≡◌, ℕ, length, get_or, arith, rules, ap, ◌∙◌, List}
use Rattle.std.proofs.lemmas.List.{length_push}
use Rattle.bounded_list.specs.Bounded.{Bounded}
use Rattle.order_core.proofs.Giving.{list_gives_more, list_gives_none, list_gives_within, list_gives_full, list_gives_nothing, get_or_zeros, same_list}
use Rattle.order_core.proofs.merge_room.fill_order.Goals as goal

pub entries-init : goal.entries-init
entries-init c =
    let counts = c.args.counts.now.items in
    record {
      giving = list_gives_nothing c.args.logs.now _ _ _ _ _ c.requires.no_places c.requires.no_counts c.requires.empty;
      given = ap length c.requires.empty;
      room = search rules;
      low = λ word. let zero : get_or counts word 0 ≡ 0 = ap (λ (xs : List ℕ). get_or xs word 0) c.requires.no_counts ∙ get_or_zeros _ word in omega arith;
      places = c.requires.cores;
      words = search rules;
    }

pub give_next-requires-clause-low : goal.give_next-requires-clause-low
give_next-requires-clause-low c = λ word. let low = c.entries.invariant.low word in omega arith

pub returns-in_default-clause-order : goal.returns-in_default-clause-order
returns-in_default-clause-order c =
    same_list _ _ (list_gives_none c.args.logs.now _ _ _ c.entries.invariant.giving c.in_default.ensures.least) c.entries.invariant.room

pub push-requires : goal.push-requires
push-requires c =
    let within = list_gives_within c.args.logs.now _ _ _ c.entries.invariant.giving _ c.in-Some.ensures.least in
    omega (arith, c.entries.invariant.room, c.requires.units)

pub entries-preserved : goal.entries-preserved
entries-preserved c =
    let items = ap (λ (order : Bounded ℕ). order.items) c.push.ensures in
    let room = ap (λ (order : Bounded ℕ). order.room) c.push.ensures in
    let e = c.in-Some.ensures in
    let now = c.entries.invariant in
    record {
      giving = rw items (list_gives_more c.args.logs.now _ _ _ now.giving _ _ _ e.least e.left e.reached);
      given = let pushed = length_push c.entries.order.items c.in-Some.core in rw items (omega (arith, now.given));
      room = room ∙ now.room;
      low = λ word. let before = now.low word in let after = e.low word in omega arith;
      places = e.places ∙ now.places;
      words = e.words ∙ now.words;
    }

pub returns-clause-order : goal.returns-clause-order
returns-clause-order c =
    let now = c.entries.invariant in
    same_list _ _ (list_gives_full c.args.logs.now _ _ _ now.giving (omega (arith, now.given, now.room, c.requires.units))) now.room
