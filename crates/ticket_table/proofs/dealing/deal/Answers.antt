use Rattle.std.proofs.Common.{◌∙◌, ◌<◌, ap, arith}
use Rattle.ticket_table.specs.Rule.{basis_of}
use Rattle.ticket_table.proofs.FreshPasses.{splits_first, first_stands_alone, is_alone, not_spent, pass_is, deals}
use Rattle.ticket_table.proofs.dealing.deal.Goals as goal

pub split_seat-requires : goal.split_seat-requires
split_seat-requires c =
    let dealt = c.loop-caller.invariant.dealt in
    let some : 0 < dealt.rest = (let count = dealt.count in omega arith) in (
      c.loop-caller.invariant.table ∙ c.requires.place.0,
      c.requires.place.1,
      splits_first (basis_of c.args.shared.now.key) c.loop-caller.seat.id c.loop-caller.seat.me.0 c.args.seat.me.0.terms c.loop-caller.caller dealt.rest some (ap (λ m. m.0) dealt.stands),
    )

pub invariant_of-pass : goal.invariant_of-pass
invariant_of-pass c =
    let dealt = c.loop-caller.invariant.dealt in
    let some : 0 < dealt.rest = (let count = dealt.count in omega arith) in
    let result = c.split_seat.ensures.4 in
    let terms = c.args.seat.me.0.terms in
    let stands = ap (λ m. m.0) result ∙ first_stands_alone c.loop-caller.seat.me.0 terms c.loop-caller.caller dealt.rest some (ap (λ m. m.0) dealt.stands) in
    (ap (λ m. m.1) result, is_alone c.split_seat.result.me.0 terms c.loop-caller.caller stands, not_spent c.split_seat.result.me.0 terms c.loop-caller.caller stands)

pub loop-caller-preserved : goal.loop-caller-preserved
loop-caller-preserved c =
    let dealt = c.loop-caller.invariant.dealt in
    let some : 0 < dealt.rest = (let count = dealt.count in omega arith) in
    let result = c.split_seat.ensures.4 in
    let terms = c.args.seat.me.0.terms in
    let stands = ap (λ m. m.0) result ∙ first_stands_alone c.loop-caller.seat.me.0 terms c.loop-caller.caller dealt.rest some (ap (λ m. m.0) dealt.stands) in
    record {
      table = c.split_seat.ensures.0 ∙ c.loop-caller.invariant.table;
      dealt = rw c.in-Ok.ensures.items (deals c.args.seat.table_id terms c.args.callers c.loop-caller.caller c.loop-caller.seat.me c.loop-caller.passes.items _ c.loop-caller-test.true dealt
          (pass_is c.split_seat.result.table_id c.args.seat.table_id c.split_seat.result.me.0 terms c.loop-caller.caller (c.split_seat.ensures.3 ∙ c.loop-caller.invariant.table) stands)
          c.split_seat.new.seat.me c.split_seat.ensures.2);
    }
