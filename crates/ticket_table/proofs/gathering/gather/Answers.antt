use Rattle.std.proofs.Common.{◌∙◌, ap, subst}
use Rattle.ticket_table.specs.Rule.{basis_of}
use Rattle.ticket_table.specs.Views.{IsAlone}
use Rattle.ticket_table.specs.Passes.{PassSeen}
use Rattle.ticket_table.proofs.Sharing.{joins}
use Rattle.ticket_table.proofs.JoinedPasses.{last_stands, starts_so, stands_there, joins_so}
use Rattle.ticket_table.proofs.gathering.gather.Goals as goal

pub loop-pass-init : goal.loop-pass-init
loop-pass-init c =
    let last = c.in-Some.last in
    let ps = c.args.passes.items in
    let so_far = starts_so ps c.pop.new.self.items last c.last.inside.seat.me.0 c.in-Some.ensures.items
    (subst (λ (p : PassSeen). IsAlone c.last.inside.seat.me.0 p.caller) c.last.view_is c.last.invariant.1) (ap (λ p. p.changes) c.last.view_is) in
    record { table = ap (λ p. p.table) c.last.view_is ∙ c.requires.passes.0.same _ last (last_stands ps c.pop.new.self.items last c.in-Some.ensures.items); so_far = so_far }

pub join_seat-requires : goal.join_seat-requires
join_seat-requires c =
    let pass = c.in-Some-pop.pass in
    let here = stands_there c.args.passes.items c.loop-pass.passes.items c.pop-in-loop-pass.new.self.items pass c.loop-pass.seat.me.0 c.loop-pass.invariant.so_far c.in-Some-pop.ensures.items in (
      c.loop-pass.invariant.table,
      ap (λ p. p.table) c.pass.view_is ∙ c.requires.passes.0.same _ pass here,
      c.pass.invariant.0,
      c.requires.place,
      joins (basis_of c.args.shared.now.key) c.loop-pass.seat.id c.loop-pass.seat.me.0 c.pass.inside.seat.id c.pass.inside.seat.me.0 ((c.loop-pass.invariant.so_far).behind).live,
    )

pub loop-pass-preserved : goal.loop-pass-preserved
loop-pass-preserved c =
    let pass = c.in-Some-pop.pass in
    let w = c.pass.inside.seat.me.0 in
    let joined = c.join_seat.ensures in
    record {
      table = joined.0 ∙ c.loop-pass.invariant.table;
      so_far = joins_so c.args.shared.now.table_id c.args.passes.items c.loop-pass.passes.items c.pop-in-loop-pass.new.self.items pass c.loop-pass.seat.me.0 w c.join_seat.new.seat.me.0
          c.requires.passes.0 c.loop-pass.invariant.so_far c.in-Some-pop.ensures.items
          (subst (λ (p : PassSeen). IsAlone w p.caller) c.pass.view_is c.pass.invariant.1) (ap (λ p. p.changes) c.pass.view_is) (ap (λ m. m.0) joined.2);
    }
