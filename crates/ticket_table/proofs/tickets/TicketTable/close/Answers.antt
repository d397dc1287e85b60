use Rattle.std.proofs.Common.{ℕ, List, sym, subst}
use Rattle.std.specs.Slots.{slots_items}
use Rattle.ticket_table.specs.Rule.{basis_of}
use Rattle.ticket_table.specs.Passes.{TableSeen, Closes}
use Rattle.ticket_table.proofs.JoinedPasses.{closes}
use Rattle.ticket_table.proofs.tickets.TicketTable.close.Goals as goal

pub returns : goal.returns
returns c =
    let basis = basis_of c.self.inside.table.shared.key in
    let ps = c.args.passes.items in
    let closed = c.close_with.result in
    let done = closes basis ps (slots_items closed.words) (slots_items closed.slots) c.gather-seat.result.id c.gather-seat.result.me.0 c.close_with.ensures.values.2 c.gather-seat.ensures.1 in
    let P : List ℕ → Type 0 = λ words. Closes basis ps words done.0 in
    let Q : TableSeen → Type 0 = λ t. Closes t.basis ps c.of.result done.0 in
    (done.0, subst Q c.self.view_is (subst P (sym c.of.ensures) done.1))
