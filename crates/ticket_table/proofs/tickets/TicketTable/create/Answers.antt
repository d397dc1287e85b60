use Rattle.std.proofs.Common.{◌≡◌, ℕ, ◌<◌, List, [], length, get_or, sym, ap, subst, arith}
use Rattle.atomic_table.specs.Table.{opening}
use Rattle.ticket_table.specs.History.{Basis}
use Rattle.ticket_table.specs.Views.{opened}
use Rattle.ticket_table.specs.Rule.{Kept}
use Rattle.ticket_table.proofs.Sharing.{opens}
use Rattle.ticket_table.proofs.tickets.TicketTable.create.Goals as goal

pub of_words-requires : goal.of_words-requires
of_words-requires c =
    let basis : Basis = record { terms = record { role = c.args.role; limit = c.args.limit; callers = c.args.callers }; first = c.in_ok-widened.field-0.items } in
    let is : c.in_ok-widened.field-0.items ≡ c.args.payloads.now = c.in_ok-widened.ensures in
    let small : (word : ℕ) → word < length basis.first → get_or basis.first word 0 < 4294967296 = λ word within. let here : get_or basis.first word 0 ≡ get_or c.args.payloads.now word 0 = ap (λ (xs : List ℕ). get_or xs word 0) is in omega (arith, c.type_inv.payloads word) in
    let P : List ℕ → Type 0 = λ ws. Kept basis (opening ws [] (opened basis)) in
    subst P (sym c.as_slice.ensures.value) (opens basis small)
