use Rattle.ticket_table.specs.Rule.{basis_of}
use Rattle.ticket_table.proofs.Reading.{counts}
use Rattle.ticket_table.proofs.steps.look.Goals as goal

pub fetch_add-found-requires : goal.fetch_add-found-requires
fetch_add-found-requires c =
    let shared = c.args.shared.now in (
      c.requires.place.0,
      c.requires.place.1,
      counts (basis_of shared.key) shared.table_id.slots c.args.seat.now.id c.args.word c.args.seat.now.me c.requires.place.2 c.requires.alone c.requires.terms.0 c.requires.terms.1 c.requires.unspent,
    )
