-- The law is a lemma on histories.
use Rattle.ticket_table.proofs.Histories.{numbers_in_order as in_order}
use Rattle.ticket_table.proofs.laws.numbers_in_order.Goals as goal

pub returns : goal.returns
returns c = in_order
