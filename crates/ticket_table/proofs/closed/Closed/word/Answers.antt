use Rattle.std.proofs.Common.{ℕ, List, slice_index, ap, ◌∙◌}
use Rattle.ticket_table.proofs.Places.{index_found}
use Rattle.ticket_table.proofs.closed.Closed.word.Goals as goal

pub returns : goal.returns
returns c = index_found _ c.args.word c.word.result c.word.ensures ∙ ap (λ (words : List ℕ). slice_index words c.args.word) c.self.view_is
