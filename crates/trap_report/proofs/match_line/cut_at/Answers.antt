use Rattle.std.proofs.Common.{sym, ◌∙◌}
use Rattle.trap_report.proofs.MatchLemmas.{cut_found, cut_missing, shorter_behind}
use Rattle.trap_report.proofs.match_line.cut_at.Goals as goal

pub returns-in-Some-clause-parts : goal.returns-in-Some-clause-parts
returns-in-Some-clause-parts c = cut_found c.args.byte c.args.text.now c.in-Some.place (sym c.place_of.ensures ∙ c.in-Some.is)

pub returns-in-Some-clause-shorter : goal.returns-in-Some-clause-shorter
returns-in-Some-clause-shorter c = shorter_behind c.args.byte c.args.text.now c.in-Some.place (sym c.place_of.ensures ∙ c.in-Some.is)

pub returns-in-None-clause-parts : goal.returns-in-None-clause-parts
returns-in-None-clause-parts c = cut_missing c.args.byte c.args.text.now (sym c.place_of.ensures ∙ c.in-None.is)
