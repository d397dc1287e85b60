use Rattle.std.proofs.Common.{◌++◌, ◌∙◌, List, ℕ, ap, sym}
use Rattle.run_cli.proofs.MapLemmas.{appended, segments_more, no_segment}
use Rattle.run_cli.proofs.map_text.push_segment_at.Goals as goal

pub returns-clause-text : goal.returns-clause-text
returns-clause-text c front is =
    appended _ _ front _ _ c.push_segment.ensures.text is
    ∙ ap (λ (text : List ℕ). front ++ text) (sym (segments_more c.args.image.now c.args.place _ _ _ c.requires.place (sym c.segment.ensures ∙ c.in-Some.is)))

pub unreachable-requires : goal.unreachable-requires
unreachable-requires c = no_segment c.args.image.now c.args.place c.requires.place (sym c.segment.ensures ∙ c.in_default.is)
