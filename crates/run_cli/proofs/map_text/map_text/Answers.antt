use Rattle.std.proofs.Common.{rules}
use Rattle.run_cli.specs.MapText.{map_text}
use Rattle.run_cli.proofs.map_text.map_text.Goals as goal

pub returns : goal.returns
unfolding map_text
returns c = rw (c.push_words.ensures, c.push_stacks.ensures.text, c.push_break.ensures.text, c.push_segments.ensures.text, c.push_entry.ensures.text) (search rules)
