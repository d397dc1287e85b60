-- One more header is that of one more place, and at the end all places are done.
use Rattle.std.proofs.Common.{◌≡◌, ◌∙◌, arith}
use Rattle.elf_image.proofs.HeaderLemmas.{headers_more, headers_done}
use Rattle.elf_image.proofs.headers.read_headers.Goals as goal

pub returns : goal.returns
returns c =
    let count : c.loop-k.k ≡ c.table_entries-count.result = omega arith in
    headers_done _ _ _ _ c.loop-k.invariant c.table_offset-offset.ensures.value (count ∙ c.table_entries-count.ensures)

pub loop-k-preserved : goal.loop-k-preserved
loop-k-preserved c = c.in_ok-push.ensures.items ∙ headers_more _ _ _ _ _ _ c.loop-k.invariant c.from.ensures c.read.ensures
