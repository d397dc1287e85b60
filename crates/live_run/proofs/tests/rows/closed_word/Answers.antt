use Rattle.std.proofs.Common.{ap, ◌∙◌, arith}
use Rattle.elf_image.specs.Layout.{words_of}
use Rattle.syscall_drain.specs.Programs.{Program}
use Rattle.live_run.proofs.Readying.{all_linked, all_ready}
use Rattle.live_run.proofs.RunClaims.{memory_may_close, memory_closes, count_of_words}
use Rattle.live_run.proofs.tests.rows.closed_word.Goals as goal

pub finish_all-ends-requires-clause-linked : goal.finish_all-ends-requires-clause-linked
finish_all-ends-requires-clause-linked c = all_linked _ c.parts.invariant

pub close-words-requires : goal.close-words-requires
close-words-requires c =
    let ready = all_ready _ c.parts.invariant c.guest.ensures.ranges _ c.finish_all-ends.ensures in
    memory_may_close _ _ _ _ _ _ ready _ c.into_vec.ensures

pub word-left-requires : goal.word-left-requires
word-left-requires c =
    let ready = all_ready _ c.parts.invariant c.guest.ensures.ranges _ c.finish_all-ends.ensures in
    let count = count_of_words _ _ _ _ _ _ ready _ _ (memory_closes _ _ _ _ _ _ ready _ c.into_vec.ensures _ _ c.close-words.ensures.1) in
    let words = c.words.ensures ∙ ap words_of (c.image.ensures ∙ ap (λ (p : Program). p.layout) c.guest.ensures.guest) in
    omega (arith, c.if-word-words.false, words, count)
