use Rattle.std.proofs.Common.{refl, replicate, ap, ap₂, ◌∙◌}
use Rattle.bounded_list.specs.Bounded.{Bounded}
use Rattle.ticket_table.specs.Words.{payload_of}
use Rattle.live_run.specs.declared.ends.Ends.{Ends}
use Rattle.live_run.specs.Laying.{laid, pieces_of}
use Rattle.live_run.proofs.RunClaims.{memory_may_close, tags_may_close, memory_closes, tags_close, word_within, size_fits, are_layable}
use Rattle.live_run.proofs.ClosedRun.{closed_run}
use Rattle.live_run.proofs.closing.close_run.Goals as goal

pub close-words-requires : goal.close-words-requires
close-words-requires c = memory_may_close _ _ _ _ _ _ c.requires.2 _ c.into_vec.ensures

pub close-requires : goal.close-requires
close-requires c = tags_may_close _ _ _ _ _ _ c.requires.2 _ c.into_vec-2.ensures

pub word-requires : goal.word-requires
word-requires c =
    word_within _ _ _ _ _ _ c.requires.2 _ _ (memory_closes _ _ _ _ _ _ c.requires.2 _ c.into_vec.ensures _ _ c.close-words.ensures.1)

pub lay_out-requires-clause-room : goal.lay_out-requires-clause-room
lay_out-requires-clause-room c =
    rw (c.payload.ensures, c.word.ensures)
    (size_fits _ _ _ _ _ _ c.requires.2 _ _ (memory_closes _ _ _ _ _ _ c.requires.2 _ c.into_vec.ensures _ _ c.close-words.ensures.1))

pub lay_out-requires-clause-claims : goal.lay_out-requires-clause-claims
lay_out-requires-clause-claims c =
    rw (c.payload.ensures, c.word.ensures, c.as_slice.ensures.items, ap (λ (e : Ends). e.claims.items) (c.requires.2).ends_are)
    (are_layable _ _ _ _ _ _ c.requires.2 _ _ (memory_closes _ _ _ _ _ _ c.requires.2 _ c.into_vec.ensures _ _ c.close-words.ensures.1))

pub returns : goal.returns
returns c s pairs ready =
    let out = ap (λ (o : Bounded _). o.items) c.lay_out.ensures
    ∙ ap₂ (λ size claims. laid (replicate size 0) (pieces_of claims)) (c.payload.ensures ∙ ap payload_of c.word.ensures) (c.as_slice.ensures.items ∙ ap (λ (e : Ends). e.claims.items) ready.ends_are) in
    closed_run s pairs _ _ _ _ ready _ _ (memory_closes _ _ _ _ _ _ ready _ c.into_vec.ensures _ _ c.close-words.ensures.1)
    _ _ (tags_close _ _ _ _ _ _ ready _ c.into_vec-2.ensures _ _ c.close.ensures.1) _ refl refl out
