use Rattle.std.proofs.Common.{◌∙◌, arith, length-drop}
use Rattle.std.proofs.KnownBytes.{Appends-trans}
use Rattle.std.proofs.Math.Seq.{take-add}
use Rattle.std.proofs.lemmas.List.{take_rest}
use Rattle.outside.proofs.sink.write_whole.Goals as goal

-- the piece that was written stands right after what was written before
pub loop-at-preserved : goal.loop-at-preserved
loop-at-preserved g c =
    let text = c.args.text.now in
    let at = c.loop-at.at in
    let piece = rw take_rest at c.in_ok-at.ensures.bytes in
    record {
      within = omega (arith, rw take_rest at c.in_ok-at.ensures.taken.within, length-drop at text);
      written = rw take-add (Appends-trans _ _ _ _ _ c.loop-at.invariant.written piece);
      count = c.in_ok-at.ensures.cause.kept ∙ c.loop-at.invariant.count;
    }
