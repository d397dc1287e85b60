use Rattle.std.proofs.Common.{◌++◌, List, ℕ, refl, sym, ap, ◌∙◌, subst}
use Rattle.std.specs.List.{flat_map}
use Rattle.outside.specs.Sinks.{Cut}
use Rattle.inline_tracker.specs.Seen.{FinishedSeen}
use Rattle.trap_report.specs.Fields.{line_text}
use Rattle.trap_report.specs.Left.{IsTakenAt, left}
use Rattle.trap_report.specs.declared.place.LinePlace.{LinePlace}
use Rattle.trap_report.proofs.LeftLemmas.{text_lines}
use Rattle.trap_report.proofs.RunLemmas.{told, none_taken}
use Rattle.trap_report.proofs.WriteLemmas.{nothing_written, line_put, piece_cut, on_err, on_err_by}
use Rattle.trap_report.proofs.writer.write_report.Goals as goal

pub loop-line-init : goal.loop-line-init
loop-line-init g c =
    let setup = c.args.setup.now in
    let run = c.args.finished.now.run in
    let rewound = c.rewind.new.self in
    let same = ap (λ (f : FinishedSeen). f.run) c.rewind.ensures in
    let start = c.new-cursor.ensures.place in
    let P : LinePlace → Type 0 = λ place. IsTakenAt setup rewound place c.new-cursor.result.taken in record {
      written = nothing_written _ _ _ (
          text_lines setup run.order
          ∙ ap (λ (place : LinePlace). flat_map line_text (left setup run place)) (sym start)
          ∙ ap (λ (block : List ℕ). block ++ flat_map line_text (left setup run c.new-cursor.result.place)) (sym c.new-block.ensures)
          );
      same = same;
      taken = subst P (sym start) (none_taken setup rewound c.new-cursor.result.taken 256 refl c.new-cursor.ensures.taken (ap (λ (f : FinishedSeen). f.given) c.rewind.ensures) (rw same (told setup run c.requires)));
    }

pub next_line-requires-clause-told : goal.next_line-requires-clause-told
next_line-requires-clause-told g c = rw c.loop-line.invariant.same (told c.args.setup.now c.args.finished.now.run c.requires)

pub loop-line-preserved : goal.loop-line-preserved
loop-line-preserved g c = record {
  written = line_put _ _ _ _ _ _ _ _ _ _ c.loop-line.invariant.written (rw c.loop-line.invariant.same at c.in-Some.ensures.line) c.in_ok-make_room.ensures.handed c.push_line.ensures;
  same = c.in-Some.ensures.same ∙ c.loop-line.invariant.same;
  taken = c.in-Some.ensures.taken;
}

pub returns-in_err-make_room-clause-cut : goal.returns-in_err-make_room-clause-cut
returns-in_err-make_room-clause-cut g c =
    on_err c.from_residual.result _ (piece_cut _ _ _ _ _ _ _ c.loop-line.invariant.written refl c.in_err-make_room.ensures.cut)

pub returns-clause-cut : goal.returns-clause-cut
returns-clause-cut g c =
    on_err_by c.write_block.result _ _ (λ (cut : Cut _ _ _). piece_cut _ _ _ _ _ _ _ c.loop-line.invariant.written refl cut) c.write_block.ensures.cut
