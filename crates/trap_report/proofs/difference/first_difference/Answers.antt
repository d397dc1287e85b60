use Rattle.std.proofs.Common.{◌++◌, length, List, refl, sym, ap, ◌∙◌, subst, arith}
use Rattle.std.specs.List.{flat_map}
use Rattle.inline_tracker.specs.Seen.{FinishedSeen}
use Rattle.trap_report.specs.Fields.{line_text}
use Rattle.trap_report.specs.Left.{IsTakenAt, left}
use Rattle.trap_report.specs.declared.place.LinePlace.{LinePlace}
use Rattle.trap_report.proofs.LeftLemmas.{text_lines}
use Rattle.trap_report.proofs.RunLemmas.{told, none_taken}
use Rattle.trap_report.proofs.DifferenceLemmas.{differ_on, same_on, differ_after}
use Rattle.trap_report.proofs.difference.first_difference.Goals as goal

pub loop-line-init : goal.loop-line-init
loop-line-init c =
    let setup = c.args.setup.now in
    let run = c.args.finished.now.run in
    let rewound = c.rewind.new.self in
    let same_run = ap (λ (f : FinishedSeen). f.run) c.rewind.ensures in
    let start = c.new-cursor.ensures.place in
    let P : LinePlace → Type 0 = λ place. IsTakenAt setup rewound place c.new-cursor.result.taken in record {
      within = omega arith;
      same = text_lines setup run.order ∙ ap (λ (place : LinePlace). flat_map line_text (left setup run place)) (sym start);
      run = same_run;
      taken = subst P (sym start) (none_taken setup rewound c.new-cursor.result.taken 256 refl c.new-cursor.ensures.taken (ap (λ (f : FinishedSeen). f.given) c.rewind.ensures) (rw same_run (told setup run c.requires)));
    }

pub next_line-requires-clause-told : goal.next_line-requires-clause-told
next_line-requires-clause-told c = rw c.loop-line.invariant.run (told c.args.setup.now c.args.finished.now.run c.requires)

pub returns-in-Some-difference_in-clause-first : goal.returns-in-Some-difference_in-clause-first
returns-in-Some-difference_in-clause-first c =
    let piece = c.as_bytes.ensures ∙ c.push_line.ensures ∙ ap (λ (block : List _). block ++ line_text c.in-Some.line) c.clear.ensures in
    let found = c.in-Some-difference_in.ensures in
    differ_on c.loop-line.at c.in-Some-difference_in.place _ c.args.bytes.now c.as_bytes.result.now _ _ c.in-Some.line c.loop-line.invariant.within c.loop-line.invariant.same (rw c.loop-line.invariant.run at c.in-Some.ensures.line) piece (found.0, found.2)

pub loop-line-preserved : goal.loop-line-preserved
loop-line-preserved c =
    let piece = c.as_bytes.ensures ∙ c.push_line.ensures ∙ ap (λ (block : List _). block ++ line_text c.in-Some.line) c.clear.ensures in
    let same = same_on c.loop-line.at c.len-at.result _ c.args.bytes.now c.as_bytes.result.now _ _ c.in-Some.line c.loop-line.invariant.within c.loop-line.invariant.same (rw c.loop-line.invariant.run at c.in-Some.ensures.line) piece (c.len-at.ensures ∙ ap length (sym c.as_bytes.ensures)) c.in_default-difference_in.ensures in record {
      within = same.0;
      same = same.1;
      run = c.in-Some.ensures.same ∙ c.loop-line.invariant.run;
      taken = c.in-Some.ensures.taken;
    }

pub returns-then-at-bytes-clause-first : goal.returns-then-at-bytes-clause-first
returns-then-at-bytes-clause-first c = differ_after c.loop-line.at _ c.args.bytes.now _ c.loop-line.invariant.same (rw c.loop-line.invariant.run at c.in_default.ensures.line) (omega arith)
