-- What was written of a text that is handed to a sink in pieces.
use Rattle.std.proofs.Common.{◌≡◌, ℕ, ◌+◌, ◌≤◌, min, List, [], ◌∷◌, ◌++◌, length, take, Result, Ok, Err, refl, sym, ap, ◌∙◌, subst, arith, append_assoc, append-nil}
use Rattle.std.specs.Prelude.{OnOk, OnErr}
use Rattle.std.specs.List.{flat_map}
use Rattle.std.specs.Io.KnownBytes.{Appends}
use Rattle.std.proofs.KnownBytes.{Appends-nil, Appends-trans}
use Rattle.std.proofs.lemmas.List.{take_min, take-append-le}
use Rattle.std.proofs.Math.Seq.{take-append-add}
use Rattle.outside.specs.Faults.{Rose}
use Rattle.outside.specs.Sinks.{SinkSeen, Cut, Wrote}
use Rattle.trap_report.specs.Fields.{line_text}
use Rattle.trap_report.specs.Writing.{WroteFront}
use Rattle.trap_report.specs.declared.report_line.ReportLine.{ReportLine}

pub nothing_written : (text rest : List ℕ) (now : SinkSeen) → text ≡ rest → WroteFront text rest now now
nothing_written text rest now h = record { front = []; whole = h; written = record { whole = Appends-nil now.written; count = refl } }

both_written : (first second : List ℕ) (before between now : SinkSeen) → Wrote first before between → Wrote second between now → Wrote (first ++ second) before now
both_written first second before between now w v = record {
  whole = Appends-trans before.written between.written now.written first second w.whole v.whole;
  count = v.count ∙ w.count;
}

-- a further piece of the rest was written
pub piece_written : (text rest piece next : List ℕ) (before between now : SinkSeen) → WroteFront text rest before between → rest ≡ piece ++ next → Wrote piece between now → WroteFront text next before now
piece_written text rest piece next before between now w e v = record {
  front = w.front ++ piece;
  whole = w.whole ∙ ap (λ r. w.front ++ r) e ∙ sym (append_assoc w.front piece next);
  written = both_written w.front piece before between now w.written v;
}

pub all_written : (text rest : List ℕ) (before between now : SinkSeen) → WroteFront text rest before between → Wrote rest between now → Wrote text before now
all_written text rest before between now w v =
    subst (λ (written : List ℕ). Wrote written before now) (sym w.whole) (both_written w.front rest before between now w.written v)

-- the first bytes of a piece after a front are first bytes of the whole
cut_at : (front piece next : List ℕ) (k : ℕ) → front ++ take k piece ≡ take (length front + min k (length piece)) (front ++ (piece ++ next))
cut_at front piece next k =
    let n = min k (length piece) in
    let within : n ≤ length piece = omega arith in
    sym (take-append-add front (piece ++ next) n ∙ ap (λ (xs : List ℕ). front ++ xs) (take-append-le n piece next within ∙ take_min k piece))

-- a write of a further piece failed
pub piece_cut : (text rest piece next : List ℕ) (before between now : SinkSeen) → WroteFront text rest before between → rest ≡ piece ++ next → Cut piece between now → Cut text before now
piece_cut text rest piece next before between now w e cut = record {
  length = length w.front + min cut.length (length piece);
  prefix =
      let all : text ≡ w.front ++ (piece ++ next) = w.whole ∙ ap (λ (r : List ℕ). w.front ++ r) e in
      let same : w.front ++ take cut.length piece ≡ take (length w.front + min cut.length (length piece)) text = cut_at w.front piece next cut.length ∙ ap (take (length w.front + min cut.length (length piece))) (sym all) in
      subst (Appends before.written now.written) same (Appends-trans before.written between.written now.written w.front (take cut.length piece) w.written.whole cut.prefix);
  rose = subst (λ (n : ℕ). Rose n now.faults) w.written.count cut.rose;
}

-- ---- with the lines that are left

-- the block and the lines after it, where the block handed its front on and took the next line
pub line_put : (text block left_over now : List ℕ) (lines next : List ReportLine) (line : ReportLine) (before between after : SinkSeen)
    → WroteFront text (block ++ flat_map line_text lines) before between → lines ≡ line ∷ next → WroteFront block left_over between after → now ≡ left_over ++ line_text line
    → WroteFront text (now ++ flat_map line_text next) before after
line_put text block left_over now lines next line before between after w e h n =
    let parts : block ++ flat_map line_text lines ≡ h.front ++ (now ++ flat_map line_text next) = rw (e, n, h.whole) (simp append_assoc) in
    piece_written text (block ++ flat_map line_text lines) h.front (now ++ flat_map line_text next) before between after w parts h.written

pub end_written : (text block : List ℕ) (lines : List ReportLine) (before between now : SinkSeen) → WroteFront text (block ++ flat_map line_text lines) before between → lines ≡ [] → Wrote block between now → Wrote text before now
end_written text block lines before between now w e v =
    let all : block ++ flat_map line_text lines ≡ block = rw e (append-nil block) in
    all_written text (block ++ flat_map line_text lines) before between now w (subst (λ (written : List ℕ). Wrote written between now) (sym all) v)

-- ---- results

pub on_err : {T E : Type 0} (r : Result T E) (P : Type 0) → P → OnErr r P
on_err (Ok x) P p = tt
on_err (Err e) P p = p

pub on_ok_by : {T E : Type 0} (r : Result T E) (P Q : Type 0) → (P → Q) → OnOk r P → OnOk r Q
on_ok_by (Ok x) P Q f p = f p
on_ok_by (Err e) P Q f p = tt

pub on_err_by : {T E : Type 0} (r : Result T E) (P Q : Type 0) → (P → Q) → OnErr r P → OnErr r Q
on_err_by (Ok x) P Q f p = tt
on_err_by (Err e) P Q f p = f p
