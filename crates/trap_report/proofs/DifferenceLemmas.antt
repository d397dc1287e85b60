-- The first difference of two texts, where one is cut into pieces.
use Rattle.std.proofs.Common.{◌≡◌, ℕ, zero, suc, ◌+◌, ◌-◌, ◌<◌, ◌≤◌, List, [], ◌∷◌, ◌++◌, length, take, drop, None, refl, sym, ap, ◌∙◌, subst, arith, append_assoc, append-nil, length-take-le, length-drop}
use Rattle.std.specs.Prelude.{slice_get}
use Rattle.std.specs.List.{flat_map}
use Rattle.std.proofs.lemmas.List.{take_rest, take-append-drop, take-append-le, take_all}
use Rattle.std.proofs.lemmas.Option.{slice_get_past, slice_get-get_or}
use Rattle.std.proofs.Math.Seq.{take-add, take-append-add}
use Rattle.trap_report.specs.Fields.{line_text}
use Rattle.trap_report.specs.Difference.{DifferFirstAt}
use Rattle.trap_report.specs.declared.report_line.ReportLine.{ReportLine}

slice_get_front : (xs ys : List ℕ) (place : ℕ) → place < length xs → slice_get (xs ++ ys) place ≡ slice_get xs place
slice_get_front [] ys place h = absurd (omega arith)
slice_get_front (x ∷ xs) ys zero h = refl
slice_get_front (x ∷ xs) ys (suc place) h = slice_get_front xs ys place (omega arith)

slice_get_behind : (xs ys : List ℕ) (place : ℕ) → slice_get (xs ++ ys) (length xs + place) ≡ slice_get ys place
slice_get_behind [] ys place = let none : 0 + place ≡ place = omega arith in ap (slice_get ys) none
slice_get_behind (x ∷ xs) ys place =
    let next : suc (length xs) + place ≡ suc (length xs + place) = omega arith in
    ap (slice_get (x ∷ (xs ++ ys))) next ∙ slice_get_behind xs ys place

-- behind the same front
differ_behind : (front text other : List ℕ) (place : ℕ) → DifferFirstAt place text other → DifferFirstAt (length front + place) (front ++ text) (front ++ other)
differ_behind front text other place d = record {
  same = take-append-add front text place ∙ ap (λ xs. front ++ xs) d.same ∙ sym (take-append-add front other place);
  differ = λ e. d.differ (sym (slice_get_behind front text place) ∙ e ∙ slice_get_behind front other place);
}

-- within a piece, whatever follows the piece
differ_within : (piece rest other : List ℕ) (place : ℕ) → place < length piece → DifferFirstAt place piece other → DifferFirstAt place (piece ++ rest) other
differ_within piece rest other place h d = record {
  same = take-append-le place piece rest (omega arith) ∙ d.same;
  differ = λ e. d.differ (sym (slice_get_front piece rest place h) ∙ e);
}

pub differ_on : (at place : ℕ) (text bytes piece : List ℕ) (lines next : List ReportLine) (line : ReportLine) → at ≤ length bytes
    → text ≡ take at bytes ++ flat_map line_text lines → lines ≡ line ∷ next → piece ≡ line_text line
    → (place < length piece) × DifferFirstAt place piece (take (length bytes - at) (drop at bytes)) → DifferFirstAt (at + place) text bytes
differ_on at place text bytes piece lines next line w t l p d =
    let front : length (take at bytes) ≡ at = length-take-le at bytes w in
    let rest : take (length bytes - at) (drop at bytes) ≡ drop at bytes = take_rest bytes at in
    let all : text ≡ take at bytes ++ (piece ++ flat_map line_text next) = rw (t, l, p) refl in
    let within = differ_within piece (flat_map line_text next) (drop at bytes) place d.0 (subst (DifferFirstAt place piece) rest d.1) in
    let found = differ_behind (take at bytes) (piece ++ flat_map line_text next) (drop at bytes) place within in
    let here : DifferFirstAt (length (take at bytes) + place) text (take at bytes ++ drop at bytes) = rw all found in
    let there : DifferFirstAt (at + place) text (take at bytes ++ drop at bytes) = subst (λ (n : ℕ). DifferFirstAt (n + place) text (take at bytes ++ drop at bytes)) front here in
    subst (λ (xs : List ℕ). DifferFirstAt (at + place) text xs) (take-append-drop at bytes) there

-- the bytes go on with a piece
pub same_on : (at more : ℕ) (text bytes piece : List ℕ) (lines next : List ReportLine) (line : ReportLine) → at ≤ length bytes
    → text ≡ take at bytes ++ flat_map line_text lines → lines ≡ line ∷ next → piece ≡ line_text line → more ≡ length piece
    → (length piece ≤ length (take (length bytes - at) (drop at bytes))) × (piece ≡ take (length piece) (take (length bytes - at) (drop at bytes)))
    → (at + more ≤ length bytes) × (text ≡ take (at + more) bytes ++ flat_map line_text next)
same_on at more text bytes piece lines next line w t l p m s =
    let rest : take (length bytes - at) (drop at bytes) ≡ drop at bytes = take_rest bytes at in
    let long : length (take (length bytes - at) (drop at bytes)) ≡ length bytes - at = ap length rest ∙ length-drop at bytes in
    let here : piece ≡ take more (drop at bytes) = s.1 ∙ ap (take (length piece)) rest ∙ ap (λ (n : ℕ). take n (drop at bytes)) (sym m) in
    let all : text ≡ take at bytes ++ (piece ++ flat_map line_text next) = rw (t, l, p) refl in (
      omega (arith, s.0, long),
      all ∙ sym (append_assoc (take at bytes) piece (flat_map line_text next))
          ∙ ap (λ (xs : List ℕ). xs ++ flat_map line_text next) (ap (λ (xs : List ℕ). take at bytes ++ xs) here ∙ sym (take-add at more bytes)),
    )

-- the text is at its end, and the bytes go on
pub differ_after : (at : ℕ) (text bytes : List ℕ) (lines : List ReportLine) → text ≡ take at bytes ++ flat_map line_text lines → lines ≡ [] → at < length bytes → DifferFirstAt at text bytes
differ_after at text bytes lines t l h =
    let all : text ≡ take at bytes = t ∙ rw l (append-nil (take at bytes)) in
    let long : length text ≡ at = ap length all ∙ length-take-le at bytes (omega arith) in
    record {
      same = take_all at text (omega (arith, long)) ∙ all;
      differ = λ e.
          let none : slice_get text at ≡ None = slice_get_past text at (omega (arith, long)) in
          let some = slice_get-get_or bytes at 0 h in
          let no : ⊥ = cc (none, some, e) in no;
    }
