-- The rows and the computed form agree, so no word means two instructions.
use Rattle.std.proofs.Common.{◌≡◌, ◌↔◌, ℕ, ◌^◌, ◌<◌, Option, Some, None, IfSome, IsNone, refl, sym, ◌∙◌, subst}
use Rattle.rv_decode.specs.declared.insn.Insn.{Insn}
use Rattle.rv_decode.specs.Rows.{Means}
use Rattle.rv_decode.specs.Decoded.{decoded}
use Rattle.rv_decode.specs.Agreement.{OneRow, RowsAgree}
use Rattle.rv_decode.proofs.Complete.{complete}
use Rattle.rv_decode.specs.Ranges.{Fits}
use Rattle.rv_decode.proofs.InRange.{decoded_fits}
use Rattle.rv_decode.proofs.Sound.{sound}

meant : (w : ℕ) (i : Insn) → decoded w ≡ Some i → Means w i
meant w i e =
    let P : Option Insn → Type 0 = λ o. IfSome o (Means w) in
    subst P e (sound w)

pub rows_agree : RowsAgree
rows_agree w i = (meant w i, complete w i)

pub one_row : OneRow
one_row w i j m n =
    let e : Some i ≡ Some j = sym (complete w i m) ∙ complete w j n in
    cc

-- ---- what holds of an answer that is the computed form

pub answer_rows : (w : ℕ) (o : Option Insn) → o ≡ decoded w → (i : Insn) → (o ≡ Some i) ↔ Means w i
answer_rows w o e i = (λ f. meant w i (sym e ∙ f), λ m. e ∙ complete w i m)

none_by : (w : ℕ) (o : Option Insn) → IfSome o (Means w) → ((i : Insn) → ¬ Means w i) → IsNone o
none_by w None m h = refl
none_by w (Some i) m h = absurd (h i m)

pub answer_nothing : (w : ℕ) (o : Option Insn) → o ≡ decoded w → IsNone o ↔ ((i : Insn) → ¬ Means w i)
answer_nothing w o e =
    let P : Option Insn → Type 0 = λ x. IfSome x (Means w) in
    let only : IsNone o → (i : Insn) → ¬ Means w i = λ n i m. (let f : o ≡ Some i = e ∙ complete w i m in let t : IsNone (Some i) = subst IsNone f n in cc) in
    (only, none_by w o (subst P (sym e) (sound w)))

pub answer_fits : (w : ℕ) (o : Option Insn) → w < 2 ^ 32 → o ≡ decoded w → IfSome o Fits
answer_fits w o h e =
    let P : Option Insn → Type 0 = λ x. IfSome x Fits in
    subst P (sym e) (decoded_fits w h)
