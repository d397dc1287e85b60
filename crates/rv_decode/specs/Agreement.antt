-- The laws of the instruction rows: no word means two instructions, and the computed form gives the instruction that the word means.
use Rattle.std.specs.Prelude.{◌≡◌, ◌↔◌, ℕ, Some}
use Rattle.rv_decode.specs.declared.insn.Insn.{Insn}
use Rattle.rv_decode.specs.Rows.{Means}
use Rattle.rv_decode.specs.Decoded.{decoded}

abbrev pub OneRow : Type 0
OneRow = (w : ℕ) (i j : Insn) → Means w i → Means w j → i ≡ j

abbrev pub RowsAgree : Type 0
RowsAgree = (w : ℕ) (i : Insn) → (decoded w ≡ Some i) ↔ Means w i
