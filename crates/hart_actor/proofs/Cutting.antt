-- Bytes put behind others, with their place and length behind the others', are one piece more.
use Rattle.std.proofs.Common.{◌≡◌, ℕ, ◌+◌, ◌≤◌, List, [], ◌∷◌, ◌++◌, Option, Some, None, length, take, drop, refl, sym, ap, ap₂, ◌∙◌, arith, append-nil, length-drop}
use Rattle.std.proofs.lemmas.List.{take-append-le, drop-append-le, take_all}
use Rattle.syscall_drain.specs.Pieces.{Piece, piece_at, bytes_placed}
use Rattle.hart_actor.specs.Harts.{cut, cut_length, size_placed}

pub cut_length_more : (pieces : List (ℕ × ℕ)) (place : Option ℕ) (more : List ℕ) → cut_length (pieces ++ size_placed place more) ≡ cut_length pieces + length (bytes_placed place more)
unfolding cut_length
cut_length_more [] None more = refl
cut_length_more [] (Some place) more = omega arith
cut_length_more (piece ∷ rest) place more = omega (arith, cut_length_more rest place more)

cut_one_more : (pieces : List (ℕ × ℕ)) (bytes : List ℕ) (place : ℕ) (more : List ℕ) → cut_length pieces ≡ length bytes
    → cut (pieces ++ (place, length more) ∷ []) (bytes ++ more) ≡ cut pieces bytes ++ record { place = place; bytes = more } ∷ []
unfolding cut cut_length
cut_one_more [] [] place more whole = ap (λ (bytes : List ℕ). record { place = place; bytes = bytes } ∷ []) (take_all (length more) more (omega arith))
cut_one_more [] (byte ∷ bytes) place more whole = absurd (omega (arith, whole))
cut_one_more (piece ∷ rest) bytes place more whole =
    let within : piece.1 ≤ length bytes = omega (arith, whole) in
    let left : cut_length rest ≡ length (drop piece.1 bytes) = omega (arith, whole, length-drop piece.1 bytes) in
    ap₂ (λ (here later : List ℕ). record { place = piece.0; bytes = here } ∷ cut (rest ++ (place, length more) ∷ []) later) (take-append-le piece.1 bytes more within) (drop-append-le piece.1 bytes more within)
    ∙ ap (λ (pieces : List Piece). record { place = piece.0; bytes = take piece.1 bytes } ∷ pieces) (cut_one_more rest (drop piece.1 bytes) place more left)

pub cut_more : (pieces : List (ℕ × ℕ)) (bytes : List ℕ) (place : Option ℕ) (more : List ℕ) → cut_length pieces ≡ length bytes
    → cut (pieces ++ size_placed place more) (bytes ++ bytes_placed place more) ≡ cut pieces bytes ++ piece_at place more
cut_more pieces bytes None more whole = ap₂ cut (append-nil pieces) (append-nil bytes) ∙ sym (append-nil (cut pieces bytes))
cut_more pieces bytes (Some place) more whole = cut_one_more pieces bytes place more whole
