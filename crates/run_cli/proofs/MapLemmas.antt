-- The lines of a memory map, one more at a time, and that an accepted image has few segments.
use Rattle.std.proofs.Common.{◌≡◌, ℕ, zero, suc, ◌+◌, ◌<◌, ◌≤◌, List, [], ◌∷◌, ◌++◌, length, take, None, Some, true, false, refl, sym, ap, ◌∙◌, arith, codes, if◌then◌else◌}
use Rattle.std.specs.List.{slice_get, flat_map, range_with_len}
use Rattle.std.specs.Option.{option_map}
use Rattle.std.proofs.Math.Seq.{take-suc}
use Rattle.std.proofs.lemmas.Grind.{flat_map-append}
use Rattle.std.proofs.lemmas.List.{append_assoc}
use Rattle.std.proofs.lemmas.Option.{slice_get-get_or, get_or_from_slice_get}
use Rattle.elf_image.specs.Elf.{segments, program_headers}
use Rattle.elf_image.specs.Layout.{Layout, segment_at}
use Rattle.elf_image.specs.ImageFault.{Test, IsAccepted, first_fault, image_fault, file_tests, identification_tests, header_tests, segment_tests, map_tests}
use Rattle.elf_image.specs.declared.segments.Segment.{Segment}
use Rattle.elf_image.proofs.LoadLemmas.{segments_few}
use Rattle.trap_report.specs.Digits.{hex}
use Rattle.trap_report.specs.Fields.{spelled}
use Rattle.run_cli.specs.MapText.{segment_fields, segment_lines, stack_fields, stack_lines, permission_letters}

none_before : (xs ys : List Test) → first_fault (xs ++ ys) ≡ None → first_fault xs ≡ None
none_before [] ys none = refl
none_before (test ∷ xs) ys none =
    elim test.applies as (λ b. (if b then Some test.fault else first_fault (xs ++ ys)) ≡ None → (if b then Some test.fault else first_fault xs) ≡ None) [
      | true ↦ λ some. some
      | false ↦ λ rest. none_before xs ys rest
    ] none

none_after : (xs ys : List Test) → first_fault (xs ++ ys) ≡ None → first_fault ys ≡ None
none_after [] ys none = none
none_after (test ∷ xs) ys none =
    elim test.applies as (λ b. (if b then Some test.fault else first_fault (xs ++ ys)) ≡ None → first_fault ys ≡ None) [
      | true ↦ λ some. let clash : Some test.fault ≡ None = some in cc
      | false ↦ λ rest. none_after xs ys rest
    ] none

pub few_segments : (image : Layout) → IsAccepted image → length (segments image.bytes) ≤ 64
unfolding image_fault
few_segments image accepted =
    let file : first_fault (file_tests image.bytes image.heap) ≡ None = none_before (file_tests image.bytes image.heap) (map_tests image) accepted.sound in
    let headers : first_fault (identification_tests image.bytes ++ header_tests image.bytes) ≡ None = none_before (identification_tests image.bytes ++ header_tests image.bytes) (segment_tests (length image.bytes) (program_headers image.bytes) (segments image.bytes) image.heap) file in
    segments_few image.bytes (none_after (identification_tests image.bytes) (header_tests image.bytes) headers)

range_more : (a n : ℕ) → range_with_len a (suc n) ≡ range_with_len a n ++ (a + n) ∷ []
range_more a zero = ap (λ (k : ℕ). k ∷ []) (omega arith)
range_more a (suc n) =
    let last : a + 1 + n ≡ a + suc n = omega arith in
    ap (λ (rest : List ℕ). a ∷ rest) (range_more (a + 1) n ∙ ap (λ (k : ℕ). range_with_len (a + 1) n ++ k ∷ []) last)

append_nothing : (xs : List ℕ) → xs ++ [] ≡ xs
append_nothing [] = refl
append_nothing (x ∷ xs) = ap (λ (rest : List ℕ). x ∷ rest) (append_nothing xs)

-- the line of one more core
pub stacks_more : (pages n : ℕ) → stack_lines pages (n + 1) ≡ stack_lines pages n ++ spelled (stack_fields pages n)
stacks_more pages n =
    let same : n + 1 ≡ suc n = omega arith in
    ap (stack_lines pages) same
    ∙ ap (flat_map (λ core. spelled (stack_fields pages core))) (range_more 0 n ∙ ap (λ (k : ℕ). range_with_len 0 n ++ k ∷ []) (omega arith))
    ∙ flat_map-append (λ core. spelled (stack_fields pages core)) (range_with_len 0 n) (n ∷ [])
    ∙ ap (λ (line : List ℕ). stack_lines pages n ++ line) (append_nothing (spelled (stack_fields pages n)))

-- the line of one more segment
next_segment : (loaded : List Segment) (place : ℕ) (segment : Segment) → place < length loaded → slice_get loaded place ≡ Some segment → segment_lines (take (place + 1) loaded) ≡ segment_lines (take place loaded) ++ spelled (segment_fields segment)
next_segment loaded place segment below is =
    let same : place + 1 ≡ suc place = omega arith in
    ap (λ (n : ℕ). segment_lines (take n loaded)) same
    ∙ ap segment_lines (take-suc loaded place segment below)
    ∙ ap (λ (s : Segment). segment_lines (take place loaded ++ s ∷ [])) (get_or_from_slice_get loaded place segment segment is)
    ∙ flat_map-append (λ s. spelled (segment_fields s)) (take place loaded) (segment ∷ [])
    ∙ ap (λ (line : List ℕ). segment_lines (take place loaded) ++ line) (append_nothing (spelled (segment_fields segment)))

one_told : (a b : ℕ × ℕ × ℕ) → Some a ≡ Some b → a ≡ b
one_told a b same = cc

-- a text at the end of others
pub appended : (new old front lines line : List ℕ) → new ≡ old ++ line → old ≡ front ++ lines → new ≡ front ++ (lines ++ line)
appended new old front lines line is was = is ∙ ap (λ (text : List ℕ). text ++ line) was ∙ append_assoc front lines line

pub segments_more : (image : Layout) (place start end flags : ℕ) → place < length (segments image.bytes) → segment_at image place ≡ Some (start, end, flags)
    → segment_lines (take (place + 1) (segments image.bytes)) ≡ segment_lines (take place (segments image.bytes)) ++ spelled (codes "segment" ∷ hex 8 start ∷ hex 8 end ∷ permission_letters flags ∷ [])
unfolding segment_at
segments_more image place start end flags below is =
    elim (slice_get (segments image.bytes) place) as (λ found. slice_get (segments image.bytes) place ≡ found → option_map {U = ℕ × ℕ × ℕ} (λ (s : Segment). (s.start, s.end, s.flags)) found ≡ Some (start, end, flags)
    → segment_lines (take (place + 1) (segments image.bytes)) ≡ segment_lines (take place (segments image.bytes)) ++ spelled (codes "segment" ∷ hex 8 start ∷ hex 8 end ∷ permission_letters flags ∷ [])) [
      | None ↦ λ found none. let clash = none in cc
      | Some segment ↦ λ found some.
          let same = one_told (segment.start, segment.end, segment.flags) (start, end, flags) some in
          let starts : segment.start ≡ start = ap (λ (told : ℕ × ℕ × ℕ). told.0) same in
          let ends : segment.end ≡ end = ap (λ (told : ℕ × ℕ × ℕ). told.1) same in
          let flag : segment.flags ≡ flags = ap (λ (told : ℕ × ℕ × ℕ). told.2) same in
          next_segment (segments image.bytes) place segment below found
          ∙ ap (λ (n : ℕ). segment_lines (take place (segments image.bytes)) ++ spelled (codes "segment" ∷ hex 8 n ∷ hex 8 segment.end ∷ permission_letters segment.flags ∷ [])) starts
          ∙ ap (λ (n : ℕ). segment_lines (take place (segments image.bytes)) ++ spelled (codes "segment" ∷ hex 8 start ∷ hex 8 n ∷ permission_letters segment.flags ∷ [])) ends
          ∙ ap (λ (n : ℕ). segment_lines (take place (segments image.bytes)) ++ spelled (codes "segment" ∷ hex 8 start ∷ hex 8 end ∷ permission_letters n ∷ [])) flag
    ] refl is

pub no_segment : (image : Layout) (place : ℕ) → place < length (segments image.bytes) → segment_at image place ≡ None → ⊥
unfolding segment_at
no_segment image place below none =
    elim (segments image.bytes) as (λ loaded. segments image.bytes ≡ loaded → ⊥) [
      | [] ↦ λ e. let nothing = ap (λ (l : List Segment). length l) e in absurd (omega (arith, below, nothing))
      | first ∷ rest ↦ λ e.
          let found = slice_get-get_or (segments image.bytes) place first below in
          let clash = sym (ap (option_map {U = ℕ × ℕ × ℕ} (λ (s : Segment). (s.start, s.end, s.flags))) found) ∙ none in cc
    ] refl
