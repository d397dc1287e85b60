-- Lemmas on the first fault of a list of tests.
use Rattle.std.proofs.Common.{◌≡◌, ℕ, List, [], ◌∷◌, ◌++◌, Option, Some, None, Bool, true, false, if◌then◌else◌, refl, sym, ◌∙◌, ap, length, ◌≤◌}
use Rattle.std.proofs.lemmas.Bool.{ltb-false}
use Rattle.elf_image.specs.ImageFault.{Test, first_fault, file_tests, identification_tests, header_tests, segment_tests, is_short, is_no_executable, is_other_machine, has_unsupported_flags, has_bad_table}
use Rattle.elf_image.specs.Elf.{program_headers, segments}
use Rattle.elf_image.specs.declared.fault.ImageFault.{ImageFault}
use Rattle.elf_image.specs.declared.headers.ProgramHeader.{ProgramHeader}
use Rattle.elf_image.specs.declared.segments.Segment.{Segment}

-- where no fault is found the first test does not apply
cond_none : (applies : Bool) (fault : ImageFault) (rest : Option ImageFault) → (if applies then Some fault else rest) ≡ None → (applies ≡ false) × (rest ≡ None)
cond_none true fault rest none = cc
cond_none false fault rest none = (refl, none)

-- the first fault of some tests is that of these and further ones
pub first_fault_some : (tests more : List Test) (fault : ImageFault) → first_fault tests ≡ Some fault → first_fault (tests ++ more) ≡ Some fault
first_fault_some [] more fault found = cc
first_fault_some (one ∷ rest) more fault found =
    elim (one.applies) as (λ b. (if b then Some one.fault else first_fault rest) ≡ Some fault → (if b then Some one.fault else first_fault (rest ++ more)) ≡ Some fault) [
      | true ↦ λ here. here
      | false ↦ λ later. first_fault_some rest more fault later
    ] found

-- where none of some tests applies, further ones say
pub first_fault_skip : (tests more : List Test) → first_fault tests ≡ None → first_fault (tests ++ more) ≡ first_fault more
first_fault_skip [] more none = refl
first_fault_skip (one ∷ rest) more none =
    elim (one.applies) as (λ b. (if b then Some one.fault else first_fault rest) ≡ None → (if b then Some one.fault else first_fault (rest ++ more)) ≡ first_fault more) [
      | true ↦ λ here. cc
      | false ↦ λ later. first_fault_skip rest more later
    ] none

-- a file that is identified is not short
pub identified_long : (bytes : List ℕ) → first_fault (identification_tests bytes) ≡ None → 52 ≤ length bytes
identified_long bytes none = let parts = cond_none (is_short bytes) _ _ none in ltb-false _ _ parts.0

-- a good header has a good table
pub header_table : (bytes : List ℕ) → first_fault (header_tests bytes) ≡ None → has_bad_table bytes ≡ false
header_table bytes none =
    let kind = cond_none (is_no_executable bytes) _ _ none in
    let machine = cond_none (is_other_machine bytes) _ _ kind.1 in
    let flags = cond_none (has_unsupported_flags bytes) _ _ machine.1 in
    let table = cond_none (has_bad_table bytes) _ _ flags.1 in
    table.0

-- The first fault of a file, by the stage of its tests that finds it.
pub file_at_identification : (bytes : List ℕ) (heap : ℕ) (fault : ImageFault) → Some fault ≡ first_fault (identification_tests bytes) → first_fault (file_tests bytes heap) ≡ Some fault
file_at_identification bytes heap fault found =
    first_fault_some (identification_tests bytes ++ header_tests bytes) (segment_tests (length bytes) (program_headers bytes) (segments bytes) heap) fault
    (first_fault_some (identification_tests bytes) (header_tests bytes) fault (sym found))

pub file_at_header : (bytes : List ℕ) (heap : ℕ) (fault : ImageFault) → None ≡ first_fault (identification_tests bytes) → Some fault ≡ first_fault (header_tests bytes) → first_fault (file_tests bytes heap) ≡ Some fault
file_at_header bytes heap fault identified found =
    first_fault_some (identification_tests bytes ++ header_tests bytes) (segment_tests (length bytes) (program_headers bytes) (segments bytes) heap) fault
    (first_fault_skip (identification_tests bytes) (header_tests bytes) (sym identified) ∙ sym found)

pub file_at_segments : (bytes : List ℕ) (heap : ℕ) (found : Option ImageFault) (headers : List ProgramHeader) (loaded : List Segment) → None ≡ first_fault (identification_tests bytes) → None ≡ first_fault (header_tests bytes) → headers ≡ program_headers bytes → loaded ≡ segments bytes → found ≡ first_fault (segment_tests (length bytes) headers loaded heap) → first_fault (file_tests bytes heap) ≡ found
file_at_segments bytes heap found headers loaded identified good read kept answer =
    first_fault_skip (identification_tests bytes ++ header_tests bytes) (segment_tests (length bytes) (program_headers bytes) (segments bytes) heap)
    (first_fault_skip (identification_tests bytes) (header_tests bytes) (sym identified) ∙ sym good)
    ∙ ap (λ (hs : List ProgramHeader). first_fault (segment_tests (length bytes) hs (segments bytes) heap)) (sym read)
    ∙ ap (λ (ss : List Segment). first_fault (segment_tests (length bytes) headers ss heap)) (sym kept)
    ∙ sym answer
