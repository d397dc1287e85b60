-- Lemmas on the table of program headers.
use Rattle.std.proofs.Common.{◌≡◌, ℕ, ◌+◌, ◌*◌, List, [], ◌∷◌, ◌++◌, map, refl, sym, arith}
use Rattle.std.specs.List.{range_with_len}
use Rattle.std.proofs.lemmas.List.FromFn.{map-range_with_len_more}
use Rattle.elf_image.specs.Elf.{header_at, table_offset, table_entries, program_headers}
use Rattle.elf_image.specs.declared.headers.ProgramHeader.{ProgramHeader}

-- the first k headers, and the next one after them
pub headers_more : (bytes : List ℕ) (offset k n : ℕ) (headers : List ProgramHeader) (header : ProgramHeader) → headers ≡ map (λ i. header_at bytes (offset + 32 * i)) (range_with_len 0 k) → n ≡ k → header ≡ header_at bytes (offset + 32 * n) → headers ++ header ∷ [] ≡ map (λ i. header_at bytes (offset + 32 * i)) (range_with_len 0 (k + 1))
headers_more bytes offset k n headers header so_far same next =
    rw (so_far, next, same) (sym (map-range_with_len_more (λ i. header_at bytes (offset + 32 * i)) 0 k k (omega arith)))

-- all headers of the table
pub headers_done : (bytes : List ℕ) (offset k : ℕ) (headers : List ProgramHeader) → headers ≡ map (λ i. header_at bytes (offset + 32 * i)) (range_with_len 0 k) → offset ≡ table_offset bytes → k ≡ table_entries bytes → headers ≡ program_headers bytes
unfolding program_headers
headers_done bytes offset k headers so_far at_offset at_count = rw (so_far, at_offset, at_count) refl
