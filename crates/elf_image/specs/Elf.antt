-- The header and the program headers of a 32-bit little-endian ELF file, as numbers read out of its bytes (System V gABI, "ELF Header" and "Program Header"; RISC-V psABI, "File Header").
use Rattle.std.specs.Prelude.{ℕ, ◌+◌, ◌*◌, List, map, drop, filter, Bool, ◌&&◌, ◌==◌, nat_lt, bit_and, not}
use Rattle.std.specs.List.{range_with_len}
use Rattle.byteorder.specs.Endian.{little_number}
use Rattle.elf_image.specs.declared.headers.ProgramHeader.{ProgramHeader}
use Rattle.elf_image.specs.declared.segments.Segment.{Segment}

-- the little-endian number in the `size` bytes from a place of the file
abbrev pub number_at : List ℕ → ℕ → ℕ → ℕ
number_at bytes place size = little_number size (drop place bytes)

-- whether a number has one of the bits of a mask set
abbrev pub has_bits : ℕ → ℕ → Bool
has_bits flags mask = not (bit_and flags mask == 0)

-- e_entry, e_phoff, e_flags, e_phentsize and e_phnum
abbrev pub entry_address : List ℕ → ℕ
entry_address bytes = number_at bytes 24 4

abbrev pub table_offset : List ℕ → ℕ
table_offset bytes = number_at bytes 28 4

abbrev pub header_flags : List ℕ → ℕ
header_flags bytes = number_at bytes 36 4

abbrev pub table_entry_size : List ℕ → ℕ
table_entry_size bytes = number_at bytes 42 2

abbrev pub table_entries : List ℕ → ℕ
table_entries bytes = number_at bytes 44 2

-- the program header whose 32 bytes begin at a place: p_type, p_offset, p_vaddr, p_filesz, p_memsz and p_flags
abbrev pub header_at : List ℕ → ℕ → ProgramHeader
header_at bytes place = record {
  kind = number_at bytes place 4;
  offset = number_at bytes (place + 4) 4;
  address = number_at bytes (place + 8) 4;
  file_size = number_at bytes (place + 16) 4;
  memory_size = number_at bytes (place + 20) 4;
  flags = number_at bytes (place + 24) 4;
}

-- the program headers, in file order
unfoldable pub program_headers : List ℕ → List ProgramHeader
program_headers bytes =
    map (λ k. header_at bytes (table_offset bytes + 32 * k)) (range_with_len 0 (table_entries bytes))

-- whether a header is PT_LOAD, and whether it is one that takes memory
abbrev pub is_load : ProgramHeader → Bool
is_load header = header.kind == 1

abbrev pub takes_memory : ProgramHeader → Bool
takes_memory header = is_load header && nat_lt 0 header.memory_size

-- what a header loads
abbrev pub segment_of : ProgramHeader → Segment
segment_of header = record {
  start = header.address;
  end = header.address + header.memory_size;
  flags = header.flags;
  offset = header.offset;
  file_size = header.file_size;
}

-- the segments that headers load, and those of a file, in file order
abbrev pub segments_of : List ProgramHeader → List Segment
segments_of headers = map segment_of (filter takes_memory headers)

unfoldable pub segments : List ℕ → List Segment
segments bytes = segments_of (program_headers bytes)

-- PF_X and PF_W
abbrev pub may_execute : Segment → Bool
may_execute segment = has_bits segment.flags 1

abbrev pub may_write : Segment → Bool
may_write segment = has_bits segment.flags 2
