-- Why a file is no image: sixteen tests of its bytes and of the memory that is asked for, and the first of them that applies (System V gABI, "ELF Header" and "Program Header"; RISC-V psABI, "File Header").
use Rattle.std.specs.Prelude.{◌≡◌, ℕ, ◌+◌, ◌*◌, ◌%◌, ◌≤◌, List, [], ◌∷◌, ◌++◌, length, slice_index, Option, Some, None, Bool, false, not, ◌&&◌, ◌||◌, ◌==◌, nat_eq, nat_lt, if◌then◌else◌, codes}
use Rattle.std.specs.List.{list_any, starts_with}
use Rattle.elf_image.specs.Elf.{number_at, has_bits, entry_address, table_offset, header_flags, table_entry_size, table_entries, program_headers, is_load, segments}
use Rattle.elf_image.specs.Layout.{Layout, layout_of, page_of, all_pages, count_below, is_mapped, is_executable_page, end_of_heap}
use Rattle.elf_image.specs.declared.limits.TheConstants.{MOST_PAGES, MOST_CORES, MOST_STACK, MOST_HEAP, ADDRESS_LIMIT}
use Rattle.elf_image.specs.declared.headers.ProgramHeader.{ProgramHeader}
use Rattle.elf_image.specs.declared.segments.Segment.{Segment}
use Rattle.elf_image.specs.declared.fault.ImageFault.{ImageFault}
use Rattle.elf_image.specs.declared.fault.ImageFault.TheVariants.{Short, Magic, Class, ByteOrder, Version, Kind, Machine, Flags, HeaderSize, Dynamic, NoLoad, FileRange, AddressRange, Overlap, TooLarge, Entry, NoMemory}

-- the number of a fault
abbrev pub image_fault_number : ImageFault → ℕ
image_fault_number Short = 1
image_fault_number Magic = 2
image_fault_number Class = 3
image_fault_number ByteOrder = 4
image_fault_number Version = 5
image_fault_number Kind = 6
image_fault_number Machine = 7
image_fault_number Flags = 8
image_fault_number HeaderSize = 9
image_fault_number Dynamic = 10
image_fault_number NoLoad = 11
image_fault_number FileRange = 12
image_fault_number AddressRange = 13
image_fault_number Overlap = 14
image_fault_number TooLarge = 15
image_fault_number Entry = 16
image_fault_number NoMemory = 0

-- and its name, as the code has it
abbrev pub image_fault_name : ImageFault → List ℕ
image_fault_name Short = codes "Short"
image_fault_name Magic = codes "Magic"
image_fault_name Class = codes "Class"
image_fault_name ByteOrder = codes "ByteOrder"
image_fault_name Version = codes "Version"
image_fault_name Kind = codes "Kind"
image_fault_name Machine = codes "Machine"
image_fault_name Flags = codes "Flags"
image_fault_name HeaderSize = codes "HeaderSize"
image_fault_name Dynamic = codes "Dynamic"
image_fault_name NoLoad = codes "NoLoad"
image_fault_name FileRange = codes "FileRange"
image_fault_name AddressRange = codes "AddressRange"
image_fault_name Overlap = codes "Overlap"
image_fault_name TooLarge = codes "TooLarge"
image_fault_name Entry = codes "Entry"
image_fault_name NoMemory = codes "NoMemory"

-- The tests of the bytes that identify an ELF file.
abbrev pub is_short : List ℕ → Bool
is_short bytes = nat_lt (length bytes) 52

abbrev pub has_no_magic : List ℕ → Bool
has_no_magic bytes = not (starts_with nat_eq bytes (0x7f ∷ 0x45 ∷ 0x4c ∷ 0x46 ∷ []))

-- ELFCLASS32, ELFDATA2LSB and EV_CURRENT are 1
abbrev pub is_other_class : List ℕ → Bool
is_other_class bytes = not (slice_index bytes 4 == 1)

abbrev pub is_other_byte_order : List ℕ → Bool
is_other_byte_order bytes = not (slice_index bytes 5 == 1)

abbrev pub is_other_version : List ℕ → Bool
is_other_version bytes = not (slice_index bytes 6 == 1) || not (number_at bytes 20 4 == 1)

-- The tests of the rest of the ELF header. ET_EXEC is 2.
abbrev pub is_no_executable : List ℕ → Bool
is_no_executable bytes = not (number_at bytes 16 2 == 2)

-- EM_RISCV is 243
abbrev pub is_other_machine : List ℕ → Bool
is_other_machine bytes = not (number_at bytes 18 2 == 243)

-- EF_RISCV_RVC is 1, EF_RISCV_FLOAT_ABI 6 and EF_RISCV_RVE 8
abbrev pub has_unsupported_flags : List ℕ → Bool
has_unsupported_flags bytes = has_bits (header_flags bytes) 15

-- more than 64 program headers, or some that have not 32 bytes or pass the end of the file
abbrev pub has_bad_table : List ℕ → Bool
has_bad_table bytes =
    nat_lt 64 (table_entries bytes)
    || (not (table_entries bytes == 0)
    && (not (table_entry_size bytes == 32) || nat_lt (length bytes) (table_offset bytes + 32 * table_entries bytes)))

-- The tests of the program headers. PT_DYNAMIC is 2 and PT_INTERP 3.
abbrev pub is_dynamic : ProgramHeader → Bool
is_dynamic header = (header.kind == 2) || (header.kind == 3)

abbrev pub has_bad_file_range : ℕ → ProgramHeader → Bool
has_bad_file_range size header =
    is_load header
    && (nat_lt header.memory_size header.file_size
    || (nat_lt 0 header.file_size && nat_lt size (header.offset + header.file_size)))

-- the segments and the heap end there or below
abbrev pub address_limit : ℕ
address_limit = ADDRESS_LIMIT

abbrev pub passes_limit : Segment → Bool
passes_limit segment = nat_lt address_limit segment.end

-- whether two segments share a byte of memory, and whether some two of a list do
abbrev pub shares_byte : Segment → Segment → Bool
shares_byte one other = nat_lt one.start other.end && nat_lt other.start one.end

abbrev pub overlaps : List Segment → Bool
overlaps [] = false
overlaps (segment ∷ rest) = list_any (shares_byte segment) rest || overlaps rest

-- The tests of the memory map.
abbrev pub is_too_large : Layout → Bool
is_too_large layout = nat_lt MOST_PAGES (count_below (is_mapped layout) all_pages)

abbrev pub has_bad_entry : Layout → Bool
has_bad_entry layout =
    not (entry_address layout.bytes % 4 == 0)
    || not (is_executable_page layout (page_of (entry_address layout.bytes)))

-- a test's answer with the fault that it finds, and the first fault that is found
pub record Test : Type 0 where
  pub applies : Bool
  pub fault : ImageFault

abbrev pub first_fault : List Test → Option ImageFault
first_fault [] = None
first_fault (test ∷ rest) = if test.applies then Some test.fault else first_fault rest

abbrev pub test : Bool → ImageFault → Test
test applies fault = record { applies = applies; fault = fault }

-- the tests of the bytes that identify an ELF file, and those of the rest of the header
abbrev pub identification_tests : List ℕ → List Test
identification_tests bytes =
    test (is_short bytes) Short
    ∷ test (has_no_magic bytes) Magic
    ∷ test (is_other_class bytes) Class
    ∷ test (is_other_byte_order bytes) ByteOrder
    ∷ test (is_other_version bytes) Version
    ∷ []

abbrev pub header_tests : List ℕ → List Test
header_tests bytes =
    test (is_no_executable bytes) Kind
    ∷ test (is_other_machine bytes) Machine
    ∷ test (has_unsupported_flags bytes) Flags
    ∷ test (has_bad_table bytes) HeaderSize
    ∷ []

-- the tests of the program headers of a file of some size, of the segments that they load and of the heap above them
abbrev pub segment_tests : ℕ → List ProgramHeader → List Segment → ℕ → List Test
segment_tests size headers loaded heap =
    test (list_any is_dynamic headers) Dynamic
    ∷ test (length loaded == 0) NoLoad
    ∷ test (list_any (has_bad_file_range size) headers) FileRange
    ∷ test (list_any passes_limit loaded || nat_lt address_limit (end_of_heap loaded heap)) AddressRange
    ∷ test (overlaps loaded) Overlap
    ∷ []

-- the tests of a file by itself, with the pages of the heap
abbrev pub file_tests : List ℕ → ℕ → List Test
file_tests bytes heap =
    identification_tests bytes
    ++ header_tests bytes
    ++ segment_tests (length bytes) (program_headers bytes) (segments bytes) heap

abbrev pub map_tests : Layout → List Test
map_tests layout = test (is_too_large layout) TooLarge ∷ test (has_bad_entry layout) Entry ∷ []

-- the first test that applies to a file under a count of cores, of stack pages and of heap pages
unfoldable pub image_fault : List ℕ → ℕ → ℕ → ℕ → Option ImageFault
image_fault bytes cores stack heap =
    first_fault (file_tests bytes heap ++ map_tests (layout_of bytes cores stack heap))

-- the numbers of a layout are in their ranges, and no test applies to its file
pub record IsAccepted (layout : Layout) : Type 0 where
  pub some_cores : 1 ≤ layout.cores
  pub most_cores : layout.cores ≤ MOST_CORES
  pub some_stack : 1 ≤ layout.stack
  pub most_stack : layout.stack ≤ MOST_STACK
  pub most_heap : layout.heap ≤ MOST_HEAP
  pub sound : image_fault layout.bytes layout.cores layout.stack layout.heap ≡ None
