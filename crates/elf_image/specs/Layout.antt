-- The memory map of an accepted image: its mapped pages as a set, the number of each word, permissions, first words and first registers
-- (this project's own; the zero bytes behind a segment's bytes in the file as in the System V gABI, "Program Header"; the use of x2, x10 and x11 as in the RISC-V psABI, "Integer Register Convention").
use Rattle.std.specs.Prelude.{ℕ, zero, suc, ◌+◌, ◌*◌, ◌-◌, ◌/◌, ◌%◌, max, List, [], ◌∷◌, slice_get, slice_index, slice_set, replicate, fold, find, map, Option, Some, None, Bool, true, false, ◌&&◌, ◌||◌, ◌==◌, nat_lt, nat_le, if◌then◌else◌}
use Rattle.std.specs.List.{range_with_len, list_any}
use Rattle.std.specs.Option.{option_map}
use Rattle.byteorder.specs.Endian.{little_number}
use Rattle.elf_image.specs.Elf.{segments, entry_address, may_execute, may_write}
use Rattle.elf_image.specs.declared.segments.Segment.{Segment}
use Rattle.elf_image.specs.declared.device.TheConstants.{DEVICE_WORDS}
use Rattle.elf_image.specs.declared.limits.TheConstants.{PAGE_BYTES, PAGE_WORDS, ALL_PAGES}

-- a file with the count of cores, the stack pages of each core and the heap pages
pub record Layout : Type 0 where
  pub bytes : List ℕ
  pub cores : ℕ
  pub stack : ℕ
  pub heap : ℕ

abbrev pub layout_of : List ℕ → ℕ → ℕ → ℕ → Layout
layout_of bytes cores stack heap = record { bytes = bytes; cores = cores; stack = stack; heap = heap }

-- the page of an address, and how many pages memory has
abbrev pub page_of : ℕ → ℕ
page_of address = address / PAGE_BYTES

abbrev pub all_pages : ℕ
all_pages = ALL_PAGES

-- the highest end of a loaded segment
abbrev pub highest_end : List Segment → ℕ
highest_end loaded = fold (λ high segment. max high segment.end) 0 loaded

-- the first page at or above the highest end of the segments, where the heap begins
abbrev pub break_page : List Segment → ℕ
break_page loaded = (highest_end loaded + PAGE_BYTES - 1) / PAGE_BYTES

abbrev pub break_base : Layout → ℕ
break_base layout = PAGE_BYTES * break_page (segments layout.bytes)

-- the address above a heap of some pages
abbrev pub end_of_heap : List Segment → ℕ → ℕ
end_of_heap loaded heap = PAGE_BYTES * break_page loaded + PAGE_BYTES * heap

abbrev pub heap_end : Layout → ℕ
heap_end layout = end_of_heap (segments layout.bytes) layout.heap

-- the address above the stack of a core
abbrev pub stack_top : ℕ → ℕ
stack_top core = 0xF0000000 - core * 0x02000000

-- whether a segment has a byte on a page
abbrev pub touches : ℕ → Segment → Bool
touches page segment = nat_lt segment.start (PAGE_BYTES * page + PAGE_BYTES) && nat_lt (PAGE_BYTES * page) segment.end

-- whether a page is one of the heap, and whether it is one of the stack of a core
abbrev pub is_heap_page : ℕ → ℕ → ℕ → Bool
is_heap_page first count page = nat_le first page && nat_lt page (first + count)

abbrev pub is_stack_page_of : ℕ → ℕ → ℕ → Bool
is_stack_page_of stack page core =
    nat_le (stack_top core) (PAGE_BYTES * page + PAGE_BYTES * stack) && nat_lt (PAGE_BYTES * page) (stack_top core)

abbrev pub is_stack_page : ℕ → ℕ → ℕ → Bool
is_stack_page cores stack page = list_any (is_stack_page_of stack page) (range_with_len 0 cores)

-- whether a page is heap or stack, with the segments given
abbrev pub is_data_page : List Segment → ℕ → ℕ → ℕ → ℕ → Bool
is_data_page loaded cores stack heap page =
    is_heap_page (break_page loaded) heap page || is_stack_page cores stack page

-- the mapped, the writable and the executable pages, with the segments given
abbrev pub maps : List Segment → ℕ → ℕ → ℕ → ℕ → Bool
maps loaded cores stack heap page =
    list_any (touches page) loaded || is_data_page loaded cores stack heap page

abbrev pub writes : List Segment → ℕ → ℕ → ℕ → ℕ → Bool
writes loaded cores stack heap page =
    list_any (λ segment. touches page segment && may_write segment) loaded || is_data_page loaded cores stack heap page

abbrev pub executes : List Segment → ℕ → Bool
executes loaded page = list_any (λ segment. touches page segment && may_execute segment) loaded

unfoldable pub is_mapped : Layout → ℕ → Bool
is_mapped layout = maps (segments layout.bytes) layout.cores layout.stack layout.heap

unfoldable pub is_writable_page : Layout → ℕ → Bool
is_writable_page layout = writes (segments layout.bytes) layout.cores layout.stack layout.heap

unfoldable pub is_executable_page : Layout → ℕ → Bool
is_executable_page layout = executes (segments layout.bytes)

-- how many numbers below n are in a set
unfoldable pub count_below : (ℕ → Bool) → ℕ → ℕ
count_below set zero = 0
count_below set (suc n) = count_below set n + (if set n then 1 else 0)

-- the number that has k numbers of a set from `from` on before it and is in the set, sought among the next `fuel` numbers
unfoldable pub nth_from : (ℕ → Bool) → ℕ → ℕ → ℕ → ℕ
nth_from set zero from k = from
nth_from set (suc fuel) from k =
    elim (set from) [
      | true ↦ elim k [ zero ↦ from | suc j ↦ nth_from set fuel (from + 1) j ]
      | false ↦ nth_from set fuel (from + 1) k
    ]

-- how many words there are: those of the devices, and those of each mapped page
unfoldable pub words_of : Layout → ℕ
words_of layout = DEVICE_WORDS + PAGE_WORDS * count_below (is_mapped layout) all_pages

-- the number of the word that holds an address
unfoldable pub word_of : Layout → ℕ → Option ℕ
word_of layout address =
    if is_mapped layout (page_of address)
    then Some (DEVICE_WORDS + PAGE_WORDS * count_below (is_mapped layout) (page_of address) + address % PAGE_BYTES / 4)
    else None

unfoldable pub is_writable : Layout → ℕ → Bool
is_writable layout address = is_writable_page layout (page_of address)

-- whether the file has the byte that a segment puts at an address
abbrev pub fills : ℕ → Segment → Bool
fills address segment = nat_le segment.start address && nat_lt address (segment.start + segment.file_size)

-- the byte at an address that a segment puts there, and 0 where none does
abbrev pub file_byte : List ℕ → ℕ → Option Segment → ℕ
file_byte bytes address None = 0
file_byte bytes address (Some segment) = slice_index bytes (segment.offset + (address - segment.start))

abbrev pub byte_of : List ℕ → List Segment → ℕ → ℕ
byte_of bytes loaded address = file_byte bytes address (find (fills address) loaded)

-- the little-endian word of the four bytes from an address on
abbrev pub loaded_word : List ℕ → List Segment → ℕ → ℕ
loaded_word bytes loaded address =
    little_number 4 (byte_of bytes loaded address ∷ byte_of bytes loaded (address + 1) ∷ byte_of bytes loaded (address + 2) ∷ byte_of bytes loaded (address + 3) ∷ [])

unfoldable pub byte_at : Layout → ℕ → ℕ
byte_at layout address = byte_of layout.bytes (segments layout.bytes) address

unfoldable pub word_at : Layout → ℕ → ℕ
word_at layout address = loaded_word layout.bytes (segments layout.bytes) address

-- the address of a guest word, counted from 0
unfoldable pub address_of : Layout → ℕ → ℕ
address_of layout index =
    PAGE_BYTES * nth_from (is_mapped layout) all_pages 0 (index / PAGE_WORDS) + 4 * (index % PAGE_WORDS)

-- the first value of a word: input position, output length and break, then the guest words
unfoldable pub first_word : Layout → ℕ → ℕ
first_word layout zero = 0
first_word layout (suc zero) = 0
first_word layout (suc (suc zero)) = break_base layout
first_word layout (suc (suc (suc index))) = word_at layout (address_of layout index)

-- the first values of all words, in the order of their numbers
abbrev pub first_words : Layout → List ℕ
first_words layout = map (first_word layout) (range_with_len 0 (words_of layout))

-- the instruction word at a pc that is a multiple of 4 on an executable page
unfoldable pub fetched : Layout → ℕ → Option ℕ
fetched layout pc =
    if (pc % 4 == 0) && is_executable_page layout (page_of pc) then Some (word_at layout pc) else None

unfoldable pub entry_of : Layout → ℕ
entry_of layout = entry_address layout.bytes

-- the registers that a core starts with: x2 below the top of its stack, x10 the core, x11 the count of cores
abbrev pub first_registers : Layout → ℕ → List ℕ
first_registers layout core =
    slice_set (slice_set (slice_set (replicate 32 0) 2 (stack_top core - 32)) 10 core) 11 layout.cores

-- the first address, the address after the last and the flags of a segment, in file order
unfoldable pub segment_at : Layout → ℕ → Option (ℕ × ℕ × ℕ)
segment_at layout place =
    option_map (λ (segment : Segment). (segment.start, segment.end, segment.flags)) (slice_get (segments layout.bytes) place)
