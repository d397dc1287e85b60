-- Lemmas on what loading makes of an accepted file: its first fault, and the memory of its layout.
use Rattle.std.proofs.Common.{◌≡◌, ℕ, ◌+◌, ◌*◌, ◌/◌, ◌%◌, ◌<◌, ◌≤◌, List, length, filter, get_or, Option, Some, None, Bool, true, false, not, ◌||◌, nat_eq, nat_lt, if◌then◌else◌, refl, sym, ◌∙◌, ap, subst, arith}
use Rattle.std.specs.List.{list_any}
use Rattle.std.proofs.lemmas.Bool.Decides.{nat_tests}
use Rattle.std.proofs.lemmas.Bool.{lt-ltb, le-ltb, ltb-false, or_parts}
use Rattle.std.proofs.lemmas.List.{length-map, get_or_default}
use Rattle.std.proofs.lemmas.List.FromFn.{length-map-range_with_len}
use Rattle.std.proofs.lemmas.List.Sums.{length-filter, count_by-le-length}
use Rattle.elf_image.specs.Elf.{entry_address, header_at, program_headers, segment_of, segments, table_entries, table_offset, takes_memory}
use Rattle.elf_image.specs.ImageFault.{first_fault, file_tests, header_tests, map_tests, image_fault, has_bad_entry, is_too_large, passes_limit, address_limit}
use Rattle.elf_image.specs.Layout.{layout_of, all_pages, count_below, nth_from, address_of, break_page, end_of_heap, entry_of, executes, is_executable_page, is_mapped, is_writable_page, loaded_word, maps, word_at}
use Rattle.elf_image.specs.Memory.{IsMemoryOf, IsReadFrom, page_of_layout, permissions_of_layout}
use Rattle.elf_image.specs.PageTable.{IsContents, IsListed, IsListedBelow, permissions_of}
use Rattle.elf_image.specs.Directory.{IsDirectoryBelow, page_entry}
use Rattle.elf_image.proofs.Counting.{count_from_zero, nth_from_count}
use Rattle.elf_image.proofs.FaultLemmas.{first_fault_some, first_fault_skip, header_table}
use Rattle.elf_image.specs.declared.fault.ImageFault.{ImageFault}
use Rattle.elf_image.specs.declared.fault.ImageFault.TheVariants.{TooLarge, Entry}
use Rattle.elf_image.specs.declared.segments.Segment.{Segment}
use Rattle.elf_image.specs.declared.page_directory.Page.{Page}

-- a fault of the file by itself is that of the image
pub image_file : (bytes : List ℕ) (cores stack heap : ℕ) (fault : ImageFault) → first_fault (file_tests bytes heap) ≡ Some fault → image_fault bytes cores stack heap ≡ Some fault
unfolding image_fault
image_file bytes cores stack heap fault found =
    first_fault_some (file_tests bytes heap) (map_tests (layout_of bytes cores stack heap)) fault found

-- else the memory map says
image_map : (bytes : List ℕ) (cores stack heap : ℕ) → first_fault (file_tests bytes heap) ≡ None → image_fault bytes cores stack heap ≡ first_fault (map_tests (layout_of bytes cores stack heap))
unfolding image_fault
image_map bytes cores stack heap none =
    first_fault_skip (file_tests bytes heap) (map_tests (layout_of bytes cores stack heap)) none

-- the mapped and the executable pages by the segments
mapped_segments : (bytes : List ℕ) (cores stack heap : ℕ) (loaded : List Segment) → loaded ≡ segments bytes → is_mapped (layout_of bytes cores stack heap) ≡ maps loaded cores stack heap
unfolding is_mapped
mapped_segments bytes cores stack heap loaded same = ap (λ (ls : List Segment). maps ls cores stack heap) (sym same)

executable_segments : (bytes : List ℕ) (cores stack heap page : ℕ) (loaded : List Segment) → loaded ≡ segments bytes → is_executable_page (layout_of bytes cores stack heap) page ≡ executes loaded page
unfolding is_executable_page
executable_segments bytes cores stack heap page loaded same = ap (λ (ls : List Segment). executes ls page) (sym same)

-- too many mapped pages
pub image_too_large : (bytes : List ℕ) (cores stack heap : ℕ) (loaded : List Segment) → first_fault (file_tests bytes heap) ≡ None → loaded ≡ segments bytes → 4096 < count_below (maps loaded cores stack heap) all_pages → image_fault bytes cores stack heap ≡ Some TooLarge
image_too_large bytes cores stack heap loaded none same many =
    let large : is_too_large (layout_of bytes cores stack heap) ≡ true =
    ap (λ (set : ℕ → Bool). nat_lt 4096 (count_below set all_pages)) (mapped_segments bytes cores stack heap loaded same)
    ∙ lt-ltb _ _ many in
    image_map bytes cores stack heap none ∙ rw large refl

-- few mapped pages, so that the entry says
pub image_entry : (bytes : List ℕ) (cores stack heap entry : ℕ) (loaded : List Segment) (found : Option ImageFault) → first_fault (file_tests bytes heap) ≡ None → loaded ≡ segments bytes → count_below (maps loaded cores stack heap) all_pages ≤ 4096 → entry ≡ entry_address bytes → found ≡ (if not (nat_eq (entry % 4) 0) || not (executes loaded (entry / 4096)) then Some Entry else None) → image_fault bytes cores stack heap ≡ found
image_entry bytes cores stack heap entry loaded found none same few at answer =
    let small : is_too_large (layout_of bytes cores stack heap) ≡ false =
    ap (λ (set : ℕ → Bool). nat_lt 4096 (count_below set all_pages)) (mapped_segments bytes cores stack heap loaded same)
    ∙ le-ltb _ _ few in
    let bad : has_bad_entry (layout_of bytes cores stack heap) ≡ (not (nat_eq (entry % 4) 0) || not (executes loaded (entry / 4096))) =
    ap (λ n. not (nat_eq (n % 4) 0) || not (is_executable_page (layout_of bytes cores stack heap) (n / 4096))) (sym at)
    ∙ ap (λ (b : Bool). not (nat_eq (entry % 4) 0) || not b) (executable_segments bytes cores stack heap (entry / 4096) loaded same) in
    image_map bytes cores stack heap none ∙ rw (small, bad) (sym answer)

-- at most as many segments as headers, of which there are few
pub segments_few : (bytes : List ℕ) → first_fault (header_tests bytes) ≡ None → length (segments bytes) ≤ 64
unfolding segments program_headers
segments_few bytes none =
    let good = or_parts (nat_lt 64 (table_entries bytes)) _ (header_table bytes none) in
    let few : table_entries bytes ≤ 64 = ltb-false _ _ good.0 in
    let all : length (program_headers bytes) ≡ table_entries bytes =
    length-map-range_with_len (λ k. header_at bytes (table_offset bytes + 32 * k)) 0 (table_entries bytes) in
    let some = count_by-le-length takes_memory (program_headers bytes) in
    rw (length-map (filter takes_memory (program_headers bytes)) segment_of, length-filter takes_memory (program_headers bytes)) (omega (arith, all, some, few))

-- each mapped page is a page
pub mapped_low : (set : ℕ → Bool) (mapped : List ℕ) (xs : List ℕ) → IsListedBelow set mapped 1048576 → xs ≡ mapped → (k d : ℕ) → k < length xs → get_or xs k d < 1048576
mapped_low set mapped xs table same k d low =
    let size : length xs ≡ length mapped = ap length same in
    let inside : k < length mapped = omega arith in
    let member = table.members k inside in
    rw (same, get_or_default mapped k d 0 inside) member.below

-- the k-th mapped page is the one with k mapped pages below it
mapped_place : (set : ℕ → Bool) (mapped : List ℕ) → IsListedBelow set mapped 1048576 → (k : ℕ) → k < length mapped → nth_from set 1048576 0 k ≡ get_or mapped k 0
mapped_place set mapped table k low =
    let member = table.members k low in
    let below : get_or mapped k 0 < 1048576 = member.below in
    nth_from_count set 1048576 0 k (get_or mapped k 0) (omega arith) (omega arith) member.in_set (count_from_zero set k ∙ sym member.at_place)

-- the directory and the words of the segments are those of the layout
memory_at : (bytes : List ℕ) (cores stack heap : ℕ) (mapped leaves : List ℕ) (entries : List (Option Page)) (words : List ℕ) → IsListed (segments bytes) cores stack heap mapped → length mapped ≤ 4096 → IsDirectoryBelow (page_entry (maps (segments bytes) cores stack heap) (permissions_of (segments bytes) cores stack heap)) leaves entries all_pages → IsContents (loaded_word bytes (segments bytes)) mapped words (length mapped) → IsMemoryOf (layout_of bytes cores stack heap) leaves entries words
unfolding is_mapped is_writable_page is_executable_page page_of_layout permissions_of_layout word_at address_of
memory_at bytes cores stack heap mapped leaves entries words table small directory contents = record {
  few = subst (λ n. n ≤ 4096) table.counted small;
  directory = directory;
  words_size = contents.size ∙ ap (λ n. 1024 * n) table.counted;
  items = λ k d low.
      let size : length words ≡ 1024 * length mapped = contents.size in
      let inside : k / 1024 < length mapped = omega arith in
      get_or_default words k d 0 low
      ∙ contents.items k low
      ∙ ap (λ n. loaded_word bytes (segments bytes) (4096 * n + 4 * (k % 1024))) (sym (mapped_place _ mapped table (k / 1024) inside));
}

pub memory_from : (bytes : List ℕ) (cores stack heap : ℕ) (loaded : List Segment) (mapped leaves : List ℕ) (entries : List (Option Page)) (words : List ℕ) → loaded ≡ segments bytes → IsListed loaded cores stack heap mapped → length mapped ≤ 4096 → IsDirectoryBelow (page_entry (maps loaded cores stack heap) (permissions_of loaded cores stack heap)) leaves entries all_pages → IsContents (loaded_word bytes loaded) mapped words (length mapped) → IsMemoryOf (layout_of bytes cores stack heap) leaves entries words
memory_from bytes cores stack heap loaded mapped leaves entries words same table small directory contents =
    memory_at bytes cores stack heap mapped leaves entries words
    (subst (λ (ls : List Segment). IsListed ls cores stack heap mapped) same table)
    small
    (subst (λ (ls : List Segment). IsDirectoryBelow (page_entry (maps ls cores stack heap) (permissions_of ls cores stack heap)) leaves entries all_pages) same directory)
    (subst (λ (ls : List Segment). IsContents (loaded_word bytes ls) mapped words (length mapped)) same contents)

-- what is read off the file once
pub read_from : (bytes : List ℕ) (cores stack heap first entry : ℕ) (loaded : List Segment) → loaded ≡ segments bytes → length loaded ≤ 64 → list_any passes_limit loaded ≡ false → first ≡ break_page loaded → end_of_heap loaded heap ≤ address_limit → entry ≡ entry_address bytes → entry % 4 ≡ 0 → IsReadFrom (layout_of bytes cores stack heap) loaded (4096 * first) entry
unfolding entry_of
read_from bytes cores stack heap first entry loaded same few ends at low from aligned = record {
  loaded_is = same;
  few_segments = few;
  ends = ends;
  base_is = ap (λ n. 4096 * n) (at ∙ ap break_page same);
  heap_low = subst (λ (ls : List Segment). end_of_heap ls heap ≤ address_limit) same low;
  entry_is = from;
  aligned = aligned;
}

-- an accepted entry is a multiple of 4
pub entry_aligned : (entry : ℕ) (executes : Bool) → None ≡ (if not (nat_eq (entry % 4) 0) || not executes then Some Entry else None) → entry % 4 ≡ 0
entry_aligned entry executes accepted = by_test (nat_eq (entry % 4) 0) (grind (arith, nat_tests)) accepted
  where
    by_test : (b : Bool) → (b ≡ true → entry % 4 ≡ 0) → None ≡ (if not b || not executes then Some Entry else None) → entry % 4 ≡ 0
    by_test true holds e = holds refl
    by_test false holds e = absurd (cc)

-- few mapped pages that are listed are few
pub table_few : (set : ℕ → Bool) (mapped : List ℕ) {size : ℕ} → IsListedBelow set mapped 1048576 → length mapped ≡ size → size ≤ 4096 → count_below set 1048576 ≤ 4096
table_few set mapped table same small = rw (← table.counted, same) small

-- the test of the entry, and what the words are, at equal lists
pub at_segments : (entry : ℕ) (one other : List Segment) → one ≡ other → (if not (nat_eq (entry % 4) 0) || not (executes one (entry / 4096)) then Some Entry else None) ≡ (if not (nat_eq (entry % 4) 0) || not (executes other (entry / 4096)) then Some Entry else None)
at_segments entry one other same =
    ap (λ (loaded : List Segment). if not (nat_eq (entry % 4) 0) || not (executes loaded (entry / 4096)) then Some Entry else None) same

pub contents_at : (bytes : List ℕ) (one other : List Segment) (xs mapped words : List ℕ) → one ≡ other → xs ≡ mapped → IsContents (loaded_word bytes one) xs words (length xs) → IsContents (loaded_word bytes other) mapped words (length mapped)
contents_at bytes one other xs mapped words same listed contents =
    subst (λ (loaded : List Segment). IsContents (loaded_word bytes loaded) mapped words (length mapped)) same
    (subst (λ (pages : List ℕ). IsContents (loaded_word bytes one) pages words (length pages)) listed contents)
