-- Lemmas on the entries of the directory of pages, and on the words of memory.
use Rattle.std.proofs.Common.{◌≡◌, ℕ, zero, suc, ◌+◌, ◌-◌, ◌*◌, ◌/◌, ◌%◌, ◌<◌, ◌≤◌, List, [], ◌∷◌, length, get_or, slice_get, Option, Some, None, Bool, true, false, ◌&&◌, if◌then◌else◌, refl, sym, ◌∙◌, ap, inl, inr, arith, ◌^◌}
use Rattle.std.specs.List.{list_any}
use Rattle.std.proofs.lemmas.Bool.{cases_Bool, or_cases, or_left, or_right, and_parts, both_ways, eq-eqb, ne_eqb}
use Rattle.elf_image.specs.Elf.{segments, may_write, may_execute}
use Rattle.elf_image.specs.Layout.{Layout, touches, is_data_page, is_mapped, is_writable_page, is_executable_page, is_writable, count_below, nth_from, all_pages, words_of, word_of, word_at, address_of, segment_at, first_word, fetched, break_base}
use Rattle.elf_image.specs.Memory.{page_of_layout, permissions_of_layout, IsMemoryOf}
use Rattle.elf_image.proofs.Counting.{count_below_le, count_below_lt, count_from_zero, nth_from_count}
use Rattle.elf_image.specs.declared.segments.Segment.{Segment}
use Rattle.elf_image.specs.declared.page_directory.Page.{Page}

-- a test that asks for less passes too
any_less : (more less : Segment → Bool) (loaded : List Segment) → ((s : Segment) → (less s && more s) ≡ true → less s ≡ true) → list_any (λ s. less s && more s) loaded ≡ true → list_any less loaded ≡ true
any_less more less [] part found = cc
any_less more less (one ∷ rest) part found =
    elim (or_cases (less one && more one) (list_any (λ s. less s && more s) rest) found) [
      | inl here ↦ or_left (less one) (list_any less rest) (part one here)
      | inr later ↦ or_right (less one) (list_any less rest) (any_less more less rest part later)
    ]

-- a page that may be executed, or written, is mapped
pub executable_mapped : (layout : Layout) (page : ℕ) → is_executable_page layout page ≡ true → is_mapped layout page ≡ true
unfolding is_executable_page is_mapped
executable_mapped layout page found =
    or_left (list_any (touches page) (segments layout.bytes)) (is_data_page (segments layout.bytes) layout.cores layout.stack layout.heap page)
    (any_less may_execute (touches page) (segments layout.bytes) (λ s both. (and_parts (touches page s) (may_execute s) both).0) found)

pub writable_mapped : (layout : Layout) (page : ℕ) → is_writable_page layout page ≡ true → is_mapped layout page ≡ true
unfolding is_writable_page is_mapped
writable_mapped layout page found =
    elim (or_cases (list_any (λ s. touches page s && may_write s) (segments layout.bytes)) (is_data_page (segments layout.bytes) layout.cores layout.stack layout.heap page) found) [
      | inl loaded ↦ or_left (list_any (touches page) (segments layout.bytes)) (is_data_page (segments layout.bytes) layout.cores layout.stack layout.heap page)
          (any_less may_write (touches page) (segments layout.bytes) (λ s both. (and_parts (touches page s) (may_write s) both).0) loaded)
      | inr data_page ↦ or_right (list_any (touches page) (segments layout.bytes)) (is_data_page (segments layout.bytes) layout.cores layout.stack layout.heap page) data_page
    ]

-- what a choice was, from what it gave
some_from : (b : Bool) (one found : Page) → Some found ≡ (if b then Some one else None) → (b ≡ true) × (found ≡ one)
some_from true one found same = (refl, cc)
some_from false one found same = cc

none_from : (b : Bool) (one : Page) → None ≡ (if b then Some one else None) → b ≡ false
none_from true one same = cc
none_from false one same = refl

-- what an entry says
pub record IsEntry (layout : Layout) (page : ℕ) (entry : Page) : Type 0 where
  pub mapped : is_mapped layout page ≡ true
  pub place : entry.place ≡ count_below (is_mapped layout) page
  pub writable : entry.permissions.writable ≡ is_writable_page layout page
  pub executable : entry.permissions.executable ≡ is_executable_page layout page

pub at_entry : (layout : Layout) (page : ℕ) (entry : Page) → Some entry ≡ page_of_layout layout page → IsEntry layout page entry
unfolding page_of_layout permissions_of_layout
at_entry layout page entry found =
    let parts = some_from (is_mapped layout page) (record {
      place = count_below (is_mapped layout) page;
      permissions = permissions_of_layout layout page;
    }) entry found in
    record {
      mapped = parts.0;
      place = ap (λ (p : Page). p.place) parts.1;
      writable = ap (λ (p : Page). p.permissions.writable) parts.1;
      executable = ap (λ (p : Page). p.permissions.executable) parts.1;
    }

pub at_no_entry : (layout : Layout) (page : ℕ) → None ≡ page_of_layout layout page → is_mapped layout page ≡ false
unfolding page_of_layout
at_no_entry layout page missing =
    none_from (is_mapped layout page) (record {
      place = count_below (is_mapped layout) page;
      permissions = permissions_of_layout layout page;
    }) missing

-- the word of an address by the entry of its page
pub word_of_entry : (layout : Layout) (address : ℕ) (entry : Page) → Some entry ≡ page_of_layout layout (address / 4096) → Some (3 + (1024 * entry.place + address % 4096 / 4)) ≡ word_of layout address
unfolding word_of
word_of_entry layout address entry found =
    let says = at_entry layout (address / 4096) entry found in
    let groups : 3 + (1024 * count_below (is_mapped layout) (address / 4096) + address % 4096 / 4) ≡ 3 + 1024 * count_below (is_mapped layout) (address / 4096) + address % 4096 / 4 =
    omega arith in
    rw (says.mapped, says.place) (ap Some groups)

pub word_of_no_entry : (layout : Layout) (address : ℕ) → None ≡ page_of_layout layout (address / 4096) → None ≡ word_of layout address
unfolding word_of
word_of_no_entry layout address missing = rw (at_no_entry layout (address / 4096) missing) refl

pub place_le : (layout : Layout) (page : ℕ) (entry : Page) → Some entry ≡ page_of_layout layout page → entry.place ≤ page
place_le layout page entry found =
    let says = at_entry layout page entry found in
    rw says.place (count_below_le (is_mapped layout) page)

-- whether an address may be written, by the entry of its page
pub writable_entry : (layout : Layout) (address : ℕ) (entry : Page) → Some entry ≡ page_of_layout layout (address / 4096) → entry.permissions.writable ≡ is_writable layout address
unfolding is_writable
writable_entry layout address entry found = (at_entry layout (address / 4096) entry found).writable

pub writable_no_entry : (layout : Layout) (address : ℕ) → None ≡ page_of_layout layout (address / 4096) → false ≡ is_writable layout address
unfolding is_writable
writable_no_entry layout address missing =
    elim (cases_Bool (is_writable_page layout (address / 4096))) [
      | inl yes_page ↦ absurd (both_ways _ (at_no_entry layout (address / 4096) missing) (writable_mapped layout (address / 4096) yes_page))
      | inr no_page ↦ sym no_page
    ]

-- what is fetched, by the entry of its page
pub fetched_odd : (layout : Layout) (pc : ℕ) → (pc % 4 ≡ 0 → ⊥) → None ≡ fetched layout pc
unfolding fetched
fetched_odd layout pc odd = rw (ne_eqb (pc % 4) 0 odd) refl

pub fetched_not_executable : (layout : Layout) (pc : ℕ) → pc % 4 ≡ 0 → is_executable_page layout (pc / 4096) ≡ false → None ≡ fetched layout pc
unfolding fetched
fetched_not_executable layout pc even off = rw (eq-eqb (pc % 4) 0 even, off) refl

pub fetched_no_entry : (layout : Layout) (pc : ℕ) → pc % 4 ≡ 0 → None ≡ page_of_layout layout (pc / 4096) → None ≡ fetched layout pc
fetched_no_entry layout pc even missing =
    elim (cases_Bool (is_executable_page layout (pc / 4096))) [
      | inl on ↦ absurd (both_ways _ (at_no_entry layout (pc / 4096) missing) (executable_mapped layout (pc / 4096) on))
      | inr off ↦ fetched_not_executable layout pc even off
    ]

pub fetched_executable : (layout : Layout) (pc : ℕ) → pc % 4 ≡ 0 → is_executable_page layout (pc / 4096) ≡ true → Some (word_at layout pc) ≡ fetched layout pc
unfolding fetched
fetched_executable layout pc even on = rw (eq-eqb (pc % 4) 0 even, on) refl

-- the address of a word of a mapped page
pub address_of_mapped : (layout : Layout) (page rest : ℕ) → is_mapped layout page ≡ true → page < 1048576 → rest < 1024 → address_of layout (1024 * count_below (is_mapped layout) page + rest) ≡ 4096 * page + 4 * rest
unfolding address_of
address_of_mapped layout page rest mapped low small =
    let whole : (1024 * count_below (is_mapped layout) page + rest) / 1024 ≡ count_below (is_mapped layout) page = omega arith in
    let part : (1024 * count_below (is_mapped layout) page + rest) % 1024 ≡ rest = omega arith in
    let found : nth_from (is_mapped layout) all_pages 0 (count_below (is_mapped layout) page) ≡ page =
    nth_from_count (is_mapped layout) all_pages 0 (count_below (is_mapped layout) page) page (omega arith) (omega arith) mapped (count_from_zero (is_mapped layout) (count_below (is_mapped layout) page)) in
    rw (whole, part, found) refl

-- the word that memory holds at an address of a mapped page
pub index_lt : (layout : Layout) (leaves : List ℕ) (entries : List (Option Page)) (words : List ℕ) (address : ℕ) (entry : Page) → IsMemoryOf layout leaves entries words → address < 2 ^ 32 → Some entry ≡ page_of_layout layout (address / 4096) → 1024 * entry.place + address % 4096 / 4 < length words
index_lt layout leaves entries words address entry memory low found =
    let says = at_entry layout (address / 4096) entry found in
    let more = count_below_lt (is_mapped layout) (address / 4096) 1048576 says.mapped (omega arith) in
    rw (memory.words_size, says.place) (omega arith)

pub item_at : (layout : Layout) (leaves : List ℕ) (entries : List (Option Page)) (words : List ℕ) (address d : ℕ) (entry : Page) → IsMemoryOf layout leaves entries words → address < 2 ^ 32 → address % 4 ≡ 0 → Some entry ≡ page_of_layout layout (address / 4096) → get_or words (1024 * entry.place + address % 4096 / 4) d ≡ word_at layout address
item_at layout leaves entries words address d entry memory low even found =
    let says = at_entry layout (address / 4096) entry found in
    let inside = index_lt layout leaves entries words address entry memory low found in
    let there : address_of layout (1024 * entry.place + address % 4096 / 4) ≡ 4096 * (address / 4096) + 4 * (address % 4096 / 4) =
    rw says.place (address_of_mapped layout (address / 4096) (address % 4096 / 4) says.mapped (omega arith) (omega arith)) in
    let back : 4096 * (address / 4096) + 4 * (address % 4096 / 4) ≡ address = omega arith in
    memory.items (1024 * entry.place + address % 4096 / 4) d inside ∙ ap (word_at layout) (there ∙ back)

-- the first value of a word of memory, and of the break
pub first_word_guest : (layout : Layout) (word : ℕ) → 3 ≤ word → first_word layout word ≡ word_at layout (address_of layout (word - 3))
unfolding first_word
first_word_guest layout zero low = absurd (omega arith)
first_word_guest layout (suc zero) low = absurd (omega arith)
first_word_guest layout (suc (suc zero)) low = absurd (omega arith)
first_word_guest layout (suc (suc (suc index))) low =
    let same : index ≡ suc (suc (suc index)) - 3 = omega arith in
    ap (λ n. word_at layout (address_of layout n)) same

pub first_word_break : (layout : Layout) → first_word layout 2 ≡ break_base layout
unfolding first_word
first_word_break layout = refl

pub first_word_device : (layout : Layout) (word : ℕ) → word < 2 → 0 ≡ first_word layout word
unfolding first_word
first_word_device layout zero low = refl
first_word_device layout (suc zero) low = refl
first_word_device layout (suc (suc word)) low = absurd (omega arith)

-- how many words there are
pub words_of_count : (layout : Layout) (words : List ℕ) (size : ℕ) → size ≡ length words → length words ≡ 1024 * count_below (is_mapped layout) 1048576 → 3 + size ≡ words_of layout
unfolding words_of
words_of_count layout words size counted all = rw (counted, all) refl

-- a word of memory has its place among the words
pub guest_index : (layout : Layout) (words : List ℕ) (word size : ℕ) → 3 ≤ word → word < words_of layout → size ≡ length words → length words ≡ 1024 * count_below (is_mapped layout) 1048576 → word - 3 < size
unfolding words_of
guest_index layout words word size low few counted all = omega (arith, counted, all)

-- the segment at a place, by what is kept there
pub segment_at_none : (layout : Layout) (place : ℕ) (loaded : List Segment) → loaded ≡ segments layout.bytes → None ≡ slice_get loaded place → None ≡ segment_at layout place
unfolding segment_at
segment_at_none layout place loaded same missing =
    let there : None ≡ slice_get (segments layout.bytes) place = missing ∙ ap (λ (ls : List Segment). slice_get ls place) same in
    rw (← there) refl

pub segment_at_some : (layout : Layout) (place : ℕ) (loaded : List Segment) (segment : Segment) → loaded ≡ segments layout.bytes → Some segment ≡ slice_get loaded place → Some (segment.start, segment.end, segment.flags) ≡ segment_at layout place
unfolding segment_at
segment_at_some layout place loaded segment same found =
    let there : Some segment ≡ slice_get (segments layout.bytes) place = found ∙ ap (λ (ls : List Segment). slice_get ls place) same in
    rw (← there) refl
