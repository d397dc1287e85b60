-- What the memory map of an accepted image of bytes gives are words: first words, first registers, fetched words and numbers of words.
use Rattle.std.proofs.Common.{◌≡◌, ℕ, zero, suc, ◌+◌, ◌-◌, ◌/◌, ◌^◌, ◌<◌, ◌≤◌, Bool, true, false, Option, Some, None, List, [], ◌∷◌, ◌++◌, replicate, refl, arith, if◌then◌else◌}
use Rattle.std.specs.Prelude.{All, slice_index, slice_set, find, unwrap_or, nat_lt}
use Rattle.std.specs.List.{list_any}
use Rattle.std.proofs.lemmas.Bool.Decides.{nat_tests}
use Rattle.elf_image.specs.Elf.{segments}
use Rattle.elf_image.specs.Layout.{Layout, layout_of, page_of, is_mapped, count_below, fills, file_byte, byte_of, word_of, word_at, address_of, first_word, fetched, loaded_word, end_of_heap, break_base, stack_top, first_registers}
use Rattle.elf_image.specs.ImageFault.{Test, first_fault, image_fault, file_tests, map_tests, passes_limit, address_limit, IsAccepted}
use Rattle.elf_image.specs.declared.segments.Segment.{Segment}
use Rattle.elf_image.proofs.Counting.{count_below_le}
use Rattle.elf_image.proofs.SegmentLemmas.{or_false}
use Rattle.machine.proofs.ResultRanges.{IsWord}
use Rattle.machine.proofs.HartRanges.{AreWords, set_words}

-- ---- bytes

abbrev pub AreBytes : List ℕ → Type 0
AreBytes bytes = All (λ byte. byte < 2 ^ 8) bytes

byte_below : (bytes : List ℕ) → AreBytes bytes → (place : ℕ) → slice_index bytes place < 256
byte_below [] all place = omega arith
byte_below (first ∷ bytes) all zero = all 0 first (omega arith)
byte_below (first ∷ bytes) all (suc place) = byte_below bytes (λ k d within. all (suc k) d (omega arith)) place

file_byte_below : (bytes : List ℕ) (address : ℕ) (segment : Option Segment) → AreBytes bytes → file_byte bytes address segment < 256
file_byte_below bytes address None all = omega arith
file_byte_below bytes address (Some segment) all = byte_below bytes all (segment.offset + (address - segment.start))

byte_of_below : (bytes : List ℕ) (loaded : List Segment) (address : ℕ) → AreBytes bytes → byte_of bytes loaded address < 256
byte_of_below bytes loaded address all = file_byte_below bytes address (find (fills address) loaded) all

loaded_word_word : (bytes : List ℕ) (loaded : List Segment) (address : ℕ) → AreBytes bytes → IsWord (loaded_word bytes loaded address)
loaded_word_word bytes loaded address all =
    omega (arith, byte_of_below bytes loaded address all, byte_of_below bytes loaded (address + 1) all, byte_of_below bytes loaded (address + 2) all, byte_of_below bytes loaded (address + 3) all)

word_at_word : (layout : Layout) (address : ℕ) → AreBytes layout.bytes → IsWord (word_at layout address)
unfolding word_at
word_at_word layout address all = loaded_word_word layout.bytes (segments layout.bytes) address all

-- ---- the break

abbrev NoneApplies : List Test → Type 0
NoneApplies [] = Unit {0}
NoneApplies (test ∷ tests) = (test.applies ≡ false) × NoneApplies tests

none_applies : (tests : List Test) → first_fault tests ≡ None → NoneApplies tests
none_applies [] e = tt
none_applies (test ∷ tests) e = by_test test.applies refl e (none_applies tests)
  where
    by_test : (b : Bool) → test.applies ≡ b → (if b then Some test.fault else first_fault tests) ≡ None → (first_fault tests ≡ None → NoneApplies tests) → NoneApplies (test ∷ tests)
    by_test true is e rest = absurd (cc)
    by_test false is e rest = (is, rest e)

break_word : (layout : Layout) → IsAccepted layout → IsWord (break_base layout)
unfolding image_fault
break_word layout accepted =
    let tests = file_tests layout.bytes layout.heap ++ map_tests (layout_of layout.bytes layout.cores layout.stack layout.heap) in
    let none : NoneApplies tests = none_applies tests accepted.sound in
    let low = or_false (list_any passes_limit (segments layout.bytes)) (nat_lt address_limit (end_of_heap (segments layout.bytes) layout.heap)) none.1.1.1.1.1.1.1.1.1.1.1.1.0 in
    let end : end_of_heap (segments layout.bytes) layout.heap ≤ 0xB0000000 = grind (arith, nat_tests, low.1) in
    omega arith

pub first_word_word : (layout : Layout) (n : ℕ) → IsAccepted layout → AreBytes layout.bytes → IsWord (first_word layout n)
unfolding first_word
first_word_word layout zero accepted all = omega arith
first_word_word layout (suc zero) accepted all = omega arith
first_word_word layout (suc (suc zero)) accepted all = break_word layout accepted
first_word_word layout (suc (suc (suc index))) accepted all = word_at_word layout (address_of layout index) all

-- ---- a hart at first

no_words : (count : ℕ) → AreWords (replicate count 0)
no_words zero place = omega arith
no_words (suc count) zero = omega arith
no_words (suc count) (suc place) = no_words count place

pub first_registers_words : (layout : Layout) (core : ℕ) → IsAccepted layout → core < layout.cores → AreWords (first_registers layout core)
first_registers_words layout core accepted known =
    let few : layout.cores ≤ 32 = accepted.most_cores in
    set_words (slice_set (slice_set (replicate 32 0) 2 (stack_top core - 32)) 10 core) 11 layout.cores
    (set_words (slice_set (replicate 32 0) 2 (stack_top core - 32)) 10 core
    (set_words (replicate 32 0) 2 (stack_top core - 32) (no_words 32) (omega arith)) (omega arith)) (omega arith)

-- ---- fetching, and the numbers of words

abbrev pub IsWordIf : Option ℕ → Type 0
IsWordIf None = Unit {0}
IsWordIf (Some n) = IsWord n

some_if : (b : Bool) (n : ℕ) → IsWord n → IsWordIf (if b then Some n else None)
some_if true n word = word
some_if false n word = tt

pub fetched_word : (layout : Layout) (pc : ℕ) → AreBytes layout.bytes → IsWordIf (fetched layout pc)
unfolding fetched
fetched_word layout pc all = some_if _ (word_at layout pc) (word_at_word layout pc all)

-- a word at an address that is not far above 2^32
pub word_of_word : (layout : Layout) (address : ℕ) → address < 2 ^ 33 → IsWordIf (word_of layout address)
unfolding word_of
word_of_word layout address low =
    let few : count_below (is_mapped layout) (address / 4096) ≤ address / 4096 = count_below_le (is_mapped layout) (address / 4096) in
    some_if (is_mapped layout (page_of address)) _ (omega arith)

pub unwrapped_word : (word : Option ℕ) → IsWordIf word → IsWord (unwrap_or word 0)
unwrapped_word None word = omega arith
unwrapped_word (Some n) word = word
