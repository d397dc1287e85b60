-- A buffer of at most 4,096 bytes lies on the pages of its first and of its last byte.
use Rattle.std.proofs.Common.{◌≡◌, ℕ, ◌+◌, ◌-◌, ◌/◌, ◌<◌, ◌≤◌, length, get_or, Some, None, Bool, true, false, ◌&&◌, ◌||◌, not, if◌then◌else◌, nat_lt, refl, ◌∙◌, ap, inl, inr, ◌⊎◌, arith, is_some, ◌^◌, zero-add, ◌%◌}
use Rattle.std.specs.List.{list_any, range_with_len}
use Rattle.std.proofs.lemmas.List.FromFn.{length-range_with_len, get_or-range_with_len}
use Rattle.std.proofs.lemmas.List.Folds.{list_any_none, list_any_at}
use Rattle.std.proofs.lemmas.Bool.{cases_lt}
use Rattle.std.proofs.lemmas.Bool.Decides.{nat_tests}
use Rattle.elf_image.specs.Layout.{Layout, is_mapped, is_writable, is_writable_page, word_of, page_of}
use Rattle.syscall_drain.specs.Arguments.{fails_at, is_mapped_at}

-- a test that some byte fails fails
fails_by : (good : ℕ → Bool) (start count k : ℕ) → k < count → good (start + k) ≡ false → list_any (λ j. not (good (start + j))) (range_with_len 0 count) ≡ true
fails_by good start count k below bad =
    let inside : k < length (range_with_len 0 count) = rw (length-range_with_len 0 count) below in
    let at : get_or (range_with_len 0 count) k 0 ≡ k = get_or-range_with_len 0 count k 0 below ∙ zero-add k in
    list_any_at (λ j. not (good (start + j))) (range_with_len 0 count) k 0 inside (rw at (ap not bad))

-- and one that none fails passes
passes_by : (good : ℕ → Bool) (start count : ℕ) → ((k : ℕ) → k < count → good (start + k) ≡ true) → list_any (λ j. not (good (start + j))) (range_with_len 0 count) ≡ false
passes_by good start count all =
    list_any_none (λ j. not (good (start + j))) (range_with_len 0 count)
    (λ k d inside.
    let below : k < count = rw (length-range_with_len 0 count) at inside in
    let at : get_or (range_with_len 0 count) k d ≡ k = get_or-range_with_len 0 count k d below ∙ zero-add k in
    rw at (ap not (all k below)))

-- the page of each byte is that of the first or of the last
page_of_byte : (start count k : ℕ) → count ≤ 4096 → k < count → ((start + k) / 4096 ≡ start / 4096) ⊎ ((start + k) / 4096 ≡ (start + (count - 1)) / 4096)
page_of_byte start count k few below =
    elim (cases_lt (start % 4096 + k) 4096) [
      | inl same ↦ inl (omega arith)
      | inr next ↦ inr (omega arith)
    ]

on_two : (page : ℕ → Bool) (start last at : ℕ) → (at ≡ start) ⊎ (at ≡ last) → page start ≡ true → page last ≡ true → page at ≡ true
on_two page start last at (inl e) first second = ap page e ∙ first
on_two page start last at (inr e) first second = ap page e ∙ second

ends_pass : (page : ℕ → Bool) (start count : ℕ) → count ≤ 4096 → page (start / 4096) ≡ true → page ((start + (count - 1)) / 4096) ≡ true → list_any (λ k. not (page ((start + k) / 4096))) (range_with_len 0 count) ≡ false
ends_pass page start count few first last =
    passes_by (λ a. page (a / 4096)) start count (λ k below. on_two page (start / 4096) ((start + (count - 1)) / 4096) ((start + k) / 4096) (page_of_byte start count k few below) first last)

first_fails : (page : ℕ → Bool) (start count : ℕ) → 0 < count → page (start / 4096) ≡ false → list_any (λ k. not (page ((start + k) / 4096))) (range_with_len 0 count) ≡ true
first_fails page start count some bad =
    let here : start + 0 ≡ start = omega arith in
    fails_by (λ a. page (a / 4096)) start count 0 some (rw here bad)

last_fails : (page : ℕ → Bool) (start count : ℕ) → 0 < count → page ((start + (count - 1)) / 4096) ≡ false → list_any (λ k. not (page ((start + k) / 4096))) (range_with_len 0 count) ≡ true
last_fails page start count some bad =
    let below : count - 1 < count = omega arith in
    fails_by (λ a. page (a / 4096)) start count (count - 1) below bad

-- so two tests do
ends_decide : (page : ℕ → Bool) (start count : ℕ) (first last : Bool) → 0 < count → count ≤ 4096 → page (start / 4096) ≡ first → page ((start + (count - 1)) / 4096) ≡ last → list_any (λ k. not (page ((start + k) / 4096))) (range_with_len 0 count) ≡ not (first && last)
ends_decide page start count true true some few first last = ends_pass page start count few first last
ends_decide page start count true false some few first last = last_fails page start count some last
ends_decide page start count false last some few first _ = first_fails page start count some first

ends_decide_at : (page : ℕ → Bool) (start count end : ℕ) → 0 < count → count ≤ 4096 → end ≡ start + (count - 1) → end < 2 ^ 32 → (nat_lt 4294967296 (start + count) || list_any (λ k. not (page ((start + k) / 4096))) (range_with_len 0 count)) ≡ not (page (start / 4096) && page (end / 4096))
ends_decide_at page start count end some few is within =
    let low : nat_lt 4294967296 (start + count) ≡ false = grind (arith, nat_tests) in
    rw (low, is) (ends_decide page start count (page (start / 4096)) (page ((start + (count - 1)) / 4096)) some few refl refl)

-- a buffer passes 2^32 where its last byte does
pub fails_at_past : (good : ℕ → Bool) (start count : ℕ) → 0 < count → 2 ^ 32 ≤ start + (count - 1) → fails_at good start count ≡ true
fails_at_past good start count some past =
    let high : nat_lt 4294967296 (start + count) ≡ true = grind (arith, nat_tests) in
    rw high refl

pub fails_at_writable : (layout : Layout) (start count end : ℕ) → 0 < count → count ≤ 4096 → end ≡ start + (count - 1) → end < 2 ^ 32 → fails_at (is_writable layout) start count ≡ not (is_writable layout start && is_writable layout end)
unfolding is_writable
fails_at_writable layout start count end some few is within = ends_decide_at (is_writable_page layout) start count end some few is within

pub fails_at_mapped : (layout : Layout) (start count end : ℕ) → 0 < count → count ≤ 4096 → end ≡ start + (count - 1) → end < 2 ^ 32 → fails_at (is_mapped_at layout) start count ≡ not (is_mapped_at layout start && is_mapped_at layout end)
fails_at_mapped layout start count end some few is within = ends_decide_at (is_mapped layout) start count end some few is within

some_if : (b : Bool) (n : ℕ) → is_some (if b then Some n else None) ≡ b
some_if true n = refl
some_if false n = refl

-- a byte is mapped where it has a word
pub is_some_word_of : (layout : Layout) (address : ℕ) → is_some (word_of layout address) ≡ is_mapped_at layout address
unfolding word_of
is_some_word_of layout address = some_if (is_mapped layout (page_of address)) _

pub ruleset call_tests = (fails_at_past, fails_at_writable, fails_at_mapped, is_some_word_of)
