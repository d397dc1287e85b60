-- Lemmas on the pages of stacks: which core has a page follows from the page's distance below the first stack's top.
use Rattle.std.proofs.Common.{◌≡◌, ℕ, zero, suc, ◌+◌, ◌-◌, ◌*◌, ◌/◌, ◌%◌, ◌<◌, ◌≤◌, Bool, true, false, refl, sym, ◌∙◌, ap, inl, inr, arith, nat_lt, nat_le}
use Rattle.std.proofs.lemmas.Bool.{cases_lt, le-leb, lt-leb, lt-ltb, le-ltb, and_from, and_left, and_right, or_left, or_right}
use Rattle.std.specs.List.{range_with_len, list_any}
use Rattle.elf_image.specs.Layout.{is_stack_page, is_stack_page_of, stack_top}

-- a number of a range that passes a test is found
pub any_range_true : (test : ℕ → Bool) (from n k : ℕ) → from ≤ k → k < from + n → test k ≡ true → list_any test (range_with_len from n) ≡ true
any_range_true test from zero k low high passes = absurd (omega arith)
any_range_true test from (suc n) k low high passes =
    elim (cases_lt from k) [
      | inl lt ↦ or_right (test from) (list_any test (range_with_len (from + 1) n)) (any_range_true test (from + 1) n k (omega arith) (omega arith) passes)
      | inr ge ↦ let same : from ≡ k = omega arith in or_left (test from) (list_any test (range_with_len (from + 1) n)) (ap test same ∙ passes)
    ]

-- where no number of a range passes, none is found
pub any_range_false : (test : ℕ → Bool) (from n : ℕ) → ((k : ℕ) → from ≤ k → k < from + n → test k ≡ false) → list_any test (range_with_len from n) ≡ false
any_range_false test from zero none = refl
any_range_false test from (suc n) none =
    let here : test from ≡ false = none from (omega arith) (omega arith) in
    let rest : list_any test (range_with_len (from + 1) n) ≡ false =
    any_range_false test (from + 1) n (λ k low high. none k (omega arith) (omega arith)) in
    rw (here, rest) refl

-- a page is in the stack of a core exactly where it is so many pages below the stack's top
pub in_stack : (stack page core : ℕ) → stack_top core ≤ 4096 * page + 4096 * stack → 4096 * page < stack_top core → is_stack_page_of stack page core ≡ true
in_stack stack page core low high = and_from _ _ (le-leb _ _ low) (lt-ltb _ _ high)

pub below_stack : (stack page core : ℕ) → 4096 * page + 4096 * stack < stack_top core → is_stack_page_of stack page core ≡ false
below_stack stack page core low =
    and_left (nat_le (stack_top core) (4096 * page + 4096 * stack)) (nat_lt (4096 * page) (stack_top core)) (lt-leb _ _ low)

pub above_stack : (stack page core : ℕ) → stack_top core ≤ 4096 * page → is_stack_page_of stack page core ≡ false
above_stack stack page core high =
    and_right (nat_le (stack_top core) (4096 * page + 4096 * stack)) (nat_lt (4096 * page) (stack_top core)) (le-ltb _ _ high)

-- a page so far below the first top is in the stack of a core
pub stack_page_true : (cores stack page below : ℕ) → cores ≤ 32 → page < 983040 → below ≡ 983039 - page → below / 8192 < cores → below % 8192 < stack → is_stack_page cores stack page ≡ true
stack_page_true cores stack page below few low at core room =
    any_range_true (is_stack_page_of stack page) 0 cores (below / 8192) (omega arith) (omega arith)
    (in_stack stack page (below / 8192) (omega arith) (omega arith))

-- a page at or above the first top is in no stack
pub stack_page_above : (cores stack page : ℕ) → 983040 ≤ page → is_stack_page cores stack page ≡ false
stack_page_above cores stack page high =
    any_range_false (is_stack_page_of stack page) 0 cores (λ core low few. above_stack stack page core (omega arith))

-- a page below it is in no stack if its core is none, or if the stack ends above it
pub stack_page_other_core : (cores stack page below : ℕ) → cores ≤ 32 → stack ≤ 4096 → page < 983040 → below ≡ 983039 - page → cores ≤ below / 8192 → is_stack_page cores stack page ≡ false
stack_page_other_core cores stack page below few small low at core =
    any_range_false (is_stack_page_of stack page) 0 cores (λ k from to. below_stack stack page k (omega arith))

pub stack_page_no_room : (cores stack page below : ℕ) → cores ≤ 32 → stack ≤ 4096 → page < 983040 → below ≡ 983039 - page → stack ≤ below % 8192 → is_stack_page cores stack page ≡ false
stack_page_no_room cores stack page below few small low at room =
    any_range_false (is_stack_page_of stack page) 0 cores
    (λ k from to.
    elim (cases_lt (below / 8192) k) [
      | inl above ↦ above_stack stack page k (omega arith)
      | inr ge ↦ elim (cases_lt k (below / 8192)) [
        | inl under ↦ below_stack stack page k (omega arith)
        | inr here ↦ below_stack stack page k (omega arith)
      ]
    ])

-- where the core is one of the count, the page is in its stack exactly where it is among the stack's pages
pub stack_page_core : (cores stack page below : ℕ) → cores ≤ 32 → stack ≤ 4096 → page < 983040 → below ≡ 983039 - page → below / 8192 < cores → nat_lt (below % 8192) stack ≡ is_stack_page cores stack page
stack_page_core cores stack page below few small low at core =
    elim (cases_lt (below % 8192) stack) [
      | inl lt ↦ lt-ltb _ _ lt ∙ sym (stack_page_true cores stack page below few low at core lt)
      | inr ge ↦ le-ltb _ _ ge ∙ sym (stack_page_no_room cores stack page below few small low at ge)
    ]
