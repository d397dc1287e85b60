-- Lemmas on the first number of a set from a number on.
use Rattle.std.proofs.Common.{◌≡◌, ℕ, zero, suc, ◌+◌, ◌-◌, ◌*◌, ◌/◌, ◌<◌, ◌≤◌, Bool, true, false, ◌||◌, min, max, refl, ◌∙◌, ap, subst, inl, inr, nat_lt, arith}
use Rattle.std.specs.List.{list_any, range_with_len}
use Rattle.std.proofs.lemmas.Bool.{cases_lt, or_from, or_left, or_right, and_from, and_left, lt-ltb, le-ltb, and_parts, ltb-true, both_ways, false_from_ne_true}
use Rattle.elf_image.specs.Layout.{is_stack_page, is_stack_page_of, touches}
use Rattle.elf_image.specs.PageTable.{IsNextOf}
use Rattle.elf_image.proofs.StackPages.{in_stack, below_stack, above_stack}
use Rattle.elf_image.specs.declared.segments.Segment.{Segment}

-- the first number of either of two sets
pub next_both : (one other : ℕ → Bool) (from x y : ℕ) → IsNextOf one from x → IsNextOf other from y → IsNextOf (λ n. one n || other n) from (min x y)
next_both one other from x y first second = record {
  low = omega (arith, first.low, second.low);
  high = omega (arith, first.high, second.high);
  none = λ n low high. or_from (one n) (other n) (first.none n low (omega arith)) (second.none n low (omega arith));
  here = λ high.
      elim (cases_lt y x) [
        | inl lt ↦
            let same : y ≡ min x y = omega arith in
            subst (λ (n : ℕ). (one n || other n) ≡ true) same (or_right (one y) (other y) (second.here (omega arith)))
        | inr ge ↦
            let same : x ≡ min x y = omega arith in
            subst (λ (n : ℕ). (one n || other n) ≡ true) same (or_left (one x) (other x) (first.here (omega arith)))
      ];
}

-- a set with no number from there on
pub next_none : (set : ℕ → Bool) (from : ℕ) → from ≤ 1048576 → ((n : ℕ) → from ≤ n → n < 1048576 → set n ≡ false) → IsNextOf set from 1048576
next_none set from low none = record {
  low = low;
  high = omega arith;
  none = none;
  here = λ high. absurd (omega arith);
}

or_nothing : (b : Bool) → (b || false) ≡ b
or_nothing true = refl
or_nothing false = refl

or_assoc : (a b c : Bool) → (a || (b || c)) ≡ ((a || b) || c)
or_assoc true b c = refl
or_assoc false b c = refl

-- one more of a range
any_range_more : (test : ℕ → Bool) (from n : ℕ) → list_any test (range_with_len from (n + 1)) ≡ (list_any test (range_with_len from n) || test (from + n))
any_range_more test from zero =
    let same : from ≡ from + 0 = omega arith in
    or_nothing (test from) ∙ ap test same
any_range_more test from (suc n) =
    let size : suc n + 1 ≡ suc (n + 1) = omega arith in
    let last : (from + 1) + n ≡ from + suc n = omega arith in
    ap (λ m. list_any test (range_with_len from m)) size
    ∙ ap (λ (b : Bool). test from || b) (any_range_more test (from + 1) n)
    ∙ or_assoc (test from) (list_any test (range_with_len (from + 1) n)) (test ((from + 1) + n))
    ∙ ap (λ m. (test from || list_any test (range_with_len (from + 1) n)) || test m) last

-- the next page of a segment
pub next_touched_here : (segment : Segment) (from next : ℕ) → next ≡ max from (segment.start / 4096) → next < 1048576 → touches next segment ≡ true → IsNextOf (λ page. touches page segment) from next
next_touched_here segment from next at high found = record {
  low = omega arith;
  high = omega arith;
  none = λ page low under. and_left (nat_lt segment.start (4096 * page + 4096)) (nat_lt (4096 * page) segment.end) (le-ltb segment.start (4096 * page + 4096) (omega arith));
  here = λ _. found;
}

pub next_touched_not : (segment : Segment) (from next : ℕ) → from ≤ 1048576 → next ≡ max from (segment.start / 4096) → touches next segment ≡ false → IsNextOf (λ page. touches page segment) from 1048576
next_touched_not segment from next low at missing =
    next_none (λ page. touches page segment) from low
    (λ page above under.
    false_from_ne_true (touches page segment)
    (λ found.
    let parts = and_parts (nat_lt segment.start (4096 * page + 4096)) (nat_lt (4096 * page) segment.end) found in
    let begins = ltb-true segment.start (4096 * page + 4096) parts.0 in
    let ends = ltb-true (4096 * page) segment.end parts.1 in
    both_ways (touches next segment) missing
    (and_from _ _ (lt-ltb segment.start (4096 * next + 4096) (omega arith)) (lt-ltb (4096 * next) segment.end (omega arith)))))

-- the next page of the stack of a core
pub next_stack_here : (stack core from next : ℕ) → core < 32 → stack ≤ 4096 → next ≡ max from (983040 - 8192 * core - stack) → next < 983040 - 8192 * core → IsNextOf (λ page. is_stack_page_of stack page core) from next
next_stack_here stack core from next few small at under = record {
  low = omega arith;
  high = omega arith;
  none = λ page low high. below_stack stack page core (omega arith);
  here = λ _. in_stack stack next core (omega arith) (omega arith);
}

pub next_stack_not : (stack core from next : ℕ) → from ≤ 1048576 → core < 32 → stack ≤ 4096 → next ≡ max from (983040 - 8192 * core - stack) → 983040 - 8192 * core ≤ next → IsNextOf (λ page. is_stack_page_of stack page core) from 1048576
next_stack_not stack core from next low few small at over =
    next_none (λ page. is_stack_page_of stack page core) from low
    (λ page above under.
    elim (cases_lt page (983040 - 8192 * core)) [
      | inl lt ↦ below_stack stack page core (omega arith)
      | inr ge ↦ above_stack stack page core (omega arith)
    ])

-- the stacks of no core, and of one more
pub next_stacks_none : (stack from : ℕ) → from ≤ 1048576 → IsNextOf (is_stack_page 0 stack) from 1048576
next_stacks_none stack from low = next_none (is_stack_page 0 stack) from low (λ n _ _. refl)

pub next_stacks_more : (cores stack from x y : ℕ) → IsNextOf (is_stack_page cores stack) from x → IsNextOf (λ page. is_stack_page_of stack page cores) from y → IsNextOf (is_stack_page (cores + 1) stack) from (min x y)
next_stacks_more cores stack from x y first second =
    let start : 0 + cores ≡ cores = omega arith in
    let both = next_both (is_stack_page cores stack) (λ page. is_stack_page_of stack page cores) from x y first second in
    record {
      low = both.low;
      high = both.high;
      none = λ page low high. any_range_more (is_stack_page_of stack page) 0 cores ∙ ap (λ c. is_stack_page cores stack page || is_stack_page_of stack page c) start ∙ both.none page low high;
      here = λ high. any_range_more (is_stack_page_of stack (min x y)) 0 cores ∙ ap (λ c. is_stack_page cores stack (min x y) || is_stack_page_of stack (min x y) c) start ∙ both.here high;
    }
