-- Lemmas on counting the numbers of a set below a number, and on finding the one with a given count.
use Rattle.std.proofs.Common.{◌≡◌, ℕ, zero, suc, ◌+◌, ◌<◌, ◌≤◌, Bool, true, false, if◌then◌else◌, refl, sym, ◌∙◌, ap, arith, add-one, ◌-◌, subst, inl, inr, add-zero}
use Rattle.std.proofs.lemmas.Bool.{cases_lt}
use Rattle.elf_image.specs.Layout.{count_below, nth_from}

-- one more number, in the set and not in it
pub count_below_next : (set : ℕ → Bool) (n : ℕ) → count_below set (n + 1) ≡ count_below set n + (if set n then 1 else 0)
unfolding count_below
count_below_next set n = rw add-one refl

pub count_below_in : (set : ℕ → Bool) (n : ℕ) → set n ≡ true → count_below set (n + 1) ≡ count_below set n + 1
count_below_in set n h = rw (count_below_next set n, h) refl

pub count_below_out : (set : ℕ → Bool) (n : ℕ) → set n ≡ false → count_below set (n + 1) ≡ count_below set n
count_below_out set n h = rw (count_below_next set n, h) (omega arith)

-- a count grows by at most one at each number
pub count_below_le_next : (set : ℕ → Bool) (n : ℕ) → count_below set n ≤ count_below set (n + 1)
count_below_le_next set n = rw (count_below_next set n) (omega arith)

pub count_below_mono_by : (set : ℕ → Bool) (n k : ℕ) → count_below set n ≤ count_below set (n + k)
count_below_mono_by set n zero = rw (add-zero) (omega arith)
count_below_mono_by set n (suc k) =
    let more = count_below_mono_by set (n + 1) k in
    let one = count_below_le_next set n in
    let same : (n + 1) + k ≡ n + suc k = omega arith in
    rw (← same) (omega arith)

pub count_below_mono : (set : ℕ → Bool) (n m : ℕ) → n ≤ m → count_below set n ≤ count_below set m
count_below_mono set n m h =
    let same : n + (m - n) ≡ m = omega arith in
    let P : ℕ → Type 0 = λ v. count_below set n ≤ count_below set v in
    subst P same (count_below_mono_by set n (m - n))

-- a member is passed by the count of what lies above it
pub count_below_lt : (set : ℕ → Bool) (n m : ℕ) → set n ≡ true → n < m → count_below set n < count_below set m
count_below_lt set n m h lt =
    let one = count_below_in set n h in
    let more = count_below_mono set (n + 1) m (omega arith) in
    omega arith

-- the count of a set is at most the count of all
pub count_below_le : (set : ℕ → Bool) (n : ℕ) → count_below set n ≤ n
unfolding count_below
count_below_le set zero = omega arith
count_below_le set (suc n) =
    let h = count_below_le set n in
    elim (set n) as (λ b. count_below set n + (if b then 1 else 0) ≤ suc n) [ true ↦ omega arith | false ↦ omega arith ]

-- where no number from a on is in the set, the count stays
pub count_below_gap_by : (set : ℕ → Bool) (a k : ℕ) → ((n : ℕ) → a ≤ n → n < a + k → set n ≡ false) → count_below set (a + k) ≡ count_below set a
count_below_gap_by set a zero none = rw add-zero refl
count_below_gap_by set a (suc k) none =
    let same : (a + k) + 1 ≡ a + suc k = omega arith in
    let last : set (a + k) ≡ false = none (a + k) (omega arith) (omega arith) in
    rw (← same) (count_below_out set (a + k) last ∙ count_below_gap_by set a k (λ n low high. none n low (omega arith)))

pub count_below_gap : (set : ℕ → Bool) (a b : ℕ) → a ≤ b → ((n : ℕ) → a ≤ n → n < b → set n ≡ false) → count_below set b ≡ count_below set a
count_below_gap set a b low none =
    let same : a + (b - a) ≡ b = omega arith in
    let P : ℕ → Type 0 = λ v. count_below set v ≡ count_below set a in
    subst P same (count_below_gap_by set a (b - a) (λ n from to. none n from (omega arith)))

-- nothing is counted below 0
pub count_from_zero : (set : ℕ → Bool) (n : ℕ) → count_below set 0 + n ≡ n
unfolding count_below
count_from_zero set n = omega arith

-- two members with the same count are one
pub at_the_count : (set : ℕ → Bool) (m n : ℕ) → m ≤ n → set m ≡ true → set n ≡ true → count_below set m ≡ count_below set n → m ≡ n
at_the_count set m n low here member same =
    elim (cases_lt m n) [ inl lt ↦ absurd (let more = count_below_lt set m n here lt in omega arith) | inr ge ↦ omega arith ]

-- a greater count is further on
pub above_the_count : (set : ℕ → Bool) (m n j : ℕ) → m ≤ n → count_below set m + suc j ≡ count_below set n → m + 1 ≤ n
above_the_count set m n j low more =
    elim (cases_lt m n) [
      | inl lt ↦ omega arith
      | inr ge ↦
          let same : m ≡ n = omega arith in
          let counts : count_below set m ≡ count_below set n = ap (count_below set) same in
          absurd (omega arith)
    ]

-- a member is no gap
pub above_a_gap : (set : ℕ → Bool) (m n : ℕ) → m ≤ n → set m ≡ false → set n ≡ true → m + 1 ≤ n
above_a_gap set m n low gap member =
    elim (cases_lt m n) [
      | inl lt ↦ omega arith
      | inr ge ↦
          let same : m ≡ n = omega arith in
          let both : set m ≡ set n = ap set same in
          absurd (let clash : true ≡ false = sym member ∙ sym both ∙ gap in cc)
    ]

-- the member with k members from `from` on below it
pub nth_from_count : (set : ℕ → Bool) (fuel from k n : ℕ) → from ≤ n → n < from + fuel → set n ≡ true → count_below set from + k ≡ count_below set n → nth_from set fuel from k ≡ n
unfolding nth_from
nth_from_count set zero from k n low high member count = absurd (omega arith)
nth_from_count set (suc fuel) from k n low high member count =
    elim (set from) as (λ b. set from ≡ b → (elim b [ true ↦ elim k [ zero ↦ from | suc j ↦ nth_from set fuel (from + 1) j ] | false ↦ nth_from set fuel (from + 1) k ]) ≡ n) [
      | true ↦ λ here.
          elim k as (λ m. count_below set from + m ≡ count_below set n → (elim m [ zero ↦ from | suc j ↦ nth_from set fuel (from + 1) j ]) ≡ n) [
            | zero ↦ λ same. at_the_count set from n low here member (omega arith)
            | suc j ↦ λ more.
                let next = count_below_in set from here in
                let above : from + 1 ≤ n = above_the_count set from n j low more in
                nth_from_count set fuel (from + 1) j n above (omega arith) member (omega arith)
          ] count
      | false ↦ λ here.
          let next = count_below_out set from here in
          let above : from + 1 ≤ n = above_a_gap set from n low here member in
          nth_from_count set fuel (from + 1) k n above (omega arith) member (omega arith)
    ] refl
