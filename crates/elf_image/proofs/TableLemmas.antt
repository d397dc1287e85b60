-- Lemmas on the list of mapped pages.
use Rattle.std.proofs.Common.{◌≡◌, ℕ, ◌+◌, ◌<◌, ◌≤◌, List, [], ◌∷◌, ◌++◌, length, get_or, Bool, true, sym, ◌∙◌, ap, inl, inr, subst, arith, length-append}
use Rattle.std.proofs.lemmas.Bool.{cases_lt}
use Rattle.std.proofs.lemmas.List.{get_or_append_left}
use Rattle.std.proofs.Math.Seq.{get_or-append_seam}
use Rattle.elf_image.specs.Layout.{count_below}
use Rattle.elf_image.specs.PageTable.{IsListedBelow, IsMember, IsNextOf}
use Rattle.elf_image.proofs.Counting.{count_below_gap, count_below_in, count_below_mono}

-- the empty list, below the first page of the set
pub table_none : (set : ℕ → Bool) (mapped : List ℕ) (next : ℕ) → mapped ≡ [] → IsNextOf set 0 next → IsListedBelow set mapped next
unfolding count_below
table_none set mapped next none first =
    let size : length mapped ≡ 0 = ap length none in
    record {
      counted = size ∙ sym (count_below_gap set 0 next (omega arith) first.none);
      members = λ k low. absurd (omega arith);
    }

-- a member below a bound is one below a greater bound
pub member_further : (set : ℕ → Bool) (bound further page place : ℕ) → bound ≤ further → IsMember set bound page place → IsMember set further page place
member_further set bound further page place more member = record {
  below = omega (arith, member.below);
  in_set = member.in_set;
  at_place = member.at_place;
}

-- up to the next page of the set
pub table_gap : (set : ℕ → Bool) (mapped : List ℕ) (bound next : ℕ) → IsListedBelow set mapped bound → IsNextOf set bound next → IsListedBelow set mapped next
table_gap set mapped bound next so_far first = record {
  counted = so_far.counted ∙ sym (count_below_gap set bound next first.low first.none);
  members = λ k low. member_further set bound next (get_or mapped k 0) k first.low (so_far.members k low);
}

-- the pages with one more
pub table_more : (set : ℕ → Bool) (mapped more : List ℕ) (bound : ℕ) → IsListedBelow set mapped bound → set bound ≡ true → more ≡ mapped ++ bound ∷ [] → IsListedBelow set more (bound + 1)
table_more set mapped more bound so_far in_set adds =
    let size : length more ≡ length mapped + 1 = ap length adds ∙ length-append mapped (bound ∷ []) in
    let seam : get_or more (length mapped) 0 ≡ bound =
    ap (λ (xs : List ℕ). get_or xs (length mapped) 0) adds ∙ get_or-append_seam mapped bound [] 0 in
    let before : (k : ℕ) → k < length mapped → get_or more k 0 ≡ get_or mapped k 0 =
    λ k low. ap (λ (xs : List ℕ). get_or xs k 0) adds ∙ get_or_append_left mapped (bound ∷ []) 0 k low in
    record {
      counted = size ∙ ap (λ n. n + 1) so_far.counted ∙ sym (count_below_in set bound in_set);
      members = λ k low.
          elim (cases_lt k (length mapped)) [
            | inl lt ↦ subst (λ (page : ℕ). IsMember set (bound + 1) page k) (sym (before k lt))
                (member_further set bound (bound + 1) (get_or mapped k 0) k (omega arith) (so_far.members k lt))
            | inr ge ↦
                let at_end : k ≡ length mapped = omega arith in
                let same : bound ≡ get_or more k 0 = sym (ap (λ n. get_or more n 0) at_end ∙ seam) in
                subst (λ (page : ℕ). IsMember set (bound + 1) page k) same (record {
                  below = omega arith;
                  in_set = in_set;
                  at_place = sym so_far.counted ∙ sym at_end;
                })
          ];
    }

-- a full list below a member leaves too many
pub table_full : (set : ℕ → Bool) (mapped : List ℕ) (page size : ℕ) → IsListedBelow set mapped page → set page ≡ true → page < 1048576 → size ≡ length mapped → 4096 ≤ size → 4096 < count_below set 1048576
table_full set mapped page size so_far here low counted full =
    let one = count_below_in set page here in
    let more = count_below_mono set (page + 1) 1048576 (omega arith) in
    omega (arith, so_far.counted)
