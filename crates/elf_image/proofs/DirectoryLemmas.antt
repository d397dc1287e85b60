-- Lemmas on the directory of pages: its entries by two indexes, and the entries of one leaf more.
use Rattle.std.proofs.Common.{◌≡◌, ℕ, ◌+◌, ◌-◌, ◌*◌, ◌/◌, ◌%◌, ◌<◌, ◌≤◌, List, [], ◌∷◌, ◌++◌, length, map, get_or, Option, Some, None, Bool, true, false, refl, sym, ◌∙◌, ap, inl, inr, subst, arith, length-append, append_assoc, append-nil}
use Rattle.std.specs.List.{range_with_len}
use Rattle.std.proofs.lemmas.Bool.{cases_lt}
use Rattle.std.proofs.lemmas.List.{get_or_append_left, get_or-append-add}
use Rattle.std.proofs.lemmas.List.FromFn.{get_or-map-range_with_len, length-map-range_with_len, map-range_with_len_more}
use Rattle.std.proofs.Math.Seq.{get_or-append_seam}
use Rattle.elf_image.specs.Layout.{count_below}
use Rattle.elf_image.specs.Directory.{IsComplete, IsCursor, IsDirectoryBelow, page_entry, entry_place}
use Rattle.elf_image.proofs.Counting.{count_below_gap, count_below_in, count_below_lt}
use Rattle.elf_image.specs.PageTable.{IsNextOf}
use Rattle.elf_image.specs.declared.page_directory.Page.{Page}
use Rattle.elf_image.specs.declared.page_table.Permissions.{Permissions}

-- the entry of a mapped page, and of one that is not
pub entry_member : (set : ℕ → Bool) (allowed : ℕ → Permissions) (page place : ℕ) (here : Permissions) → set page ≡ true → count_below set page ≡ place → here ≡ allowed page → Some (record { place = place; permissions = here }) ≡ page_entry set allowed page
entry_member set allowed page place here member counted permitted = rw (member, counted, ← permitted) refl

pub entry_other : (set : ℕ → Bool) (allowed : ℕ → Permissions) (page : ℕ) → set page ≡ false → None ≡ page_entry set allowed page
entry_other set allowed page out = rw out refl

-- a cursor at the first page of all
pub cursor_first : (set : ℕ → Bool) (next : ℕ) → IsNextOf set 0 next → IsCursor set 0 next 0
unfolding count_below
cursor_first set next first = record {
  first = first;
  counted = count_below_gap set 0 next (omega arith) first.none;
}

-- a cursor past a page that is not mapped
pub cursor_later : (set : ℕ → Bool) (from later next place : ℕ) → from ≤ later → later ≤ next → IsCursor set from next place → IsCursor set later next place
cursor_later set from later next place more low cursor = record {
  first = record {
    low = low;
    high = cursor.first.high;
    none = λ page above below. cursor.first.none page (omega arith) below;
    here = cursor.first.here;
  };
  counted = cursor.counted;
}

-- a cursor past a mapped page
pub cursor_more : (set : ℕ → Bool) (from next place : ℕ) → set from ≡ true → count_below set from ≡ place → IsNextOf set (from + 1) next → IsCursor set (from + 1) next (place + 1)
cursor_more set from next place member counted first = record {
  first = first;
  counted = count_below_gap set (from + 1) next first.low first.none ∙ count_below_in set from member ∙ ap (λ n. n + 1) counted;
}

-- a mapped page has its place among all mapped pages
pub cursor_below : (set : ℕ → Bool) (from next place : ℕ) → IsCursor set from next place → next < 1048576 → count_below set 1048576 ≤ 4096 → place < 4096
cursor_below set from next place cursor low few =
    let more = count_below_lt set next 1048576 (cursor.first.here low) low in
    omega (arith, cursor.counted)

-- the directory with no leaf
pub directory_none : (entry : ℕ → Option Page) (leaves : List ℕ) (entries : List (Option Page)) → IsDirectoryBelow entry leaves entries 0
directory_none entry leaves entries = record {
  inside = λ page low. absurd (omega arith);
  finds = λ page low. absurd (omega arith);
}

-- a leaf says what it should of its pages
pub record IsLeaf (entry : ℕ → Option Page) (entries : List (Option Page)) (start first : ℕ) : Type 0 where
  pub inside : start + 1024 ≤ length entries
  pub finds : (rest : ℕ) → rest < 1024 → get_or entries (start + rest) None ≡ entry (first + rest)

-- the directory with one leaf more
pub directory_more : (entry : ℕ → Option Page) (leaves more : List ℕ) (entries wider added : List (Option Page)) (count start : ℕ) → IsDirectoryBelow entry leaves entries (1024 * count) → length leaves ≡ count → more ≡ leaves ++ start ∷ [] → wider ≡ entries ++ added → IsLeaf entry wider start (1024 * count) → IsDirectoryBelow entry more wider (1024 * (count + 1))
directory_more entry leaves more entries wider added count start so_far size adds widens leaf =
    let longer : length wider ≡ length entries + length added = ap length widens ∙ length-append entries added in
    let kept : (page : ℕ) → page < 1024 * count → entry_place more page ≡ entry_place leaves page =
    λ page low.
    let inside : page / 1024 < length leaves = omega arith in
    ap (λ n. n + page % 1024) (ap (λ (xs : List ℕ). get_or xs (page / 1024) 0) adds ∙ get_or_append_left leaves (start ∷ []) 0 (page / 1024) inside) in
    let last : (page : ℕ) → 1024 * count ≤ page → page < 1024 * (count + 1) → entry_place more page ≡ start + page % 1024 =
    λ page above low.
    let at : page / 1024 ≡ length leaves = omega arith in
    ap (λ n. n + page % 1024)
    (ap (λ (xs : List ℕ). get_or xs (page / 1024) 0) adds ∙ ap (λ n. get_or (leaves ++ start ∷ []) n 0) at ∙ get_or-append_seam leaves start [] 0) in
    record {
      inside = λ page low.
          elim (cases_lt page (1024 * count)) [
            | inl lt ↦ let before = so_far.inside page lt in let same = kept page lt in omega arith
            | inr ge ↦ let same = last page ge low in omega (arith, leaf.inside)
          ];
      finds = λ page low.
          elim (cases_lt page (1024 * count)) [
            | inl lt ↦
                let before = so_far.inside page lt in
                ap (λ n. get_or wider n None) (kept page lt)
                ∙ ap (λ (xs : List (Option Page)). get_or xs (entry_place leaves page) None) widens
                ∙ get_or_append_left entries added None (entry_place leaves page) before
                ∙ so_far.finds page lt
            | inr ge ↦
                let whole : 1024 * count + page % 1024 ≡ page = omega arith in
                ap (λ n. get_or wider n None) (last page ge low)
                ∙ leaf.finds (page % 1024) (omega arith)
                ∙ ap entry whole
          ];
    }

-- the leaf that was added last
pub leaf_added : (entry : ℕ → Option Page) (entries wider : List (Option Page)) (start first : ℕ) → wider ≡ entries ++ map entry (range_with_len first 1024) → start ≡ length entries → IsLeaf entry wider start first
leaf_added entry entries wider start first widens at = record {
  inside = omega (arith, ap length widens, length-append entries (map entry (range_with_len first 1024)), length-map-range_with_len entry first 1024);
  finds = λ rest low.
      ap (λ (xs : List (Option Page)). get_or xs (start + rest) None) widens
      ∙ ap (λ n. get_or (entries ++ map entry (range_with_len first 1024)) (n + rest) None) at
      ∙ get_or-append-add entries (map entry (range_with_len first 1024)) rest None
      ∙ get_or-map-range_with_len entry first 1024 rest (first + rest) None low refl;
}

-- the first leaf, where no page of a leaf is mapped
pub leaf_shared : (set : ℕ → Bool) (allowed : ℕ → Permissions) (entries : List (Option Page)) (first next place : ℕ) → IsCursor set first next place → first + 1024 ≤ next → 1024 ≤ length entries → ((rest : ℕ) → rest < 1024 → get_or entries rest None ≡ None) → IsLeaf (page_entry set allowed) entries 0 first
leaf_shared set allowed entries first next place cursor above size empty = record {
  inside = omega arith;
  finds = λ rest low.
      let at : 0 + rest ≡ rest = omega arith in
      ap (λ n. get_or entries n None) at
      ∙ empty rest low
      ∙ entry_other set allowed (first + rest) (cursor.first.none (first + rest) (omega arith) (omega arith));
}

-- one entry more
pub entries_more : (entry : ℕ → Option Page) (old entries wider : List (Option Page)) (first page : ℕ) (last : Option Page) → first ≤ page → entries ≡ old ++ map entry (range_with_len first (page - first)) → wider ≡ entries ++ last ∷ [] → last ≡ entry page → wider ≡ old ++ map entry (range_with_len first (page + 1 - first))
entries_more entry old entries wider first page last low so_far widens here =
    let size : (page - first) + 1 ≡ page + 1 - first = omega arith in
    let at : first + (page - first) ≡ page = omega arith in
    let more : map entry (range_with_len first (page + 1 - first)) ≡ map entry (range_with_len first (page - first)) ++ last ∷ [] =
    ap (λ n. map entry (range_with_len first n)) (sym size)
    ∙ map-range_with_len_more entry first (page - first) page at
    ∙ ap (λ (one : Option Page). map entry (range_with_len first (page - first)) ++ one ∷ []) (sym here) in
    widens
    ∙ ap (λ (xs : List (Option Page)). xs ++ last ∷ []) so_far
    ∙ append_assoc (old) (map entry (range_with_len first (page - first))) (last ∷ [])
    ∙ ap (λ (xs : List (Option Page)). old ++ xs) (sym more)

-- the entries of the pages of a leaf so far, with the cursor at the next page
pub record IsFilled (set : ℕ → Bool) (allowed : ℕ → Permissions) (old entries : List (Option Page)) (first page next place : ℕ) : Type 0 where
  pub added : entries ≡ old ++ map (page_entry set allowed) (range_with_len first (page - first))
  pub cursor : IsCursor set page next place

-- with the entry of a mapped page
pub filled_mapped : (set : ℕ → Bool) (allowed : ℕ → Permissions) (old entries wider : List (Option Page)) (first page next place later : ℕ) (here : Permissions) → IsFilled set allowed old entries first page next place → first ≤ page → page < 1048576 → page ≡ next → here ≡ allowed page → wider ≡ entries ++ Some (record { place = place; permissions = here }) ∷ [] → IsNextOf set (page + 1) later → IsFilled set allowed old wider first (page + 1) later (place + 1)
filled_mapped set allowed old entries wider first page next place later here so_far low high same permitted widens beyond =
    let member : set page ≡ true = ap set same ∙ so_far.cursor.first.here (omega arith) in
    let counted : count_below set page ≡ place = ap (count_below set) same ∙ so_far.cursor.counted in
    record {
      added = entries_more (page_entry set allowed) old entries wider first page (Some (record { place = place; permissions = here })) low so_far.added widens
          (entry_member set allowed page place here member counted permitted);
      cursor = cursor_more set page later place member counted beyond;
    }

-- with the entry of a page that is not mapped
pub filled_other : (set : ℕ → Bool) (allowed : ℕ → Permissions) (old entries wider : List (Option Page)) (first page next place : ℕ) → IsFilled set allowed old entries first page next place → first ≤ page → (page ≡ next → ⊥) → wider ≡ entries ++ None ∷ [] → IsFilled set allowed old wider first (page + 1) next place
filled_other set allowed old entries wider first page next place so_far low other widens =
    let above = so_far.cursor.first.low in
    let out : set page ≡ false = so_far.cursor.first.none page (omega arith) (omega arith) in
    record {
      added = entries_more (page_entry set allowed) old entries wider first page None low so_far.added widens (entry_other set allowed page out);
      cursor = cursor_later set page (page + 1) next place (omega arith) (omega arith) so_far.cursor;
    }

-- the directory of the first leaves, with the cursor at the first page of the next one
pub record IsBuilt (set : ℕ → Bool) (allowed : ℕ → Permissions) (leaves : List ℕ) (entries : List (Option Page)) (count next place : ℕ) : Type 0 where
  pub directory : IsDirectoryBelow (page_entry set allowed) leaves entries (1024 * count)
  pub size : length leaves ≡ count
  pub cursor : IsCursor set (1024 * count) next place
  pub some : 1024 ≤ length entries
  pub few : length entries ≤ 1024 * (count + 1)
  pub empty : (rest : ℕ) → rest < 1024 → get_or entries rest None ≡ None

pub built_none : (set : ℕ → Bool) (allowed : ℕ → Permissions) (leaves : List ℕ) (entries : List (Option Page)) (next : ℕ) → leaves ≡ [] → length entries ≡ 1024 → ((rest : ℕ) → rest < 1024 → get_or entries rest None ≡ None) → IsNextOf set 0 next → IsBuilt set allowed leaves entries 0 next 0
built_none set allowed leaves entries next none size empty first = record {
  directory = directory_none (page_entry set allowed) leaves entries;
  size = ap length none;
  cursor = cursor_first set next first;
  some = omega arith;
  few = omega arith;
  empty = empty;
}

-- with a leaf of its own for the next pages
pub built_leaf : (set : ℕ → Bool) (allowed : ℕ → Permissions) (leaves more : List ℕ) (entries wider : List (Option Page)) (count start next place later passed : ℕ) → IsBuilt set allowed leaves entries count next place → start ≡ length entries → more ≡ leaves ++ start ∷ [] → wider ≡ entries ++ map (page_entry set allowed) (range_with_len (1024 * count) 1024) → IsCursor set (1024 * count + 1024) later passed → IsBuilt set allowed more wider (count + 1) later passed
built_leaf set allowed leaves more entries wider count start next place later passed built at adds widens cursor =
    let added = map (page_entry set allowed) (range_with_len (1024 * count) 1024) in
    let longer : length wider ≡ length entries + 1024 =
    ap length widens
    ∙ length-append entries added
    ∙ ap (λ n. length entries + n) (length-map-range_with_len (page_entry set allowed) (1024 * count) 1024) in
    let end : 1024 * count + 1024 ≡ 1024 * (count + 1) = omega arith in
    let some = built.some in
    let few = built.few in
    record {
      directory = directory_more (page_entry set allowed) leaves more entries wider added count start built.directory built.size adds widens
          (leaf_added (page_entry set allowed) entries wider start (1024 * count) widens at);
      size = ap length adds ∙ length-append leaves (start ∷ []) ∙ ap (λ n. n + 1) built.size;
      cursor = subst (λ n. IsCursor set n later passed) end cursor;
      some = omega arith;
      few = omega arith;
      empty = λ rest low.
          let inside : rest < length entries = omega arith in
          ap (λ (xs : List (Option Page)). get_or xs rest None) widens
          ∙ get_or_append_left entries added None rest inside
          ∙ built.empty rest low;
    }

-- with the first leaf for the next pages
pub built_shared : (set : ℕ → Bool) (allowed : ℕ → Permissions) (leaves more : List ℕ) (entries : List (Option Page)) (count next place : ℕ) → IsBuilt set allowed leaves entries count next place → more ≡ leaves ++ 0 ∷ [] → 1024 * count + 1024 ≤ next → IsBuilt set allowed more entries (count + 1) next place
built_shared set allowed leaves more entries count next place built adds above =
    let few = built.few in
    record {
      directory = directory_more (page_entry set allowed) leaves more entries entries [] count 0 built.directory built.size adds (sym (append-nil entries))
          (leaf_shared set allowed entries (1024 * count) next place built.cursor above built.some built.empty);
      size = ap length adds ∙ length-append leaves (0 ∷ []) ∙ ap (λ n. n + 1) built.size;
      cursor = cursor_later set (1024 * count) (1024 * (count + 1)) next place (omega arith) (omega arith) built.cursor;
      some = built.some;
      few = omega arith;
      empty = built.empty;
    }

-- a directory of all leaves has all pages
pub directory_whole : (entry : ℕ → Option Page) (leaves : List ℕ) (entries : List (Option Page)) → IsDirectoryBelow entry leaves entries 1048576 → length leaves ≡ 1024 → IsComplete leaves entries
directory_whole entry leaves entries all size = record { size = size; inside = all.inside }
